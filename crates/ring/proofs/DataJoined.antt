-- A receipt of data is a call of the protocol: of a message that is known, or the receiver's own, or to be relayed.
use Rattle.std.proofs.Common.{◌≡◌, ℕ, ◌^◌, ◌<◌, ◌≤◌, Bool, true, false, not, ◌||◌, eqb, sym, refl, ap, ◌∙◌, subst, inl, inr}
use Rattle.std.proofs.Common.{arith}
use mathlib.Core.Path.{fun_ext}
use Rattle.std.proofs.lemmas.Bool.{cases_Bool, cases_eq, both_ways, eqb-true, eq-eqb, ne_eqb, cond-true, cond-false, and_from}
use Rattle.std.proofs.lemmas.Bool.{and_left, and_right, not_from_true, not_from_false}
use Rattle.record.specs.Kind.{Kind}
use Rattle.chooser.specs.Meaning.{Meaning}
use Rattle.protocol.specs.Nodes.{after_data as after_message}
use Rattle.protocol.specs.Runs.{receives_known, receives_own, relays}
use Rattle.protocol.specs.Setters.{with_received}
use Rattle.protocol.specs.Sets.{Set, ◌∈◌, ◌∉◌, only, ◌∪◌}
use Rattle.rows.specs.Letters.{data_letter}
use Rattle.rows.specs.Masks.{has, minus, within}
use Rattle.rows.specs.Receipts.{after_data, from_another}
use Rattle.rows.specs.declared.letter.Letter.{Letter}
use Rattle.rows.specs.declared.row.Row.{Row}
use Rattle.rows.specs.declared.size.RingSize.{RingSize}
use Rattle.rows.proofs.Anys.{any_true, any_false}
use Rattle.ring.specs.World.{World, letter_at}
use Rattle.ring.specs.Promises.{broadcaster}
use Rattle.ring.specs.Receive.{must_relay, received}
use Rattle.ring.proofs.Called.{Called}
use Rattle.ring.proofs.Changing.{bounds, fine_row}
use Rattle.ring.proofs.Membership.{has_minus, within_has, known_small, set_or}
use Rattle.ring.proofs.ReceiptWays.{Accepted, taker_row, row_after, it_counts, uncounted, taker_before, taker_after, seen_after}
use Rattle.ring.proofs.ReceiptWays.{unspoilt, taker_fine, takes, silent, sends, becomes, same_nodes, receipt_joined}
use Rattle.ring.proofs.Seeing.{RowFine, Joined}

module _ {K : Kind} {z : RingSize} {need : ℕ} {low : 1 ≤ need} {high : need ≤ z.q} {w : World} {M : Meaning}
    (j : Joined K z need low high w M) (place : ℕ) (t : Accepted w place) (kind : (letter_at w place).kind ≡ data_letter) where
  -- the letter
  abbrev letter : Letter
  letter = letter_at w place

  -- the row of its receiver
  abbrev row : Row
  row = taker_row w place

  -- ---- the message

  -- the only one of the letter
  message : ℕ
  message = ((unspoilt j place t).data_one kind).0

  -- it is
  message_is : has letter.set ≡ only message
  unfolding message
  message_is = ((unspoilt j place t).data_one kind).1

  -- so it is in the letter
  message_in : message ∈ has letter.set
  message_in = ap (λ (S : Set). S message) message_is ∙ eq-eqb message message refl

  -- and no other
  no_other : (i : ℕ) → (i ≡ message → ⊥) → i ∉ has letter.set
  no_other i d = ap (λ (S : Set). S i) message_is ∙ ne_eqb i message d

  -- what is in the letter was broadcast
  below_64 : (i : ℕ) → i ∈ has letter.set → i < 64
  below_64 i h = omega (arith, (unspoilt j place t).known i h, j.ok.book.messages_le)

  -- so its mask is small
  set_small : letter.set < 2 ^ 64
  set_small = known_small 64 letter.set below_64

  -- and so is the one of what its receiver has
  received_small : row.received < 2 ^ 64
  received_small = (bounds j letter.receiver (unspoilt j place t).receiver_in).received

  -- a message that the receiver has is no news
  known_within : message ∈ has row.received → within letter.set row.received ≡ true
  known_within h =
      let none : (i : ℕ) → has (minus letter.set row.received) i ≡ false = λ i.
      has_minus letter.set row.received i set_small received_small ∙ elim (cases_eq i message) [
        | inl e ↦ and_right _ _ (not_from_true _ (ap (has row.received) e ∙ h))
        | inr d ↦ and_left _ _ (no_other i d)
      ] in
      eq-eqb _ 0 (omega (arith, known_small 0 (minus letter.set row.received) (λ i p. absurd (both_ways _ (none i) p))))

  -- and one that it has not is
  new_beyond : message ∉ has row.received → within letter.set row.received ≡ false
  new_beyond h = elim (cases_Bool (within letter.set row.received)) [
    | inl e ↦ absurd (both_ways _ h
        (within_has letter.set row.received set_small received_small e message message_in))
    | inr e ↦ e
  ]

  -- the receiver's own message is not of another node
  not_another : broadcaster w message ≡ letter.receiver
      → from_another w.ring.broadcasters letter.receiver letter.set ≡ false
  not_another e = any_false _ 64 (λ i l. elim (cases_eq i message) [
    | inl p ↦ and_right _ _ (not_from_true _ (eq-eqb _ _ (ap (broadcaster w) p ∙ e)))
    | inr d ↦ and_left _ _ (no_other i d)
  ])

  -- ---- what it does

  -- the row after it
  row_is : row_after w place ≡ after_data letter row
  row_is = cond-true _ _ _ (eq-eqb _ _ kind)

  -- the sheets stay
  sheets_stay : (received w place).sheets ≡ w.sheets
  sheets_stay = cond-false (it_counts w place) _ _ (uncounted w place (λ e. omega (arith, e, kind)))

  -- the message joins the received ones
  taker_is : taker_after w place ≡ after_message message (taker_before w place)
  taker_is =
      seen_after w place w.sheets (after_data letter row) sheets_stay row_is
      ∙ ap (λ (S : Set). with_received S (taker_before w place))
      (set_or row.received letter.set ∙ ap (λ (S : Set). has row.received ∪ S) message_is)

  -- the row stays fine
  row_fine : RowFine z (row_after w place)
  row_fine = subst (λ (r : Row). RowFine z r) (sym row_is) (fine_row (taker_fine j place t) refl refl refl)

  -- ---- the three ways

  -- the receiver has the message
  known_joined : message ∈ has row.received → Called K z need low high w M (received w place) M
  known_joined h = receipt_joined j place t row_fine (receives_known place message (record {
    takes = takes j place t;
    kind = kind;
    message = message_is;
    known = h;
    silent = silent j place t (and_right _ _ (and_left _ _ (not_from_true _ (known_within h))));
    nodes = same_nodes j place t
        (taker_is ∙ ap (λ (S : Set). with_received S (taker_before w place)) (fun_ext absorbed));
  }))
    where
      -- a test that passes only where another does adds nothing to it
      joins : (a b : Bool) → (b ≡ true → a ≡ true) → (a || b) ≡ a
      joins true b f = refl
      joins false true f = sym (f refl)
      joins false false f = refl

      -- so the message adds nothing to what the receiver has
      absorbed : (i : ℕ) → (has row.received i || eqb i message) ≡ has row.received i
      absorbed i = joins (has row.received i) (eqb i message) (λ e. ap (has row.received) (eqb-true i message e) ∙ h)

  -- it broadcast the message
  own_joined : message ∉ has row.received → broadcaster w message ≡ letter.receiver
      → Called K z need low high w M (received w place) M
  own_joined h own = receipt_joined j place t row_fine (receives_own place message (record {
    takes = takes j place t;
    kind = kind;
    message = message_is;
    new = h;
    own = own;
    silent = silent j place t (and_right (eqb letter.kind data_letter) _
        (and_right (not (within letter.set row.received)) _ (not_another own)));
    becomes = becomes j place t (after_message message (taker_before w place)) taker_is;
  }))

  -- the message is new to it
  relay_joined : message ∉ has row.received → (broadcaster w message ≡ letter.receiver → ⊥)
      → Called K z need low high w M (received w place) M
  relay_joined h d = receipt_joined j place t row_fine (relays place message (record {
    takes = takes j place t;
    kind = kind;
    message = message_is;
    new = h;
    not_own = d;
    sends = sends j place t must (only message) message_is;
    becomes = becomes j place t (after_message message (taker_before w place)) taker_is;
  }))
    where
      -- it is to be relayed
      must : must_relay w.ring letter ≡ true
      must = and_from _ _ (eq-eqb _ _ kind) (and_from _ _ (not_from_false _ (new_beyond h))
          (any_true _ 64 message (below_64 message message_in) (and_from _ _ message_in (not_from_false _ (ne_eqb _ _ d)))))

  -- a receipt of data keeps all that holds of a world of a day
  pub data_joined : Called K z need low high w M (received w place) M
  data_joined = elim (cases_Bool (has row.received message)) [
    | inl h ↦ known_joined h
    | inr h ↦ elim (cases_eq (broadcaster w message) letter.receiver) [ inl e ↦ own_joined h e | inr d ↦ relay_joined h d ]
  ]
