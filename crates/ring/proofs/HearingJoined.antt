-- A receipt of an acknowledgement is a call of the protocol: it is heard, or it passes.
use Rattle.std.proofs.Common.{◌≡◌, ℕ, ◌*◌, ◌^◌, ◌<◌, ◌≤◌, Bool, true, false, not, ◌&&◌, ◌||◌, eqb, leb, ◌⊎◌, List, ◌++◌, length}
use Rattle.std.proofs.Common.{get_or, take, drop, sym, ap, ◌∙◌, subst, ap₂, inl, inr, arith}
use lib.Bits.{bit_or, or_lt}
use lib.Count.{ones}
use lib.ListN.{get_or-eq_default}
use mathlib.Core.Bool.{and_assoc}
use mathlib.Core.Path.{fun_ext}
use Rattle.std.proofs.lemmas.Bool.Decides.{nat_tests}
use Rattle.std.proofs.lemmas.Bool.{cases_Bool, cases_eq, cases_lt, both_ways, eqb-true, eq-eqb, ne_eqb, lt-ltb, lt-leb, and_from}
use Rattle.std.proofs.lemmas.Bool.{and_parts, and_left, not_from_true, not_from_false, cond-true, cond-false}
use Rattle.record.specs.Kind.{Kind}
use Rattle.chooser.specs.Meaning.{Meaning}
use Rattle.protocol.specs.Lists.{ascending}
use Rattle.protocol.specs.Nodes.{heard_also as also-heard, newly as new-to, after_hearing as hearing}
use Rattle.protocol.specs.Ring.{Size, Node as Seen-node}
use Rattle.protocol.specs.Runs.{hears, passes_acknowledgement}
use Rattle.protocol.specs.Sets.{Set, count, ◌∖◌, ◌∪◌}
use Rattle.rows.specs.Letters.{data_letter, acknowledgement, check_letter}
use Rattle.rows.specs.Masks.{has, minus}
use Rattle.rows.specs.Receipts.{heard_also, is_reached, newly, after_hearing, is_gathering, is_check}
use Rattle.rows.specs.Rows.{on_sheet}
use Rattle.rows.specs.declared.letter.Letter.{Letter}
use Rattle.rows.specs.declared.row.Row.{Row}
use Rattle.rows.specs.declared.size.RingSize.{RingSize}
use Rattle.ring.specs.World.{World, quorum_of, letter_at}
use Rattle.ring.specs.Receive.{must_relay, received}
use Rattle.ring.proofs.Called.{Called}
use Rattle.ring.proofs.Changing.{nodes_are, quorum_is, bounds, sheet_small}
use Rattle.ring.proofs.HeardEntries.{entry, heard_length, heard_beyond, heard_within, entry_has, entry_small}
use Rattle.ring.proofs.Membership.{neither, has_or, has_high, has_minus, minus_small}
use Rattle.ring.proofs.Membership.{same_sets, set_or, set_minus, known_small, ones_count, those_set}
use Rattle.ring.proofs.ReceiptWays.{Accepted, taker_row, row_after, it_counts, quorum_has, sheets_grown, unrelayed}
use Rattle.ring.proofs.ReceiptWays.{taker_before, taker_after, seen_after, unspoilt, taker_fine, quorum_small}
use Rattle.ring.proofs.ReceiptWays.{takes, silent, becomes, same_nodes, receipt_joined}
use Rattle.ring.proofs.Seeing.{shown, RowFine, size_of, Joined}
use Rattle.ring.proofs.SheetsGrow.{grown_here}

-- ---- what stands on a sheet

-- adding what is missing is adding all
missing : (d e u : Bool) → (d || (e || (u && not (d || e)))) ≡ ((d || e) || u)
missing d e u = grind (arith, nat_tests)

-- the same of masks
missing_set : (d e u : ℕ) → d < 2 ^ 64 → e < 2 ^ 64 → u < 2 ^ 64 →
    bit_or d (bit_or e (minus u (bit_or d e))) ≡ bit_or (bit_or d e) u
missing_set d e u hd he hu =
    let both = or_lt 64 d e hd he in
    same_sets 64 _ _ (or_lt 64 d _ hd (or_lt 64 e _ he (minus_small u (bit_or d e) hu))) (or_lt 64 _ u both hu) (λ i l.
    has_or d _ i ∙ ap (λ (v : Bool). has d i || v) (has_or e _ i ∙ ap (λ (v : Bool). has e i || v)
    (has_minus u (bit_or d e) i hu both ∙ ap (λ (v : Bool). has u i && not v) (has_or d e i)))
    ∙ missing (has d i) (has e i) (has u i)
    ∙ sym (has_or (bit_or d e) u i ∙ ap (λ (v : Bool). v || has u i) (has_or d e i)))

module _ {K : Kind} {z : RingSize} {need : ℕ} {low : 1 ≤ need} {high : need ≤ z.q} {w : World} {M : Meaning}
    (j : Joined K z need low high w M) (place : ℕ) (t : Accepted w place)
    (kind : (letter_at w place).kind ≡ acknowledgement) where
  -- the letter
  abbrev letter : Letter
  letter = letter_at w place

  -- the row of its receiver
  abbrev row : Row
  row = taker_row w place

  -- the quorum
  abbrev quorum : ℕ
  quorum = quorum_of w.ring.size

  -- whom the row has heard once the letter is heard too
  abbrev heard : List ℕ
  heard = heard_also letter row

  -- the size of the ring for the protocol
  abbrev ring_size : Size
  ring_size = size_of z need low high

  -- the receiver as it is seen
  abbrev taker : Seen-node
  taker = taker_before w place

  -- the messages that the letter carries
  abbrev carried : Set
  carried = has letter.set

  -- whom the receiver has heard then
  abbrev also : ℕ → Set
  also = also-heard taker letter.sender carried

  -- what it delivers by that
  abbrev news : Set
  news = new-to ring_size taker letter.sender carried

  -- the receiver is in the ring
  in_ring : letter.receiver < z.n
  in_ring = (unspoilt j place t).receiver_in

  -- and its row is fine
  fine : RowFine z row
  fine = taker_fine j place t

  -- the letter carries messages below 64
  set_small : letter.set < 2 ^ 64
  set_small = known_small 64 letter.set (λ m h. omega (arith, (unspoilt j place t).known m h, j.ok.book.messages_le))

  -- ---- whom the receiver has heard

  -- the entry of a message
  entry_is : (m : ℕ) → m < 64 → get_or heard m 0 ≡ entry row.heard letter.sender letter.set m
  entry_is m l = heard_within row.heard letter.sender letter.set 64 m l (omega (arith, fine.heard_length))

  -- beyond the entries nothing changes
  entry_stays : (m : ℕ) → 64 ≤ m → get_or heard m 0 ≡ get_or row.heard m 0
  entry_stays m l = heard_beyond row.heard letter.sender letter.set 64 m l

  -- the entries are the sets of the protocol
  heard_is : (m : ℕ) → has (get_or heard m 0) ≡ also m
  heard_is m = fun_ext (λ y. elim (cases_lt m 64) [
    | inl l ↦ ap (λ (a : ℕ). has a y) (entry_is m l) ∙ entry_has (carried m) (get_or row.heard m 0) letter.sender y
    | inr l ↦ ap (λ (a : ℕ). has a y) (entry_stays m l) ∙ entry_has false (get_or row.heard m 0) letter.sender y
        ∙ sym (ap (λ (v : Bool). taker.heard m y || (eqb y letter.sender && v)) (has_high 64 letter.set m set_small l))
  ])

  -- and name nodes of the ring
  heard_small : (m : ℕ) → get_or heard m 0 < 2 ^ z.n
  heard_small m = elim (cases_lt m 64) [
    | inl l ↦ subst (λ (a : ℕ). a < 2 ^ z.n) (sym (entry_is m l))
        (entry_small (carried m) (get_or row.heard m 0) letter.sender z.n (fine.heard_nodes m)
        (unspoilt j place t).sender_in)
    | inr l ↦ subst (λ (a : ℕ). a < 2 ^ z.n) (sym (entry_stays m l)) (fine.heard_nodes m)
  ]

  -- there are as many
  length_is : length heard ≡ 64
  length_is = heard_length row.heard letter.sender letter.set 64 ∙ fine.heard_length

  -- ---- what a quorum has acknowledged

  -- no message from 64 on
  none_beyond : (m : ℕ) → 64 ≤ m → is_reached heard quorum m ≡ false
  unfolding count
  none_beyond m l =
      ap (λ (a : ℕ). leb quorum (ones a)) (get_or-eq_default heard 0 (omega (arith, l, length_is)))
      ∙ ap₂ leb (quorum_is j.fine) (ones_count 0 0 (omega arith)) ∙ lt-leb z.q 0 (omega (arith, z.quorum))

  -- of the others those that the protocol says
  quorum_has_is : (m : ℕ) → has (quorum_has w place) m ≡ leb z.q (count z.n (also m))
  quorum_has_is m =
      ap (λ (f : Set). f m) (those_set (is_reached heard quorum) 64 none_beyond)
      ∙ ap₂ leb (quorum_is j.fine) (ones_count z.n (get_or heard m 0) (heard_small m) ∙ ap (count z.n) (heard_is m))

  -- what of it is new
  new_is : (has (quorum_has w place) ∖ has (on_sheet row)) ≡ news
  new_is = fun_ext (λ m.
      ap₂ (λ (u v : Bool). u && not v) (quorum_has_is m) (has_or row.delivered row.early m)
      ∙ neither (leb z.q (count z.n (also m))) (has row.delivered m) (has row.early m)
      ∙ and_assoc (leb z.q (count z.n (also m))) (not (has row.delivered m)) (not (has row.early m)))

  -- as the row works it out
  newly_is : has (newly quorum letter row) ≡ news
  newly_is =
      set_minus (quorum_has w place) (on_sheet row) (quorum_small j place t) (sheet_small j letter.receiver in_ring)
      ∙ new_is

  -- ---- the letter is of no other kind

  -- it is no data
  not_data : eqb letter.kind data_letter ≡ false
  not_data = ne_eqb _ _ (λ e. omega (arith, e, kind))

  -- nor a check
  not_check : eqb letter.kind check_letter ≡ false
  not_check = ne_eqb _ _ (λ e. omega (arith, e, kind))

  -- so it is not relayed
  not_relayed : must_relay w.ring letter ≡ false
  not_relayed = unrelayed w place (λ e. omega (arith, e, kind))

  -- ---- hearing

  -- the row once the letter is heard
  abbrev row_hears : Row
  row_hears = after_hearing quorum letter row

  -- the receiver with another early set, others heard and another sheet
  abbrev hears_as : Set → (ℕ → Set) → List ℕ → Seen-node
  hears_as early others sheet = record {
    stage = taker.stage;
    received = taker.received;
    delivered = taker.delivered;
    pending = taker.pending;
    early = early;
    heard = others;
    kept = taker.kept;
    check = taker.check;
    closing = taker.closing;
    proposed = taker.proposed;
    sheet = sheet;
  }

  -- its sheet has grown by what is new
  sheet_is : shown (sheets_grown w place) letter.receiver row_hears ≡ taker.sheet ++ ascending 64 (news)
  sheet_is =
      let b = bounds j letter.receiver in_ring in
      ap (λ (k : ℕ). take (ones k) (drop (64 * letter.receiver) (sheets_grown w place)))
      (missing_set row.delivered row.early (quorum_has w place) b.delivered b.early (quorum_small j place t))
      ∙ grown_here w.sheets letter.receiver (on_sheet row) (quorum_has w place)
      (sheet_small j letter.receiver in_ring) (quorum_small j place t)
      (omega (arith, in_ring, z.high)) t.travels.tables.sheets
      ∙ ap (λ (f : Set). taker.sheet ++ ascending 64 f) new_is

  -- the row after it
  row_is : it_counts w place ≡ true → row_after w place ≡ row_hears
  row_is h = cond-false _ _ _ not_data ∙ cond-true (it_counts w place) _ _ h

  -- the sheets have grown
  sheets_are : it_counts w place ≡ true → (received w place).sheets ≡ sheets_grown w place
  sheets_are h = cond-true (it_counts w place) _ _ h

  -- the receiver is as the protocol says
  taker_is : it_counts w place ≡ true → taker_after w place ≡ hearing ring_size letter.sender carried taker
  taker_is h =
      seen_after w place (sheets_grown w place) row_hears (sheets_are h) (row_is h)
      ∙ ap (λ (f : Set). hears_as f (λ m. has (get_or heard m 0)) (shown (sheets_grown w place) letter.receiver row_hears))
      (set_or row.early (newly quorum letter row) ∙ ap (λ (f : Set). has row.early ∪ f) newly_is)
      ∙ ap₂ (hears_as (has row.early ∪ news)) (fun_ext heard_is) sheet_is

  -- and its row fine
  row_fine : it_counts w place ≡ true → RowFine z (row_after w place)
  row_fine h = subst (λ (r : Row). RowFine z r) (sym (row_is h)) (record {
    heard_length = length_is;
    heard_nodes = heard_small;
    checks_length = fine.checks_length;
    checks_few = fine.checks_few;
    checks_apart = fine.checks_apart;
  })

  -- the acknowledgement counts
  hearing_joined : it_counts w place ≡ true → Called K z need low high w M (received w place) M
  hearing_joined h =
      let parts = and_parts (is_gathering row.phase && eqb letter.kind acknowledgement) _ h in
      let gathers = (and_parts (is_gathering row.phase) _ parts.0).0 in
      let same_stage = (and_parts (eqb letter.stage row.stage) _ parts.1).0 in
      receipt_joined j place t (row_fine h) (hears place (record {
        takes = takes j place t;
        kind = kind;
        stage = eqb-true _ _ same_stage;
        gathering = not_from_true _ gathers;
        silent = silent j place t not_relayed;
        becomes = becomes j place t (hearing ring_size letter.sender carried taker) (taker_is h);
      }))

  -- it does not
  passing_joined : it_counts w place ≡ false → Called K z need low high w M (received w place) M
  passing_joined h = receipt_joined j place t (subst (λ (r : Row). RowFine z r) (sym row_stays) fine)
      (passes_acknowledgement place (record {
        takes = takes j place t;
        kind = kind;
        late = late;
        silent = silent j place t not_relayed;
        nodes = same_nodes j place t (seen_after w place w.sheets row sheets_stay row_stays);
      }))
    where
      -- the row stays
      row_stays : row_after w place ≡ row
      row_stays = cond-false _ _ _ not_data ∙ cond-false (it_counts w place) _ _ h
          ∙ cond-false (is_check letter row) _ _ (and_left _ _ not_check)

      -- the sheets stay
      sheets_stay : (received w place).sheets ≡ w.sheets
      sheets_stay = cond-false (it_counts w place) _ _ h

      -- in a gathering stage of its own it would count
      it_would : is_gathering row.phase ≡ true → letter.stage ≡ row.stage → it_counts w place ≡ true
      it_would g e = and_from _ _ (and_from _ _ g (eq-eqb _ _ kind)) (and_from _ _ (eq-eqb _ _ e)
          (lt-ltb _ _ (omega (arith, (unspoilt j place t).sender_in, nodes_are j.fine))))

      -- so its stage is past or closing
      late : (letter.stage < row.stage) ⊎ (not (is_gathering row.phase) ≡ true)
      late = elim (cases_Bool (is_gathering row.phase)) [
        | inr f ↦ inr (not_from_false _ f)
        | inl g ↦ inl (elim (cases_eq letter.stage row.stage) [
          | inl e ↦ absurd (both_ways (it_counts w place) h (it_would g e))
          | inr d ↦ omega (arith, d, t.not_ahead)
        ])
      ]

  -- a receipt of an acknowledgement keeps all that holds of a world of a day
  pub acknowledgement_joined : Called K z need low high w M (received w place) M
  acknowledgement_joined = elim (cases_Bool (it_counts w place)) [ inl h ↦ hearing_joined h | inr h ↦ passing_joined h ]
