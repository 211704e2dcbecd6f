-- A receipt of a check is a call of the protocol: it is kept, or it passes.
use Rattle.std.proofs.Common.{◌≡◌, ℕ, zero, suc, ◌+◌, ◌<◌, ◌≤◌, Bool, true, false, cond, ◌||◌, eqb, ltb, ◌⊎◌, List, length}
use Rattle.std.proofs.Common.{get_or, set, sym, refl, ap, ◌∙◌, subst, ap₂, inl, inr, add-one, arith}
use mathlib.Core.Path.{fun_ext}
use Rattle.std.proofs.lemmas.List.{get_or-set_same, get_or-set_other, length-set}
use Rattle.std.proofs.lemmas.Bool.{cases_Bool, cases_eq, eq-eqb, ne_eqb, ltb-true, ltb-false, cond-true, cond-false, and_from}
use Rattle.std.proofs.lemmas.Bool.{and_parts, and_cases, and_right, not-true, not-false}
use Rattle.record.specs.Kind.{Kind}
use Rattle.chooser.specs.Meaning.{Meaning}
use Rattle.protocol.specs.Ring.{Node as Seen-node}
use Rattle.protocol.specs.Runs.{keeps_check, passes_check}
use Rattle.protocol.specs.Setters.{with_check as keeping}
use Rattle.protocol.specs.Sets.{Set, ◌∈◌, count}
use Rattle.rows.specs.Letters.{data_letter, check_letter}
use Rattle.rows.specs.Masks.{has}
use Rattle.rows.specs.Receipts.{from_sender, is_kept, after_check, is_check}
use Rattle.rows.specs.Rows.{no_check, with_check}
use Rattle.rows.specs.declared.letter.Letter.{Letter}
use Rattle.rows.specs.declared.row.Check.{Check}
use Rattle.rows.specs.declared.row.Row.{Row}
use Rattle.rows.specs.declared.size.RingSize.{RingSize}
use Rattle.rows.proofs.Clashes.{eqb_swap}
use Rattle.rows.proofs.Receiving.{from_more}
use Rattle.ring.specs.World.{World, quorum_of, letter_at}
use Rattle.ring.specs.Receive.{must_relay, received}
use Rattle.ring.proofs.Called.{Called}
use Rattle.ring.proofs.Changing.{quorum_is}
use Rattle.ring.proofs.KeptCount.{kept_count}
use Rattle.ring.proofs.ReceiptWays.{Accepted, taker_row, row_after, it_counts, unrelayed, uncounted, taker_before, taker_after}
use Rattle.ring.proofs.ReceiptWays.{seen_after, unspoilt, taker_fine, takes, silent, becomes, same_nodes, receipt_joined}
use Rattle.ring.proofs.Seeing.{check_from, Apart, RowFine, Joined}

-- ---- the checks of a row, with one more written at place i

module _ (checks : List Check) (i : ℕ) (c : Check) where
  -- places before i stay
  place_stays : (k : ℕ) → k < i → get_or (set checks i c) k no_check ≡ get_or checks k no_check
  place_stays k l = get_or-set_other checks i k c no_check (λ e. omega (arith, e, l))

  -- so do the senders of the first k checks
  senders_stay : (x k : ℕ) → k ≤ i → from_sender (set checks i c) x k ≡ from_sender checks x k
  unfolding from_sender
  senders_stay x zero l = refl
  senders_stay x (suc k) l =
      ap₂ (λ (u : Bool) (d : Check). u || eqb d.sender x) (senders_stay x k (omega arith)) (place_stays k (omega arith))

  -- and their sets
  sets_stay : (x k : ℕ) → k ≤ i → check_from (set checks i c) x k ≡ check_from checks x k
  unfolding check_from
  sets_stay x zero l = refl
  sets_stay x (suc k) l =
      ap₂ (λ (u : ℕ) (d : Check). cond (eqb d.sender x) d.set u) (sets_stay x k (omega arith)) (place_stays k (omega arith))

  -- they are still of different nodes
  apart_stays : (n k : ℕ) → k ≤ i → Apart n checks k → Apart n (set checks i c) k
  apart_stays n zero l a = tt
  apart_stays n (suc k) l (known, new, rest) =
      let same = sym (place_stays k (omega arith)) in (
        subst (λ (d : Check). d.sender < n) same known,
        subst (λ (d : Check). from_sender (set checks i c) d.sender k ≡ false) same
            (senders_stay (get_or checks k no_check).sender k (omega arith) ∙ new),
        apart_stays n k (omega arith) rest,
      )

  module _ (l : i < length checks) where
    -- place i has it
    here : get_or (set checks i c) i no_check ≡ c
    here = get_or-set_same checks i c no_check l

    -- one sender more
    senders_grow : (x : ℕ) → from_sender (set checks i c) x (i + 1) ≡ (from_sender checks x i || eqb x c.sender)
    senders_grow x =
        from_more (set checks i c) x i
        ∙ ap₂ (λ (u : Bool) (d : Check). u || eqb d.sender x) (senders_stay x i (omega arith)) here
        ∙ ap (λ (v : Bool). from_sender checks x i || v) (eqb_swap c.sender x)

    -- with its set
    sets_grow : (x : ℕ) → check_from (set checks i c) x (i + 1) ≡ cond (eqb x c.sender) c.set (check_from checks x i)
    unfolding check_from
    sets_grow x =
        ap (check_from (set checks i c) x) (add-one i)
        ∙ ap₂ (λ (u : ℕ) (d : Check). cond (eqb d.sender x) d.set u) (sets_stay x i (omega arith)) here
        ∙ ap (λ (v : Bool). cond v c.set (check_from checks x i)) (eqb_swap c.sender x)

    -- of another node than the others
    apart_grows : (n : ℕ) → c.sender < n → from_sender checks c.sender i ≡ false → Apart n checks i
        → Apart n (set checks i c) (i + 1)
    apart_grows n known new rest =
        let next : suc i ≡ i + 1 = omega arith in
        subst (λ (k : ℕ). Apart n (set checks i c) k) next (
          subst (λ (d : Check). d.sender < n) (sym here) known,
          subst (λ (d : Check). from_sender (set checks i c) d.sender i ≡ false) (sym here)
              (senders_stay c.sender i (omega arith) ∙ new),
          apart_stays n i (omega arith) rest,
        )

-- a choice of masks as a choice of sets
choice_has : (b : Bool) (x y : ℕ) → has (cond b x y) ≡ cond b (has x) (has y)
choice_has true x y = refl
choice_has false x y = refl

module _ {K : Kind} {z : RingSize} {need : ℕ} {low : 1 ≤ need} {high : need ≤ z.q} {w : World} {M : Meaning}
    (j : Joined K z need low high w M) (place : ℕ) (t : Accepted w place) (kind : (letter_at w place).kind ≡ check_letter) where
  -- the letter
  abbrev letter : Letter
  letter = letter_at w place

  -- the row of its receiver
  abbrev row : Row
  row = taker_row w place

  -- the receiver as it is seen
  abbrev taker : Seen-node
  taker = taker_before w place

  -- the check that the letter carries
  abbrev check : Check
  check = record { sender = letter.sender; set = letter.set }

  -- the row that keeps it
  abbrev row_keeps : Row
  row_keeps = with_check check row

  -- the row of the receiver is fine
  fine : RowFine z row
  fine = taker_fine j place t

  -- as many nodes as checks
  kept_is : count z.n taker.kept ≡ row.checked
  kept_is = kept_count z.n row.checks row.checked fine.checks_apart

  -- ---- what a check leaves as it is

  -- it is not relayed
  not_relayed : must_relay w.ring letter ≡ false
  not_relayed = unrelayed w place (λ e. omega (arith, e, kind))

  -- nor does it count as an acknowledgement
  not_counted : it_counts w place ≡ false
  not_counted = uncounted w place (λ e. omega (arith, e, kind))

  -- so the sheets stay
  sheets_stay : (received w place).sheets ≡ w.sheets
  sheets_stay = cond-false (it_counts w place) _ _ not_counted

  -- the row after it, by whether it is of the receiver's stage
  row_is : row_after w place ≡ cond (is_check letter row) (after_check (quorum_of w.ring.size) letter row) row
  row_is = cond-false (eqb letter.kind data_letter) _ _ (ne_eqb _ _ (λ e. omega (arith, e, kind)))
      ∙ cond-false (it_counts w place) _ _ not_counted

  -- ---- the two ways

  -- it passes
  passing_joined : row_after w place ≡ row
      → (letter.stage < row.stage) ⊎ ((z.q ≤ count z.n taker.kept) ⊎ (letter.sender ∈ taker.kept))
      → Called K z need low high w M (received w place) M
  passing_joined same late = receipt_joined j place t (subst (λ (r : Row). RowFine z r) (sym same) fine)
      (passes_check place (record {
        takes = takes j place t;
        kind = kind;
        late = late;
        silent = silent j place t not_relayed;
        nodes = same_nodes j place t (seen_after w place w.sheets row sheets_stay same);
      }))

  module _ (keeps : row_after w place ≡ row_keeps) (few : row.checked < z.q)
      (new : from_sender row.checks letter.sender row.checked ≡ false) where
    -- there is a place for it
    free : row.checked < length row.checks
    free = omega (arith, few, fine.checks_length, z.within, z.high)

    -- the receiver with other checks
    abbrev keeps_as : Set → (ℕ → Set) → Seen-node
    keeps_as senders sets = record {
      stage = taker.stage;
      received = taker.received;
      delivered = taker.delivered;
      pending = taker.pending;
      early = taker.early;
      heard = taker.heard;
      kept = senders;
      check = sets;
      closing = taker.closing;
      proposed = taker.proposed;
      sheet = taker.sheet;
    }

    -- it is as the protocol says
    taker_is : taker_after w place ≡ keeping letter.sender (has letter.set) taker
    taker_is =
        seen_after w place w.sheets row_keeps sheets_stay keeps
        ∙ ap₂ keeps_as
        (fun_ext (λ x. senders_grow row.checks row.checked check free x))
        (fun_ext (λ x. ap has (sets_grow row.checks row.checked check free x)
        ∙ choice_has (eqb x letter.sender) letter.set (check_from row.checks x row.checked)))

    -- and its row fine
    keeping_fine : RowFine z (row_after w place)
    keeping_fine = subst (λ (r : Row). RowFine z r) (sym keeps) (record {
      heard_length = fine.heard_length;
      heard_nodes = fine.heard_nodes;
      checks_length = length-set row.checks row.checked check ∙ fine.checks_length;
      checks_few = omega (arith, few);
      checks_apart = apart_grows row.checks row.checked check free z.n (unspoilt j place t).sender_in new
          fine.checks_apart;
    })

    -- it is kept
    keeping_joined : letter.stage ≡ row.stage → Called K z need low high w M (received w place) M
    keeping_joined same = receipt_joined j place t keeping_fine (keeps_check place (record {
      takes = takes j place t;
      kind = kind;
      stage = same;
      few = omega (arith, few, kept_is);
      new = new;
      silent = silent j place t not_relayed;
      becomes = becomes j place t (keeping letter.sender (has letter.set) taker) taker_is;
    }))

  -- a check of the receiver's stage
  now_joined : letter.stage ≡ row.stage → Called K z need low high w M (received w place) M
  now_joined same =
      let quorum : ℕ = quorum_of w.ring.size in
      let checks : row_after w place ≡ after_check quorum letter row =
      row_is ∙ cond-true (is_check letter row) _ _ (and_from _ _ (eq-eqb _ _ kind) (eq-eqb _ _ same)) in
      elim (cases_Bool (is_kept quorum letter row)) [
        | inl h ↦ let parts = and_parts (ltb row.checked quorum) _ h in
            keeping_joined (checks ∙ cond-true (is_kept quorum letter row) _ _ h)
            (omega (arith, ltb-true _ _ parts.0, quorum_is j.fine)) (not-true _ parts.1) same
        | inr h ↦ passing_joined (checks ∙ cond-false (is_kept quorum letter row) _ _ h)
            (inr (elim (and_cases (ltb row.checked quorum) _ h) [
              | inl f ↦ inl (omega (arith, ltb-false _ _ f, quorum_is j.fine, kept_is))
              | inr f ↦ inr (not-false _ f)
            ]))
      ]

  -- a receipt of a check keeps all that holds of a world of a day
  pub check_joined : Called K z need low high w M (received w place) M
  check_joined = elim (cases_eq letter.stage row.stage) [
    | inl e ↦ now_joined e
    | inr d ↦ passing_joined (row_is ∙ cond-false (is_check letter row) _ _ (and_right _ _ (ne_eqb _ _ d)))
        (inl (omega (arith, d, t.not_ahead)))
  ]
