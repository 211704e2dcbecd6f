-- What every receipt that nothing refuses has: the letter is taken, and what it leaves is seen at its receiver alone.
use Rattle.std.proofs.Common.{◌≡◌, ℕ, ◌+◌, ◌^◌, ◌<◌, ◌≤◌, Bool, true, false, not, ◌&&◌, ltb, List, length, get_or, set, None, sym}
use Rattle.std.proofs.Common.{refl, ap, ◌∙◌, subst, ap₂, inl, inr, arith}
use lib.Count.{ones, ones-le}
use Rattle.std.proofs.lemmas.List.{get_or-set_same, get_or-set_other, length-set}
use Rattle.std.proofs.lemmas.Bool.{cases_eq, both_ways, ne_eqb, and_cases, and_left, and_right, cond-true, cond-false, cond_both}
use Rattle.std.proofs.lemmas.Bool.{ltb-false}
use Rattle.record.specs.Kind.{Kind}
use Rattle.chooser.specs.Meaning.{Meaning}
use Rattle.protocol.specs.Calls.{Takes, Sends, Becomes, NoneSent, SameNodes, new_letter}
use Rattle.protocol.specs.Promises.{Unspoilt}
use Rattle.protocol.specs.Ring.{Node as Seen-node, Size}
use Rattle.protocol.specs.Runs.{Call}
use Rattle.protocol.specs.Sets.{Set}
use Rattle.rows.specs.Letters.{no_letter, data_letter, acknowledgement, taken, marked, letter_of}
use Rattle.rows.specs.Masks.{has}
use Rattle.rows.specs.Receipts.{taken_row, counts, is_reached, reached, heard_also}
use Rattle.rows.specs.Rows.{on_sheet}
use Rattle.rows.specs.declared.letter.Letter.{Letter}
use Rattle.rows.specs.declared.row.Row.{Row}
use Rattle.rows.specs.declared.size.RingSize.{RingSize}
use Rattle.rows.proofs.Masks.{those_lt}
use Rattle.ring.specs.World.{World, nodes_of, quorum_of, row_of, has_crashed, letter_at, letter_refusal}
use Rattle.ring.specs.Receive.{must_relay, cannot_relay, receive_refusal, relayed_tray, relayed_used, received}
use Rattle.ring.proofs.Called.{Called}
use Rattle.ring.proofs.Causes.{refuse_none, first_none, Travels, travels}
use Rattle.ring.proofs.Changing.{nodes_are, has_row, fine_changed, other_seen, row_seen, sheet_small}
use Rattle.ring.proofs.Effects.{same_chooser}
use Rattle.ring.proofs.NodesKept.{lives_kept}
use Rattle.ring.proofs.Seeing.{seen, seen_letter, seen_row, seen_node, shown, RowFine, Fine, size_of, Joined}
use Rattle.ring.proofs.Sending.{sent_length, sent_before, sent_now}
use Rattle.ring.proofs.SheetsGrow.{grown, grown_length, grown_elsewhere}

-- what holds where nothing refuses the receipt
pub record Accepted (w : World) (place : ℕ) : Type 0 where
  pub travels : Travels w place
  pub alive : not (has_crashed w.ring (letter_at w place).receiver) ≡ true
  pub not_ahead : (letter_at w place).stage ≤ (row_of w (letter_at w place).receiver).stage
  pub room : must_relay w.ring (letter_at w place) ≡ true → w.ring.used + nodes_of w.ring.size ≤ length w.tray

-- of two tests that do not both pass, the second fails where the first passes
second_fails : (a b : Bool) → (a && b) ≡ false → a ≡ true → b ≡ false
second_fails a b h t = elim (and_cases a b h) [ inl f ↦ absurd (both_ways a f t) | inr f ↦ f ]

-- it does
pub accepted : (w : World) (place : ℕ) → receive_refusal w place ≡ None → Accepted w place
accepted w place h =
    let a = first_none (letter_refusal w place) _ h in
    let b = refuse_none (has_crashed w.ring (letter_at w place).receiver) _ _ a.1 in
    let c = refuse_none (ltb (row_of w (letter_at w place).receiver).stage (letter_at w place).stage) _ _ b.1 in
    let d = refuse_none (cannot_relay w.ring w.tray (letter_at w place)) _ _ c.1 in
    record {
      travels = travels w place a.0;
      alive = ap not b.0;
      not_ahead = ltb-false _ _ c.0;
      room = λ t. ltb-false _ _ (second_fails _ _ d.0 t);
    }

-- the row of the receiver before the receipt
abbrev pub taker_row : World → ℕ → Row
taker_row w place = row_of w (letter_at w place).receiver

-- the row after it
abbrev pub row_after : World → ℕ → Row
row_after w place = taken_row (nodes_of w.ring.size) (quorum_of w.ring.size) (letter_at w place) (taker_row w place)

-- whether the letter is an acknowledgement that counts
abbrev pub it_counts : World → ℕ → Bool
it_counts w place = counts (nodes_of w.ring.size) (letter_at w place) (taker_row w place)

-- what a quorum has acknowledged to the receiver, once the letter is heard too
abbrev pub quorum_has : World → ℕ → ℕ
quorum_has w place = reached (heard_also (letter_at w place) (taker_row w place)) (quorum_of w.ring.size)

-- the sheets with that added to the receiver's
abbrev pub sheets_grown : World → ℕ → List ℕ
sheets_grown w place = grown w.sheets (letter_at w place).receiver (on_sheet (taker_row w place)) (quorum_has w place)

-- only data is relayed
pub unrelayed : (w : World) (place : ℕ) → ((letter_at w place).kind ≡ data_letter → ⊥)
    → must_relay w.ring (letter_at w place) ≡ false
unrelayed w place d = and_left _ _ (ne_eqb _ _ d)

-- and only acknowledgements count
pub uncounted : (w : World) (place : ℕ) → ((letter_at w place).kind ≡ acknowledgement → ⊥) → it_counts w place ≡ false
uncounted w place d = and_left _ _ (and_right _ _ (ne_eqb _ _ d))

-- the receiver as it is seen before the receipt
abbrev pub taker_before : World → ℕ → Seen-node
taker_before w place = seen_node w.sheets (letter_at w place).receiver (taker_row w place)

-- the receiver as it is seen after it
abbrev pub taker_after : World → ℕ → Seen-node
taker_after w place = seen_node (received w place).sheets (letter_at w place).receiver (row_after w place)

-- it is told by the sheets and the row after the receipt
pub seen_after : (w : World) (place : ℕ) (sheets : List ℕ) (row : Row) → (received w place).sheets ≡ sheets
    → row_after w place ≡ row → taker_after w place ≡ seen_node sheets (letter_at w place).receiver row
seen_after w place sheets row s r = ap₂ (λ (t : List ℕ) (x : Row). seen_node t (letter_at w place).receiver x) s r

module _ {K : Kind} {z : RingSize} {need : ℕ} {low : 1 ≤ need} {high : need ≤ z.q} {w : World} {M : Meaning}
    (j : Joined K z need low high w M) (place : ℕ) (t : Accepted w place) where
  -- the letter
  abbrev letter : Letter
  letter = letter_at w place

  -- the size of the ring for the protocol
  abbrev ring_size : Size
  ring_size = size_of z need low high

  -- the letter is one that a sending makes
  pub unspoilt : Unspoilt ring_size (seen K w M) (seen_letter letter)
  unspoilt = (j.ok.post.each place t.travels.used).unspoilt

  -- the row of its receiver is fine
  pub taker_fine : RowFine z (taker_row w place)
  taker_fine = j.fine.rows letter.receiver unspoilt.receiver_in

  -- ---- the letters

  -- what a relaying sends
  abbrev copy : Letter
  copy = letter_of letter.receiver data_letter 0 letter.set

  -- the tray after it
  abbrev relayed : List Letter
  relayed = relayed_tray w.ring w.tray letter

  -- a relaying leaves the letters that were sent before
  relayed_before : (i : ℕ) → i < w.ring.used → get_or relayed i no_letter ≡ letter_at w i
  relayed_before i l =
      cond_both (must_relay w.ring letter) _ w.tray (λ (tray : List Letter). get_or tray i no_letter ≡ letter_at w i)
      (λ _. sent_before w.tray w.ring.used copy (nodes_of w.ring.size) i l) (λ _. refl)

  -- and the tray as long as it was
  relayed_length : length relayed ≡ length w.tray
  relayed_length =
      cond_both (must_relay w.ring letter) _ w.tray (λ (tray : List Letter). length tray ≡ length w.tray)
      (λ _. sent_length w.tray w.ring.used copy (nodes_of w.ring.size)) (λ _. refl)

  -- in which all letters have a place
  relayed_fits : relayed_used w.ring letter ≤ length w.tray
  relayed_fits =
      cond_both (must_relay w.ring letter) _ w.ring.used (λ (used : ℕ). used ≤ length w.tray)
      t.room (λ _. j.fine.used_in_tray)

  -- the letter is taken
  pub takes : Takes (seen K w M) (seen K (received w place) M) place
  takes = record {
    place = t.travels.used;
    travels = t.travels.mark;
    alive = t.alive;
    not_ahead = t.not_ahead;
    marks = record {
      here = ap seen_letter (get_or-set_same relayed place (marked taken letter) no_letter
          (omega (arith, t.travels.in_tray, relayed_length)));
      others = λ i l d. ap seen_letter (get_or-set_other relayed place i (marked taken letter) no_letter d ∙ relayed_before i l);
    };
    book = record { messages = refl; conflict = refl; broadcaster = refl };
    chooser = same_chooser K w (received w place) M;
    live = lives_kept w.ring letter.receiver (row_after w place);
  }

  -- a letter that is not to be relayed sends none
  pub silent : must_relay w.ring letter ≡ false → NoneSent (seen K w M) (seen K (received w place) M)
  silent e = cond-false (must_relay w.ring letter) _ _ e

  -- and one that is, is sent to all
  pub sends : must_relay w.ring letter ≡ true → (S : Set) → has letter.set ≡ S
      → Sends ring_size (seen K w M) (seen K (received w place) M) letter.receiver data_letter 0 S
  sends e S S-is =
      let n-is = nodes_are j.fine in
      record {
        places = cond-true (must_relay w.ring letter) _ _ e ∙ ap (λ (n : ℕ). w.ring.used + n) n-is;
        new = λ y l. ap seen_letter (
            get_or-set_other relayed place (w.ring.used + y) (marked taken letter) no_letter
            (λ p. omega (arith, p, t.travels.used))
            ∙ ap (λ (tray : List Letter). get_or tray (w.ring.used + y) no_letter) (cond-true (must_relay w.ring letter) _ _ e)
            ∙ sent_now w.tray w.ring.used copy (nodes_of w.ring.size) y (omega (arith, l, n-is)) (t.room e))
            ∙ ap (new_letter letter.receiver y data_letter 0) S-is;
      }

  -- ---- the nodes

  -- the sheets after the receipt
  abbrev sheets_after : List ℕ
  sheets_after = (received w place).sheets

  -- what a quorum has acknowledged are messages below 64
  pub quorum_small : quorum_has w place < 2 ^ 64
  quorum_small = those_lt (is_reached (heard_also letter (taker_row w place)) (quorum_of w.ring.size)) 64

  -- another node's sheet stays
  elsewhere : (x : ℕ) → x < z.n → (x ≡ letter.receiver → ⊥)
      → shown sheets_after x (row_of w x) ≡ shown w.sheets x (row_of w x)
  elsewhere x l d =
      cond_both (it_counts w place) (sheets_grown w place) w.sheets
      (λ (s : List ℕ). shown s x (row_of w x) ≡ shown w.sheets x (row_of w x))
      (λ _. grown_elsewhere w.sheets letter.receiver (on_sheet (taker_row w place)) (quorum_has w place)
      (sheet_small j letter.receiver unspoilt.receiver_in) quorum_small
      x (ones (on_sheet (row_of w x))) d (ones-le 64 (on_sheet (row_of w x)) (sheet_small j x l)))
      (λ _. refl)

  -- the receiver becomes what it is seen as, and no other node changes
  pub becomes : (N : Seen-node) → taker_after w place ≡ N
      → Becomes ring_size (seen K w M) (seen K (received w place) M) letter.receiver N
  becomes N e = record {
    here = row_seen sheets_after w.ring letter.receiver (row_after w place)
        (has_row j.fine letter.receiver unspoilt.receiver_in) ∙ e;
    others = λ x l d. other_seen sheets_after w.ring letter.receiver (row_after w place) x d
        ∙ ap (seen_row (row_of w x)) (elsewhere x l d);
  }

  -- if it is seen as before, no node changes
  pub same_nodes : taker_after w place ≡ taker_before w place → SameNodes ring_size (seen K w M) (seen K (received w place) M)
  same_nodes e x l =
      let b = becomes (taker_before w place) e in
      elim (cases_eq x letter.receiver) [
        | inl p ↦ subst (λ (y : ℕ). (seen K (received w place) M).node y ≡ (seen K w M).node y) (sym p) b.here
        | inr d ↦ b.others x l d
      ]

  -- ---- both together

  -- what is known besides stays
  receipt_fine : RowFine z (row_after w place) → Fine K z (received w place)
  receipt_fine g =
      let same-tray = length-set relayed place (marked taken letter) ∙ relayed_length in
      fine_changed j.fine letter.receiver unspoilt.receiver_in (row_after w place) g
      (relayed_used w.ring letter) (set relayed place (marked taken letter)) sheets_after
      same-tray (omega (arith, same-tray, relayed_fits))
      (cond_both (it_counts w place) (sheets_grown w place) w.sheets (λ (s : List ℕ). length s ≡ length w.sheets)
      (λ _. grown_length w.sheets letter.receiver (on_sheet (taker_row w place)) (quorum_has w place)) (λ _. refl))

  -- a receipt that is a call of the protocol leads to a world of a day
  pub receipt_joined : RowFine z (row_after w place) → Call ring_size (seen K w M) (seen K (received w place) M)
      → Called K z need low high w M (received w place) M
  receipt_joined g c = record { call = c; fine = receipt_fine g; chooser = j.chooser }
