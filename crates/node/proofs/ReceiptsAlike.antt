-- A receipt at the node of a ring is a letter to the node by itself, and both go alike.
use Rattle.std.proofs.Common.{◌≡◌, ℕ, ◌+◌, ◌<◌, ◌≤◌, Bool, false, not, eqb, ltb, List, take, drop}
use Rattle.std.proofs.Common.{set, None, Ok, Option, sym, refl, ap, ◌∙◌, subst, ap₂, inl, inr, arith}
use Rattle.std.specs.List.{filter}
use Rattle.std.proofs.lemmas.Bool.{cases_Bool, and_parts, and_left, not-true, eqb-true, eq-eqb, ne_eqb, le-ltb}
use Rattle.std.proofs.lemmas.Bool.{cond-true, cond-false, not_from_true}
use Rattle.std.proofs.lemmas.List.{length-set}
use Rattle.record.specs.Kind.{Kind}
use Rattle.chooser.specs.Meaning.{Meaning}
use Rattle.rows.specs.Causes.{outcome, unless}
use Rattle.rows.specs.Letters.{data_letter, acknowledgement, check_letter, travelling, taken, marked, letter_of, sent, spoilt}
use Rattle.rows.specs.Receipts.{is_gathering, relays, taken_row, taken_sheets, counts, is_check}
use Rattle.rows.specs.declared.letter.Letter.{Letter}
use Rattle.rows.specs.declared.refusal.Refusal.{Refusal}
use Rattle.rows.specs.declared.row.Row.{Row}
use Rattle.rows.specs.declared.size.RingSize.{RingSize}
use Rattle.ring.specs.World.{World, nodes_of, quorum_of, row_of, letter_at, with_used}
use Rattle.ring.specs.Receive.{must_relay, relayed_used, receive_refusal, received}
use Rattle.ring.proofs.Allowed.{passed, both_passed}
use Rattle.ring.proofs.Changing.{nodes_are, quorum_is, has_row, sheet_small}
use Rattle.ring.proofs.NodesKept.{row_here}
use Rattle.ring.proofs.ReceiptWays.{Accepted, accepted}
use Rattle.ring.proofs.Seeing.{Joined}
use Rattle.node.specs.Tables.{Lent, lent}
use Rattle.node.specs.Takes.{take_refusal, relayed, taken_lent, unfit, Takes}
use Rattle.node.specs.Takes.{taken as taken_by}
use Rattle.node.specs.Events.{outgoing, has_no_call, HandedOver}
use Rattle.node.specs.Alike.{Names, posted, member_in, sheet_part}
use Rattle.node.specs.declared.member.Member.{Member}
use Rattle.node.proofs.LettersSent.{none_travels, sent_in_tray, nothing_behind, sent_alone}
use Rattle.node.proofs.LettersTaken.{tables, tables_fit, fits, relays_alike}
use Rattle.node.proofs.SheetPart.{part, taken_here}

-- an acknowledgement leaves a closing node's row and sheet, so that none has to be handed over to it
module _ (n q : ℕ) (l : Letter) (row : Row) (closing : is_gathering row.phase ≡ false) (kind : l.kind ≡ acknowledgement) where
  not_data : eqb l.kind data_letter ≡ false
  not_data = ne_eqb _ _ (λ e. omega (arith, e, kind))

  not_counted : counts n l row ≡ false
  not_counted = and_left _ _ (and_left _ _ closing)

  not_check : is_check l row ≡ false
  not_check = and_left _ _ (ne_eqb l.kind check_letter (λ e. omega (arith, e, kind)))

  row_stays : taken_row n q l row ≡ row
  row_stays = cond-false _ _ _ not_data ∙ cond-false _ _ _ not_counted ∙ cond-false _ _ _ not_check

  sheet_stays : (sheet : List ℕ) → taken_sheets n q l row 0 sheet ≡ sheet
  sheet_stays sheet = cond-false _ _ _ not_counted

  not_relayed : (table : List ℕ) → relays table row l ≡ false
  not_relayed table = and_left _ _ not_data

module _ {K : Kind} {z : RingSize} {need : ℕ} {low : 1 ≤ need} {high : need ≤ z.q} {w : World} {M : Meaning}
    (j : Joined K z need low high w M) (place : ℕ) (h : receive_refusal w place ≡ None) (table : List ℕ) (named : Names w table)
    (inside : (letter_at w place).receiver < z.n) where
  -- what holds of the receipt
  abbrev a : Accepted w place
  a = accepted w place h

  abbrev l : Letter
  l = letter_at w place

  abbrev i : ℕ
  i = l.receiver

  -- the node by itself and what is lent to it
  abbrev m : Member
  m = member_in z w i

  abbrev t : Lent
  t = tables j i inside table named

  abbrev v : World
  v = received w place

  -- ---- the ring's node after it

  row_is : row_of v i ≡ taken_row z.n z.q l (row_of w i)
  row_is =
      row_here (with_used (relayed_used w.ring l) w.ring) i (taken_row (nodes_of w.ring.size) (quorum_of w.ring.size) l (row_of w i))
      (has_row j.fine i inside)
      ∙ ap₂ (λ (n q : ℕ). taken_row n q l (row_of w i)) (nodes_are j.fine) (quorum_is j.fine)

  sheet_is : sheet_part v i ≡ taken_sheets z.n z.q l (row_of w i) 0 (sheet_part w i)
  sheet_is =
      ap₂ (λ (n q : ℕ). part i (taken_sheets n q l (row_of w i) i w.sheets)) (nodes_are j.fine) (quorum_is j.fine)
      ∙ taken_here z.n z.q l (row_of w i) i w.sheets (sheet_small j i inside)

  -- ---- the node by itself

  clean : spoilt z.n w.ring.messages l ≡ false
  clean = ap (λ (n : ℕ). spoilt n w.ring.messages l) (sym (nodes_are j.fine)) ∙ a.travels.unspoilt

  allowed : take_refusal l.kind t m l ≡ None
  allowed =
      both_passed _ _ (tables_fit j i inside table named)
      (passed (not (eqb l.mark travelling)) _ _ (not_from_true _ (eq-eqb _ _ a.travels.mark))
      (passed (unfit l.kind table m l) _ _ (fits j i inside table named l clean refl)
      (passed (ltb m.row.stage l.stage) _ _ (le-ltb _ _ a.not_ahead) refl)))

  -- its tables after it, and the node
  abbrev u : Lent
  u = lent v.book table (relayed t m l) (sheet_part v i)

  abbrev k : Member
  k = member_in z v i

  tables_are : u ≡ taken_lent t m l
  tables_are = ap (λ (s : List ℕ). lent w.book table (relayed t m l) s) sheet_is

  node_is : k ≡ taken_by m l
  node_is = ap {B = Member} (λ (row : Row). record { number = i; size = z; row = row }) row_is

  took_it : Takes l.kind t m l (Ok tt) u k
  took_it = (
    sym (ap outcome allowed),
    tables_are ∙ sym (ap (λ (o : Option Refusal). unless o (taken_lent t m l) t) allowed),
    node_is ∙ sym (ap (λ (o : Option Refusal). unless o (taken_by m l) m) allowed),
  )

  pub handed : HandedOver (has_no_call m l) t m l (Ok tt) u k
  handed = elim (cases_Bool (has_no_call m l)) [
    | inl e ↦ subst (λ (b : Bool). HandedOver b t m l (Ok tt) u k) (sym e) (
        let parts = and_parts _ _ e in
        let closing = not-true _ parts.0 in
        let kind = eqb-true _ _ parts.1 in (
          tables_are ∙ ap₂ (lent w.book table) (cond-false _ _ _ (not_relayed z.n z.q l m.row closing kind table))
              (sheet_stays z.n z.q l m.row closing kind (sheet_part w i)),
          node_is ∙ ap {B = Member} (λ (row : Row). record { number = i; size = z; row = row })
              (row_stays z.n z.q l m.row closing kind),
        ))
    | inr e ↦ subst (λ (b : Bool). HandedOver b t m l (Ok tt) u k) (sym e) took_it
  ]

  -- ---- what both send

  -- what is relayed
  abbrev copy : Letter
  copy = letter_of i data_letter 0 l.set

  relay_alike : relays table m.row l ≡ must_relay w.ring l
  relay_alike = relays_alike j i inside table named l clean (row_of w i)

  pub sends_alike : outgoing u ≡ posted w v
  sends_alike = elim (cases_Bool (must_relay w.ring l)) [
    | inl e ↦
        ap (filter (λ (x : Letter). eqb x.mark travelling)) (cond-true _ _ _ (relay_alike ∙ e)) ∙ sent_alone copy z.n
        ∙ sym (
        ap₂ (λ (tray : List Letter) (used : ℕ). drop w.ring.used (take used (set tray place (marked taken l))))
        (cond-true _ _ _ e) (cond-true _ _ _ e)
        ∙ ap (λ (n : ℕ). drop w.ring.used (take (w.ring.used + n) (set (sent w.tray w.ring.used copy n) place (marked taken l))))
        (nodes_are j.fine)
        ∙ sent_in_tray w.tray w.ring.used place copy (marked taken l) z.n a.travels.used
        (omega (arith, a.room e, nodes_are j.fine))
        )
    | inr e ↦
        ap (filter (λ (x : Letter). eqb x.mark travelling)) (cond-false _ _ _ (relay_alike ∙ e)) ∙ none_travels z.n
        ∙ sym (
        ap₂ (λ (tray : List Letter) (used : ℕ). drop w.ring.used (take used (set tray place (marked taken l))))
        (cond-false _ _ _ e) (cond-false _ _ _ e)
        ∙ nothing_behind (set w.tray place (marked taken l)) w.ring.used
        (omega (arith, j.fine.used_in_tray, length-set w.tray place (marked taken l)))
        )
  ]
