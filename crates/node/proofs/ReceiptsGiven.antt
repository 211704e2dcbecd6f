-- Every receipt of a ring, whosever it is and whatever its answer, leaves a node by itself alike.
use Rattle.std.proofs.Common.{◌≡◌, ℕ, ◌<◌, ◌≤◌, Bool, true, false, not, ◌||◌, eqb, leb, ltb, List, [], ◌∷◌, ◌++◌, length}
use Rattle.std.proofs.Common.{replicate, Some, None, Ok, Err, Option, Result, sym, refl, ap, ◌∙◌, subst, inl, inr}
use Rattle.std.proofs.lemmas.Bool.{cases_Bool, cases_eq, true≢false, eq-eqb, ne_eqb, not-true, cond-true, cond-false, leb-false}
use Rattle.std.proofs.lemmas.Bool.{or_parts}
use Rattle.record.specs.Kind.{Kind}
use Rattle.chooser.specs.Meaning.{Meaning}
use Rattle.rows.specs.Causes.{refuse, first, outcome, unless}
use Rattle.rows.specs.Letters.{travelling, no_letter, spoilt}
use Rattle.rows.specs.Receipts.{taken_row}
use Rattle.rows.specs.declared.letter.Letter.{Letter}
use Rattle.rows.specs.declared.refusal.Refusal.{Refusal}
use Rattle.rows.specs.declared.refusal.Refusal.TheVariants.{PlaceUnused, NotTravelling, SpoiltLetter, NotStarted, NodeCrashed}
use Rattle.rows.specs.declared.refusal.Refusal.TheVariants.{LaterStage, TrayFull}
use Rattle.rows.specs.declared.size.RingSize.{RingSize}
use Rattle.ring.specs.World.{World, nodes_of, quorum_of, unstarted, row_of, has_crashed, letter_at, with_used}
use Rattle.ring.specs.Receive.{cannot_relay, relayed_used, receive_refusal, received, Receives}
use Rattle.ring.specs.Promises.{lives}
use Rattle.ring.proofs.Allowed.{tables_allowed, unspoilt}
use Rattle.ring.proofs.Causes.{either_way}
use Rattle.ring.proofs.Changing.{nodes_are, sheet_small}
use Rattle.ring.proofs.NodesKept.{row_elsewhere}
use Rattle.ring.proofs.ReceiptWays.{accepted}
use Rattle.ring.proofs.ReceiptWays.{unspoilt as seen_unspoilt}
use Rattle.ring.proofs.Seeing.{Joined}
use Rattle.node.specs.Tables.{Lent}
use Rattle.node.specs.Takes.{take_refusal, relayed, taken_lent, unfit, Takes}
use Rattle.node.specs.Takes.{taken as taken_by}
use Rattle.node.specs.Events.{Event, took, has_no_call, HandedOver}
use Rattle.node.specs.Alike.{is_its_own, posted, given, member_in, GoesAlike}
use Rattle.node.specs.declared.member.Member.{Member}
use Rattle.node.proofs.LettersSent.{none_travels, nothing_behind}
use Rattle.node.proofs.LettersTaken.{tables, tables_fit, fits}
use Rattle.node.proofs.ReceiptsAlike.{handed, sends_alike}
use Rattle.node.proofs.SheetPart.{taken_elsewhere}
use Rattle.node.proofs.EventsGiven.{unmoved, nothing_given, given_one}

-- ---- causes

-- whether a cause is the node's own
abbrev own : Option Refusal → Bool
own None = false
own (Some e) = is_its_own e

-- one that is not is not the cause of the node
not_own : {A : Type 0} (o : Option Refusal) (x : Refusal) → own o ≡ false → is_its_own x ≡ true → o ≡ Some x → A
not_own o x f t h = absurd (true≢false (sym t ∙ sym (ap own h) ∙ f))

-- a chain before another
chained : (c d e : Bool) (rest : Option Refusal)
    → first (refuse c PlaceUnused (refuse d NotTravelling (refuse e SpoiltLetter None))) rest
    ≡ refuse c PlaceUnused (refuse d NotTravelling (refuse e SpoiltLetter rest))
chained true d e rest = refl
chained false true e rest = refl
chained false false true rest = refl
chained false false false rest = refl

-- of an unspoilt letter in a used place
of_letter : (d f g : Bool) (x : Refusal) → is_its_own x ≡ true
    → refuse d NotTravelling (refuse f LaterStage (refuse g TrayFull None)) ≡ Some x
    → refuse d NotTravelling (refuse f LaterStage None) ≡ Some x
of_letter true f g x t h = h
of_letter false true g x t h = h
of_letter false false true x t h = not_own (Some TrayFull) x refl t h
of_letter false false false x t h = not_own None x refl t h

-- of any letter: the ring's cause is the node's, if it is its own
same_cause : (c d e e' f g : Bool) (x : Refusal) → is_its_own x ≡ true → (c ≡ false → (e ≡ false) × (e' ≡ false))
    → refuse c PlaceUnused (refuse d NotTravelling (refuse e SpoiltLetter (refuse f LaterStage (refuse g TrayFull None)))) ≡ Some x
    → refuse d NotTravelling (refuse e' SpoiltLetter (refuse f LaterStage None)) ≡ Some x
same_cause true d e e' f g x t clean h = not_own (Some PlaceUnused) x refl t h
same_cause false d e e' f g x t clean h =
    let c = clean refl in
    subst (λ (b : Bool). refuse d NotTravelling (refuse b SpoiltLetter (refuse f LaterStage None)) ≡ Some x) (sym c.1)
    (of_letter d f g x t
    (subst (λ (b : Bool). refuse d NotTravelling (refuse b SpoiltLetter (refuse f LaterStage (refuse g TrayFull None))) ≡ Some x)
    c.0 h))

module _ {K : Kind} {z : RingSize} {need : ℕ} {low : 1 ≤ need} {high : need ≤ z.q} {w : World} {M : Meaning}
    (j : Joined K z need low high w M) (place : ℕ) where
  -- the letter at the place
  abbrev l : Letter
  l = letter_at w place

  module _ {m₀ : Member} {es : List Event} where
    -- ---- a letter to the node
    module _ (g : GoesAlike K z m₀ l.receiver w es) (inside : l.receiver < z.n) (alive : lives w l.receiver ≡ true) where
      abbrev m : Member
      m = member_in z w l.receiver

      abbrev t : Lent
      t = tables j l.receiver inside g.broadcasters g.named

      -- one that is accepted
      own_accepted : receive_refusal w place ≡ None
          → GoesAlike K z m₀ l.receiver (received w place) (es ++ took l (Ok tt) (posted w (received w place)) ∷ [])
      own_accepted h =
          let v = received w place in
          given_one g v (took l (Ok tt) (posted w v)) g.broadcasters (relayed t m l)
          (record { places = g.named.places; broadcast = g.named.broadcast; others = g.named.others })
          (handed j place h g.broadcasters g.named inside, sym (sends_alike j place h g.broadcasters g.named inside))

      -- the causes of the ring where the node lives
      ring_causes : receive_refusal w place ≡
          refuse (leb w.ring.used place || leb (length w.tray) place) PlaceUnused
          (refuse (not (eqb l.mark travelling)) NotTravelling
          (refuse (spoilt (nodes_of w.ring.size) w.ring.messages l) SpoiltLetter
          (refuse (ltb (row_of w l.receiver).stage l.stage) LaterStage (refuse (cannot_relay w.ring w.tray l) TrayFull None))))
      ring_causes =
          let c = leb w.ring.used place || leb (length w.tray) place in
          let d = not (eqb l.mark travelling) in
          let e = spoilt (nodes_of w.ring.size) w.ring.messages l in
          let late : Option Refusal =
          refuse (ltb (row_of w l.receiver).stage l.stage) LaterStage (refuse (cannot_relay w.ring w.tray l) TrayFull None) in
          let letter : Option Refusal = refuse c PlaceUnused (refuse d NotTravelling (refuse e SpoiltLetter None)) in
          ap (λ (o : Option Refusal). first (first o (refuse (unstarted w.ring.size) NotStarted letter))
          (refuse (has_crashed w.ring l.receiver) NodeCrashed late)) (tables_allowed j.fine)
          ∙ ap (λ (b : Bool). first (refuse b NotStarted letter) (refuse (has_crashed w.ring l.receiver) NodeCrashed late))
          (ap unstarted j.fine.size)
          ∙ ap (λ (b : Bool). first letter (refuse b NodeCrashed late)) (not-true _ alive)
          ∙ chained c d e late

      -- a letter in a used place is not spoilt, for the ring and for the node by itself
      clean : (leb w.ring.used place || leb (length w.tray) place) ≡ false
          → (spoilt (nodes_of w.ring.size) w.ring.messages l ≡ false) × (unfit l.kind g.broadcasters m l ≡ false)
      clean h =
          let s = unspoilt j place (leb-false _ _ (or_parts _ _ h).0) in (
            s,
            fits j l.receiver inside g.broadcasters g.named l
                (ap (λ (n : ℕ). spoilt n w.ring.messages l) (sym (nodes_are j.fine)) ∙ s) refl,
          )

      -- so the cause is that of the node
      node_cause : (x : Refusal) → receive_refusal w place ≡ Some x → is_its_own x ≡ true → take_refusal l.kind t m l ≡ Some x
      node_cause x h o =
          ap (λ (front : Option Refusal). first front
          (refuse (not (eqb l.mark travelling)) NotTravelling
          (refuse (unfit l.kind g.broadcasters m l) SpoiltLetter (refuse (ltb m.row.stage l.stage) LaterStage None))))
          (tables_fit j l.receiver inside g.broadcasters g.named)
          ∙ same_cause _ _ _ _ _ _ x o clean (sym ring_causes ∙ h)

      -- one that is refused for a cause of the node
      own_refused : (x : Refusal) → receive_refusal w place ≡ Some x → is_its_own x ≡ true
          → GoesAlike K z m₀ l.receiver w (es ++ took l (Err x) (posted w w) ∷ [])
      own_refused x h o =
          let e = node_cause x h o in
          let refused : Takes l.kind t m l (Err x) t m = (
            sym (ap outcome e),
            sym (ap (λ (c : Option Refusal). unless c (taken_lent t m l) t) e),
            sym (ap (λ (c : Option Refusal). unless c (taken_by m l) m) e),
          ) in
          let handed_back : HandedOver (has_no_call m l) t m l (Err x) t m = elim (cases_Bool (has_no_call m l)) [
            | inl y ↦ subst (λ (b : Bool). HandedOver b t m l (Err x) t m) (sym y) (refl, refl)
            | inr y ↦ subst (λ (b : Bool). HandedOver b t m l (Err x) t m) (sym y) refused
          ] in
          given_one g w (took l (Err x) (posted w w)) g.broadcasters (replicate z.n no_letter) g.named
          (handed_back, nothing_behind w.tray w.ring.used j.fine.used_in_tray ∙ sym (none_travels z.n))

      -- any of them
      own_by_cause : (o : Option Refusal) → receive_refusal w place ≡ o
          → GoesAlike K z m₀ l.receiver (unless o (received w place) w)
          (es ++ given l.receiver w place (outcome o) (unless o (received w place) w))
      own_by_cause None h =
          subst (λ (xs : List Event). GoesAlike K z m₀ l.receiver (received w place) (es ++ xs))
          (sym (cond-true (eqb l.receiver l.receiver) _ _ (eq-eqb l.receiver l.receiver refl))) (own_accepted h)
      own_by_cause (Some x) h = elim (cases_Bool (is_its_own x)) [
        | inl o ↦ subst (λ (xs : List Event). GoesAlike K z m₀ l.receiver w (es ++ xs))
            (sym (cond-true (eqb l.receiver l.receiver) _ _ (eq-eqb l.receiver l.receiver refl)
            ∙ cond-true (is_its_own x) _ _ o)) (own_refused x h o)
        | inr o ↦ nothing_given g _ (cond-true (eqb l.receiver l.receiver) _ _ (eq-eqb l.receiver l.receiver refl)
            ∙ cond-false (is_its_own x) _ _ o)
      ]

    -- ---- a letter to another node

    others_accepted : (i : ℕ) → GoesAlike K z m₀ i w es → (i ≡ l.receiver → ⊥) → receive_refusal w place ≡ None
        → GoesAlike K z m₀ i (received w place) es
    others_accepted i g d h =
        let receiver_in = (seen_unspoilt j place (accepted w place h)).receiver_in in
        unmoved g (received w place)
        (row_elsewhere (with_used (relayed_used w.ring l) w.ring) l.receiver
        (taken_row (nodes_of w.ring.size) (quorum_of w.ring.size) l (row_of w l.receiver)) i d)
        (taken_elsewhere (nodes_of w.ring.size) (quorum_of w.ring.size) l (row_of w l.receiver) l.receiver w.sheets
        (sheet_small j l.receiver receiver_in) i d)
        refl (record { places = g.named.places; broadcast = g.named.broadcast; others = g.named.others })

    -- ---- any receipt

    pub receives_alike : (i : ℕ) → GoesAlike K z m₀ i w es → i < z.n → lives w i ≡ true → (r : Result (Unit {0}) Refusal)
        → (v : World) → Receives w place r v → GoesAlike K z m₀ i v (es ++ given i w place r v)
    receives_alike i g inside alive r v h =
        let o = receive_refusal w place in
        let P : Result (Unit {0}) Refusal → World → Type 0 = λ a x. GoesAlike K z m₀ i x (es ++ given i w place a x) in
        let Q : ℕ → Type 0 = λ x. GoesAlike K z m₀ x (unless o (received w place) w)
        (es ++ given x w place (outcome o) (unless o (received w place) w)) in
        subst (λ (a : Result (Unit {0}) Refusal). P a v) (sym h.0) (subst (λ (x : World). P (outcome o) x) (sym h.1)
        (elim (cases_eq i l.receiver) [
          | inl e ↦ subst Q (sym e) (own_by_cause (subst (λ (x : ℕ). GoesAlike K z m₀ x w es) e g)
              (subst (λ (x : ℕ). x < z.n) e inside) (subst (λ (x : ℕ). lives w x ≡ true) e alive) o refl)
          | inr d ↦ nothing_given
              (either_way (λ (x : World). GoesAlike K z m₀ i x es) o (received w place) w (unless o (received w place) w) refl
              (others_accepted i g d) g)
              _ (cond-false (eqb l.receiver i) _ _ (ne_eqb l.receiver i (λ e. d (sym e))))
        ]))
