-- Every step of a ring, whosever it is and whatever its answer, leaves a node by itself alike.
use Rattle.std.proofs.Common.{◌≡◌, ℕ, ◌+◌, ◌<◌, ◌≤◌, true, eqb, List, ◌++◌, Some, None, Ok, Err, Option, Result, sym}
use Rattle.std.proofs.Common.{refl, subst, inl, inr}
use Rattle.std.proofs.lemmas.Bool.{cases_eq, ne_eqb, cond-false}
use Rattle.record.specs.Kind.{Kind}
use Rattle.chooser.specs.Meaning.{Meaning, served}
use Rattle.rows.specs.Rows.{undelivered, with_pending, with_closed, with_proposed}
use Rattle.rows.specs.Settlements.{settled_row, settle_refusal, decided_of}
use Rattle.rows.specs.declared.refusal.Refusal.{Refusal}
use Rattle.rows.specs.declared.row.Phase.{Phase}
use Rattle.rows.specs.declared.row.Phase.TheVariants.{Gathering, Closing, Waiting, Ahead}
use Rattle.rows.specs.declared.size.RingSize.{RingSize}
use Rattle.ring.specs.World.{World, nodes_of, row_of, with_used, table_refusal}
use Rattle.ring.specs.Gather.{acknowledged, closed, Gathers}
use Rattle.ring.specs.Close.{proposed_by, decision_for, settled_by, Proposing, Settling}
use Rattle.ring.specs.Promises.{lives}
use Rattle.ring.specs.Step.{ByPhase, ByCause, stepper_refusal, Steps}
use Rattle.ring.specs.declared.step.Step.{Step}
use Rattle.ring.specs.declared.step.Step.TheVariants.{Acknowledged, Closed, Proposed, Settled}
use Rattle.ring.proofs.Allowed.{step_allowed}
use Rattle.ring.proofs.Causes.{first_none, either_way, living, Lives}
use Rattle.ring.proofs.Changing.{sheet_small}
use Rattle.ring.proofs.NodesKept.{row_elsewhere}
use Rattle.ring.proofs.Seeing.{Joined}
use Rattle.ring.proofs.SettlementJoined.{told_stands, first_small, second_small}
use Rattle.node.specs.Events.{Event}
use Rattle.node.specs.Alike.{stepped, GoesAlike}
use Rattle.node.specs.declared.member.Member.{Member}
use Rattle.node.proofs.SheetPart.{settled_elsewhere}
use Rattle.node.proofs.TurnsAlike.{by_phase}
use Rattle.node.proofs.EventsGiven.{unmoved, nothing_given}

module _ {K : Kind} {z : RingSize} {need : ℕ} {low : 1 ≤ need} {high : need ≤ z.q} {w : World} {M : Meaning} {m₀ : Member} {i : ℕ}
    {es : List Event} (j : Joined K z need low high w M) (g : GoesAlike K z m₀ i w es) where
  -- ---- a step of another node
  module _ (node : ℕ) (d : i ≡ node → ⊥) where
    gathers : (r : Result Step Refusal) (v : World) → Gathers K.conflicts w node r v → GoesAlike K z m₀ i v es
    gathers (Ok Acknowledged) v h =
        subst (λ (x : World). GoesAlike K z m₀ i x es) (sym h.2)
        (unmoved g (acknowledged w node)
        (row_elsewhere (with_used (w.ring.used + nodes_of w.ring.size) w.ring) node
        (with_pending (undelivered (row_of w node)) (row_of w node)) i d) refl refl
        (record { places = g.named.places; broadcast = g.named.broadcast; others = g.named.others }))
    gathers (Ok (Closed a b)) v h =
        subst (λ (x : World). GoesAlike K z m₀ i x es) (sym h.3)
        (unmoved g (closed w node)
        (row_elsewhere (with_used (w.ring.used + nodes_of w.ring.size) w.ring) node (with_closed (row_of w node)) i d)
        refl refl (record { places = g.named.places; broadcast = g.named.broadcast; others = g.named.others }))
    gathers (Ok Proposed) v h = absurd h
    gathers (Ok Settled) v h = absurd h
    gathers (Err e) v h = subst (λ (x : World). GoesAlike K z m₀ i x es) (sym h.1) g

    proposes : (r : Result Step Refusal) (v : World) (N : Meaning) → Proposing w M node r v N → GoesAlike K z m₀ i v es
    proposes (Ok Proposed) v N h =
        subst (λ (x : World). GoesAlike K z m₀ i x es) (sym h.2)
        (unmoved g (proposed_by w node) (row_elsewhere w.ring node (with_proposed (row_of w node)) i d) refl refl
        (record { places = g.named.places; broadcast = g.named.broadcast; others = g.named.others }))
    proposes (Ok Acknowledged) v N h = absurd h
    proposes (Ok (Closed a b)) v N h = absurd h
    proposes (Ok Settled) v N h = absurd h
    proposes (Err e) v N h = subst (λ (x : World). GoesAlike K z m₀ i x es) (sym h.1) g

    module _ (live : Lives z w.ring node) where
      settles : (row_of w node).phase ≡ Waiting → (r : Result Step Refusal) (v : World) (N : Meaning) → Settling w M node r v N
          → GoesAlike K z m₀ i v es
      settles phase r v N h =
          let told = decision_for w M node in
          let decided = decided_of told in
          either_way (λ (x : World). GoesAlike K z m₀ i x es) (settle_refusal told) (settled_by w node decided) w v h.1
          (λ e.
          let stands = told_stands (served (row_of w node).stage) (M.decision (row_of w node).stage) e in
          unmoved g (settled_by w node decided) (row_elsewhere w.ring node (settled_row decided (row_of w node)) i d)
          (settled_elsewhere decided (row_of w node) node w.sheets (sheet_small j node live.in_ring)
          (first_small j node live phase decided stands) (second_small j node live phase decided stands) i d)
          refl (record { places = g.named.places; broadcast = g.named.broadcast; others = g.named.others })) g

      other_phase : (p : Phase) → (row_of w node).phase ≡ p → (r : Result Step Refusal) (v : World) (N : Meaning)
          → ByPhase K p w M node r v N → GoesAlike K z m₀ i v es
      other_phase Gathering e r v N h = gathers r v h.0
      other_phase Closing e r v N h = proposes r v N h
      other_phase Waiting e r v N h = settles e r v N h
      other_phase Ahead e r v N h = gathers r v h.0

    other_cause : (o : Option Refusal) → stepper_refusal w node ≡ o → (r : Result Step Refusal) (v : World) (N : Meaning)
        → ByCause o K w M node r v N → GoesAlike K z m₀ i v es
    other_cause None e r v N h =
        other_phase (living z w.ring node j.fine.size (first_none (table_refusal w) _ e).1) (row_of w node).phase refl r v N h
    other_cause (Some x) e r v N h = subst (λ (y : World). GoesAlike K z m₀ i y es) (sym h.1) g

  -- ---- any step

  pub steps_alike : i < z.n → lives w i ≡ true → (node : ℕ) (r : Result Step Refusal) (v : World) (N : Meaning)
      → Steps K w M node r v N → GoesAlike K z m₀ i v (es ++ stepped i w M node r v N)
  steps_alike inside alive node r v N h = elim (cases_eq i node) [
    | inl e ↦ subst (λ (x : ℕ). GoesAlike K z m₀ i v (es ++ stepped i w M x r v N)) e
        (by_phase j g inside alive (row_of w i).phase refl r v N
        (subst (λ (o : Option Refusal). ByCause o K w M i r v N) (step_allowed j.fine i inside alive)
        (subst (λ (x : ℕ). Steps K w M x r v N) (sym e) h)))
    | inr d ↦ nothing_given (other_cause node d (stepper_refusal w node) refl r v N h) _
        (cond-false (eqb node i) _ _ (ne_eqb node i (λ e. d (sym e))))
  ]
