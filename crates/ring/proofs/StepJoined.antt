-- Every step of a node keeps a world joined to the protocol.
use Rattle.std.proofs.Common.{◌≡◌, ℕ, ◌≤◌, Some, None, Option, Result, sym, refl, ap, subst}
use Rattle.record.specs.Kind.{Kind}
use Rattle.chooser.specs.Meaning.{Meaning, Sound}
use Rattle.rows.specs.Receipts.{is_gathering}
use Rattle.rows.specs.declared.refusal.Refusal.{Refusal}
use Rattle.rows.specs.declared.row.Phase.{Phase}
use Rattle.rows.specs.declared.row.Phase.TheVariants.{Gathering, Closing, Waiting, Ahead}
use Rattle.rows.specs.declared.size.RingSize.{RingSize}
use Rattle.ring.specs.World.{World, row_of, table_refusal}
use Rattle.ring.specs.Step.{ByPhase, ByCause, stepper_refusal, Steps}
use Rattle.ring.specs.declared.step.Step.{Step}
use Rattle.ring.proofs.Called.{Called, refused_called}
use Rattle.ring.proofs.Causes.{first_none, living, Lives}
use Rattle.ring.proofs.GatherJoined.{gathers_joined}
use Rattle.ring.proofs.ProposalJoined.{proposing_joined}
use Rattle.ring.proofs.Seeing.{Joined}
use Rattle.ring.proofs.SettlementJoined.{settling_joined}

module _ {K : Kind} {z : RingSize} {need : ℕ} {low : 1 ≤ need} {high : need ≤ z.q} {w : World} {M : Meaning}
    (j : Joined K z need low high w M) (node : ℕ) (r : Result Step Refusal) (v : World) (N : Meaning) (sound : Sound N) where
  -- by the phase of the node
  by_phase : Lives z w.ring node → (phase : Phase) → (row_of w node).phase ≡ phase
      → ByPhase K phase w M node r v N → Called K z need low high w M v N
  by_phase lives Gathering e h =
      subst (Called K z need low high w M v) (sym h.1) (gathers_joined j node lives (ap is_gathering e) r v h.0)
  by_phase lives Closing e h = proposing_joined j node lives e r v N h sound
  by_phase lives Waiting e h = settling_joined j node lives e r v N h
  by_phase lives Ahead e h =
      subst (Called K z need low high w M v) (sym h.1) (gathers_joined j node lives (ap is_gathering e) r v h.0)

  -- by the cause that turns the step down, or none
  by_cause : (cause : Option Refusal) → stepper_refusal w node ≡ cause → ByCause cause K w M node r v N
      → Called K z need low high w M v N
  by_cause None e h =
      let lives = living z w.ring node j.fine.size (first_none (table_refusal w) _ e).1 in
      by_phase lives (row_of w node).phase refl h
  by_cause (Some e) f h =
      subst (λ (q : World). Called K z need low high w M q N) (sym h.1) (subst (Called K z need low high w M w) (sym h.2) (refused_called j))

  -- a step, refused or not
  pub steps_joined : Steps K w M node r v N → Called K z need low high w M v N
  steps_joined h = by_cause (stepper_refusal w node) refl h
