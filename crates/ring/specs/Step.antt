-- What a step makes of a world and of the chooser's meaning.
use Rattle.std.specs.Prelude.{◌≡◌, ℕ, Some, None, Err, Option, Result}
use Rattle.record.specs.Kind.{Kind}
use Rattle.chooser.specs.Meaning.{Meaning}
use Rattle.rows.specs.Causes.{first}
use Rattle.rows.specs.declared.refusal.Refusal.{Refusal}
use Rattle.rows.specs.declared.row.Phase.{Phase}
use Rattle.rows.specs.declared.row.Phase.TheVariants.{Gathering, Closing, Waiting, Ahead}
use Rattle.ring.specs.World.{World, row_of, table_refusal, live_refusal}
use Rattle.ring.specs.Gather.{Gathers}
use Rattle.ring.specs.Close.{Proposing, Settling}
use Rattle.ring.specs.declared.step.Step.{Step}

-- by the phase of the node
abbrev pub ByPhase : Kind → Phase → World → Meaning → ℕ → Result Step Refusal → World → Meaning → Type 0
ByPhase K Gathering w M node r v N = Gathers K.conflicts w node r v × (N ≡ M)
ByPhase K Closing w M node r v N = Proposing w M node r v N
ByPhase K Waiting w M node r v N = Settling w M node r v N
ByPhase K Ahead w M node r v N = Gathers K.conflicts w node r v × (N ≡ M)

-- by the cause that turns every step of the node down, or none
abbrev pub ByCause : Option Refusal → Kind → World → Meaning → ℕ → Result Step Refusal → World → Meaning → Type 0
ByCause (Some e) K w M node r v N = (r ≡ Err e) × (v ≡ w) × (N ≡ M)
ByCause None K w M node r v N = ByPhase K (row_of w node).phase w M node r v N

-- 4, 7, 8, 9, and then those of the phase
abbrev pub stepper_refusal : World → ℕ → Option Refusal
stepper_refusal w node = first (table_refusal w) (live_refusal w.ring node)

-- A step of a node: its answer, and the world and the chooser's meaning after it.
abbrev pub Steps : Kind → World → Meaning → ℕ → Result Step Refusal → World → Meaning → Type 0
Steps K w M node r v N = ByCause (stepper_refusal w node) K w M node r v N
