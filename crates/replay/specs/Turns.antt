-- One entry of a schedule, given to a ring.
use Rattle.std.specs.Prelude.{ℕ, Bool, List, is_ok, Result}
use Rattle.record.specs.Kind.{Kind}
use Rattle.record.specs.declared.command.Command.{Command}
use Rattle.chooser.specs.Meaning.{Meaning, Sound}
use Rattle.rows.specs.declared.refusal.Refusal.{Refusal}
use Rattle.ring.specs.World.{World}
use Rattle.ring.specs.Broadcast.{Broadcasts}
use Rattle.ring.specs.Fail.{Crashes, Loses}
use Rattle.ring.specs.Receive.{Receives}
use Rattle.ring.specs.Step.{Steps}
use Rattle.ring.specs.Day.{with_ring}
use Rattle.ring.specs.declared.ring.Ring.{Ring}
use Rattle.ring.specs.declared.step.Step.{Step}
use Rattle.schedule.specs.Entries.{Act, broadcast, receive, step, crash, lose}

-- whether the ring accepted the act, and the world and the chooser's meaning before and after it
pub data Turn (K : Kind) : World → Meaning → Act → Bool → World → Meaning → Type 0 where
  broadcasts : (w : World) (M : Meaning) (node : ℕ) (c : Command) (body : List ℕ) (r : Result ℕ Refusal) (v : World) →
      Broadcasts K w node c r v → Turn K w M (broadcast node c body) (is_ok r) v M
  receives : (w : World) (M : Meaning) (place : ℕ) (r : Result (Unit {0}) Refusal) (v : World) →
      Receives w place r v → Turn K w M (receive place) (is_ok r) v M
  steps : (w : World) (M : Meaning) (node : ℕ) (r : Result Step Refusal) (v : World) (N : Meaning) →
      Steps K w M node r v N → Sound N → Turn K w M (step node) (is_ok r) v N
  crashes : (w : World) (M : Meaning) (node : ℕ) (r : Result (Unit {0}) Refusal) (s : Ring) →
      Crashes w.ring node r s → Turn K w M (crash node) (is_ok r) (with_ring w s) M
  loses : (w : World) (M : Meaning) (place : ℕ) (r : Result (Unit {0}) Refusal) (v : World) →
      Loses w place r v → Turn K w M (lose place) (is_ok r) v M
