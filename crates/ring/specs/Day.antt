-- A day: any list of calls.
use Rattle.std.specs.Prelude.{ℕ, Result}
use Rattle.record.specs.Kind.{Kind}
use Rattle.record.specs.declared.command.Command.{Command}
use Rattle.chooser.specs.Meaning.{Meaning, Sound}
use Rattle.rows.specs.declared.refusal.Refusal.{Refusal}
use Rattle.ring.specs.World.{World, world}
use Rattle.ring.specs.Broadcast.{Broadcasts}
use Rattle.ring.specs.Fail.{Crashes, Loses}
use Rattle.ring.specs.Receive.{Receives}
use Rattle.ring.specs.Step.{Steps}
use Rattle.ring.specs.declared.ring.Ring.{Ring}
use Rattle.ring.specs.declared.step.Step.{Step}

-- the world with another ring
abbrev pub with_ring : World → Ring → World
with_ring w r = world r w.tray w.book w.sheets

-- the worlds and the chooser's meanings that any list of calls makes of one world and one meaning, refused calls
-- included; the chooser stays one whose decisions are sound
pub data Day (K : Kind) (w₀ : World) (M₀ : Meaning) : World → Meaning → Type 0 where
  begins : Day K w₀ M₀ w₀ M₀
  broadcasts : (w : World) (M : Meaning) (node : ℕ) (c : Command) (r : Result ℕ Refusal) (v : World) →
      Day K w₀ M₀ w M → Broadcasts K w node c r v → Day K w₀ M₀ v M
  receives : (w : World) (M : Meaning) (place : ℕ) (r : Result (Unit {0}) Refusal) (v : World) →
      Day K w₀ M₀ w M → Receives w place r v → Day K w₀ M₀ v M
  steps : (w : World) (M : Meaning) (node : ℕ) (r : Result Step Refusal) (v : World) (N : Meaning) →
      Day K w₀ M₀ w M → Steps K w M node r v N → Sound N → Day K w₀ M₀ v N
  crashes : (w : World) (M : Meaning) (node : ℕ) (r : Result (Unit {0}) Refusal) (s : Ring) →
      Day K w₀ M₀ w M → Crashes w.ring node r s → Day K w₀ M₀ (with_ring w s) M
  loses : (w : World) (M : Meaning) (place : ℕ) (r : Result (Unit {0}) Refusal) (v : World) →
      Day K w₀ M₀ w M → Loses w place r v → Day K w₀ M₀ v M
