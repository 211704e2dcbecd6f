-- The ways of a turn and of a run, as lists from which the check takes them.
use Rattle.std.proofs.Common.{◌≡◌, ℕ, Bool, is_ok, Result, sym, subst}
use Rattle.record.specs.Kind.{Kind}
use Rattle.chooser.specs.Meaning.{Meaning}
use Rattle.rows.specs.declared.refusal.Refusal.{Refusal}
use Rattle.ring.specs.World.{World}
use Rattle.ring.specs.Day.{with_ring}
use Rattle.ring.specs.Fail.{Crashes}
use Rattle.ring.specs.declared.ring.Ring.{Ring}
use Rattle.schedule.specs.Entries.{crash}
use Rattle.replay.specs.Turns.{Turn, broadcasts, receives, steps, crashes, loses}
use Rattle.replay.specs.Runs.{sets_out, accepts, refuses, ends, stops}
use Rattle.replay.proofs.RunIsDay.{walk_day}

-- a crash, with its answer under another name
pub crash_turn : (K : Kind) (w : World) (M : Meaning) (node : ℕ) (r : Result (Unit {0}) Refusal) (s : Ring) (x : Bool) →
    x ≡ is_ok r → Crashes w.ring node r s → Turn K w M (crash node) x (with_ring w s) M
crash_turn K w M node r s x e h =
    subst (λ (y : Bool). Turn K w M (crash node) y (with_ring w s) M) (sym e) (crashes w M node r s h)

-- a turn, but for a crash
pub ruleset turn_ways = (broadcasts, receives, steps, loses)

-- a run, and that it is a day
pub ruleset run_ways = (sets_out, accepts, refuses, ends, stops, walk_day)
