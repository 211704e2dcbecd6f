-- A walk is a day: each of its turns is a call.
use Rattle.std.proofs.Common.{ℕ, Bool, true, false, List}
use Rattle.record.specs.Kind.{Kind}
use Rattle.chooser.specs.Meaning.{Meaning}
use Rattle.ring.specs.World.{World}
use Rattle.ring.specs.Day as day
use Rattle.ring.specs.Day.{Day}
use Rattle.schedule.specs.Entries.{Act}
use Rattle.replay.specs.Turns.{Turn, broadcasts, receives, steps, crashes, loses}
use Rattle.replay.specs.Runs.{Walk, sets_out, accepts, refuses}

module _ (K : Kind) (w₀ : World) (M₀ : Meaning) where
  -- a turn goes on with the day
  turn_day : (w : World) (M : Meaning) (a : Act) (x : Bool) (v : World) (N : Meaning) →
      Day K w₀ M₀ w M → Turn K w M a x v N → Day K w₀ M₀ v N
  turn_day _ _ _ _ _ _ d (broadcasts w M node c body r v h) = day.broadcasts w M node c r v d h
  turn_day _ _ _ _ _ _ d (receives w M place r v h) = day.receives w M place r v d h
  turn_day _ _ _ _ _ _ d (steps w M node r v N h s) = day.steps w M node r v N d h s
  turn_day _ _ _ _ _ _ d (crashes w M node r s h) = day.crashes w M node r s d h
  turn_day _ _ _ _ _ _ d (loses w M place r v h) = day.loses w M place r v d h

  module _ (bytes : List ℕ) (p₀ : ℕ) where
    -- and so does every turn of a walk
    pub walk_day : (p : ℕ) (w : World) (M : Meaning) (accepted refused : ℕ) → Walk K bytes p₀ w₀ M₀ p w M accepted refused → Day K w₀ M₀ w M
    walk_day _ _ _ _ _ sets_out = day.begins
    walk_day _ _ _ _ _ (accepts p q w v M N a accepted refused k e t) = turn_day w M a true v N (walk_day p w M accepted refused k) t
    walk_day _ _ _ _ _ (refuses p q w v M N a accepted refused k e t) = turn_day w M a false v N (walk_day p w M accepted refused k) t
