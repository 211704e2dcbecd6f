-- A day from its start: the start, and the run after it.
use Rattle.std.specs.Prelude.{◌≡◌, ℕ, List, Ok, Err, Result}
use Rattle.record.specs.Kind.{Kind}
use Rattle.chooser.specs.Meaning.{Meaning}
use Rattle.rows.specs.declared.refusal.Refusal.{Refusal}
use Rattle.rows.specs.declared.size.RingSize.{RingSize}
use Rattle.ring.specs.World.{World}
use Rattle.ring.specs.Day.{Day}
use Rattle.ring.specs.History.{Told}
use Rattle.ring.specs.Promises.{Kept}
use Rattle.ring.specs.Start.{Starts}
use Rattle.replay.specs.Runs.{Runs}
use Rattle.replay.specs.declared.tally.Tally.{Tally}

-- The world u is started and becomes v, the entries are given to it, and what they leave, w, keeps every promise of a day.
pub record Ran (K : Kind) (z : RingSize) (bytes : List ℕ) (p : ℕ) (u : World) (M : Meaning) (t : Tally) (w : World)
    (N : Meaning) : Type 0 where
  pub v : World
  pub starts : Starts z u M (Ok tt) v
  pub runs : Runs K bytes p v M w N t.accepted t.refused t.fault
  pub day : Day K v M w N
  pub kept : Kept K z w N
  pub told : Told day

-- or the start is refused, and all is left as found
abbrev pub Days : Kind → RingSize → List ℕ → ℕ → World → Meaning → Result Tally Refusal → World → Meaning → Type 0
Days K z bytes p u M (Ok t) w N = Ran K z bytes p u M t w N
Days K z bytes p u M (Err e) w N = Starts z u M (Err e) w × (N ≡ M)
