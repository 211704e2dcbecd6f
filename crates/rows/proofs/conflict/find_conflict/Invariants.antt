use Rattle.std.proofs.Common.{◌≡◌, ℕ, ◌<◌, false}
use Rattle.rows.specs.Conflicts.{clash}
use Rattle.rows.proofs.conflict.find_conflict.Given as goal

-- no pair was found among the messages below i
abbrev pub invariant-loop-i : goal.invariant-loop-i
invariant-loop-i g l = (a : ℕ) → a < l.i → (b : ℕ) → b < a → clash g.R.Record.kind.conflicts l.book l.set a b ≡ false

-- nor of i with a message below j
abbrev pub invariant-loop-j : goal.invariant-loop-j
invariant-loop-j g l =
    ((a : ℕ) → a < l.i → (b : ℕ) → b < a → clash g.R.Record.kind.conflicts l.book l.set a b ≡ false)
    × ((b : ℕ) → b < l.j → clash g.R.Record.kind.conflicts l.book l.set l.i b ≡ false)
