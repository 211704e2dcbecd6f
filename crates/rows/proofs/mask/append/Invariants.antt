use Rattle.std.proofs.Common.{length}
use Rattle.rows.specs.Masks.{put, members}
use Rattle.rows.proofs.Writing.{Writes}
use Rattle.rows.proofs.mask.append.Given as goal

-- what is left to write completes the members
abbrev pub invariant-loop-at : goal.invariant-loop-at
invariant-loop-at l =
    (goal.iterator-loop-at).can_next l.at-iterator
    × (goal.iterator-loop-at).is_finite l.at-iterator
    × Writes (goal.iterator-loop-at).next_gives l.at-iterator (length l.initial.sheets) l.sheets
    (put l.initial.sheets l.place (members l.fn.set 64))
