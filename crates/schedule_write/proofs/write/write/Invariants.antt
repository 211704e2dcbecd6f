use Rattle.std.proofs.Common.{◌≡◌, ◌++◌, length, take, drop}
use Rattle.schedule.specs.Drafts.{spelled}
use Rattle.schedule_write.proofs.write.write.Given as goal

-- the numbers so far stand at the front, and past them all is as it was
abbrev pub invariant-loop-value : goal.invariant-loop-value
invariant-loop-value l =
    (l.at ≡ length (spelled (take l.value-index l.list)))
    × (l.buffer ≡ spelled (take l.value-index l.list) ++ drop l.at l.initial.buffer)
