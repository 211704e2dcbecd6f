use Rattle.std.proofs.Common.{◌≡◌, ◌++◌, take, drop}
use Rattle.record.specs.Card.{adjusted}
use Rattle.record.proofs.rounds.adjust.adjust_each.Given as goal

-- the rounds so far, and the rest once adjusted, are the whole
abbrev pub invariant-loop-round : goal.invariant-loop-round
invariant-loop-round l =
    take l.round-index l.rounds ++ adjusted l.by (drop l.round-index l.rounds) ≡ adjusted l.by l.initial.rounds
