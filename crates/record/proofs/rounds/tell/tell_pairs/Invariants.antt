use Rattle.std.proofs.Common.{◌≡◌, ◌++◌, drop, vec_items}
use Rattle.record.specs.Rounds.{pairs}
use Rattle.record.proofs.rounds.tell.tell_pairs.Given as goal

-- what is told so far, and what the rest will tell
abbrev pub invariant-loop-round : goal.invariant-loop-round
invariant-loop-round l =
    vec_items l.list ++ pairs (drop l.round-index l.rounds) ≡ vec_items l.initial.list ++ pairs l.rounds
