use Rattle.std.proofs.Common.{◌≡◌, cond, ◌∷◌, ◌++◌, take, drop}
use Rattle.record.specs.Card.{placed}
use Rattle.record.proofs.rounds.post.put_in_place.Given as goal

-- the rounds so far, and the carried one before the rest or placed in it, are the whole
abbrev pub invariant-loop-here : goal.invariant-loop-here
invariant-loop-here l =
    take l.here-index l.rounds
    ++ cond l.found (l.carried ∷ drop l.here-index l.rounds) (placed l.carried (drop l.here-index l.rounds))
    ≡ placed l.initial.carried l.initial.rounds
