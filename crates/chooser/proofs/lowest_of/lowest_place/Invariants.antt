use Rattle.std.proofs.Common.{◌≡◌, drop}
use Rattle.chooser.specs.LowestOf.{lowest, lowest_from}
use Rattle.chooser.proofs.lowest_of.lowest_place.Given as goal

abbrev pub invariant-loop-i : goal.invariant-loop-i
invariant-loop-i l = lowest_from l.best l.node l.i (drop l.i l.proposals) ≡ lowest l.proposals
