use Rattle.std.proofs.Common.{◌≡◌}
use Rattle.rows.specs.Receipts.{heard_from}
use Rattle.rows.proofs.taking.hear.Given as goal

abbrev pub invariant-loop-m : goal.invariant-loop-m
invariant-loop-m l = l.heard ≡ heard_from l.initial.heard l.sender l.set l.m
