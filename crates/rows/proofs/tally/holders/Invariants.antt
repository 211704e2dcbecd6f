use Rattle.std.proofs.Common.{◌≡◌, ◌≤◌, take}
use Rattle.std.specs.List.{count_by}
use Rattle.rows.specs.Masks.{has}
use Rattle.rows.specs.declared.row.Check.{Check}
use Rattle.rows.proofs.tally.holders.Given as goal

-- those among the checks so far
abbrev pub invariant-loop-check : goal.invariant-loop-check
invariant-loop-check l =
    (l.count ≡ count_by (λ (c : Check). has c.set l.m) (take l.check-index l.checks)) × (l.count ≤ l.check-index)
