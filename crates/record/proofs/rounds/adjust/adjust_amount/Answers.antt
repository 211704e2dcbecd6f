use Rattle.std.proofs.Common.{arith}
use Rattle.std.proofs.lemmas.Int.{ints, clamps}
use Rattle.record.proofs.rounds.adjust.adjust_amount.Goals as goal

-- neither the sum of two small numbers nor the end that it is held to is too wide
pub returns : goal.returns
returns c = omega (arith, ints, clamps)
