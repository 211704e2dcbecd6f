use Rattle.std.proofs.Common.{arith}
use Rattle.schedule.proofs.Fronts.{longer}
use Rattle.schedule.proofs.numbers.short_number.Goals as goal

-- none of three bytes ends the number
pub returns-in_default-4-clause-value : goal.returns-in_default-4-clause-value
returns-in_default-4-clause-value c = longer c.args.bytes.now (λ h. omega arith) (λ h. omega arith) (λ h. omega arith)
