use Rattle.std.proofs.Common.{ap}
use Rattle.rows.specs.declared.row.Row.{Row}
use Rattle.node.specs.declared.member.Member.{Member}
use Rattle.node.proofs.DayAlike.{goes_as_in_a_ring}
use Rattle.node.proofs.gathering_node.Gathering.new.Goals as goal

pub returns-clause-alike : goal.returns-clause-alike
returns-clause-alike g c =
    goes_as_in_a_ring c.args.size c.args.number c.if-number-size.false _
    (ap {B = Member} (λ (row : Row). record { number = c.args.number; size = c.args.size; row = row }) c.new-row.ensures)
