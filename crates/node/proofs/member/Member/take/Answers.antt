use Rattle.std.proofs.Common.{ap, ◌∙◌}
use Rattle.rows.specs.declared.row.Row.{Row}
use Rattle.rows.proofs.Phases.{taken_phase}
use Rattle.node.proofs.member.Member.take.Goals as goal

pub returns-clause-phase : goal.returns-clause-phase
returns-clause-phase c =
    let m = c.args.self.now in
    ap (λ (row : Row). row.phase) c.take.ensures.row ∙ taken_phase m.size.n m.size.q c.args.letter m.row
