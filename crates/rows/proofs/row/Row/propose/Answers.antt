use Rattle.std.proofs.Common.{◌≡◌, rules, sym, ap, ◌∙◌, arith}
use Rattle.rows.specs.Proposals.{majority}
use Rattle.rows.proofs.Receiving.{most_first}
use Rattle.rows.proofs.row.Row.propose.Goals as goal

pub returns : goal.returns
returns g c =
    let checks = c.args.self.now.checks in
    let most : c.in_most-nonconflicting.result ≡ majority checks c.args.size.q =
    c.in_most-nonconflicting.ensures ∙ sym (most_first checks c.from.result (omega arith))
    ∙ ap (majority checks) c.from.ensures in
    search rules
