use Rattle.std.proofs.Common.{rules, tests}
use Rattle.std.proofs.lemmas.Iterator.{YieldsList-from_slice}
use Rattle.std.proofs.lemmas.Iterator.Search.{any_from_yields_List}
use Rattle.chooser.specs.Table.{arrived}
use Rattle.chooser.proofs.Stages.{searched}
use Rattle.chooser.proofs.log.stage.Stage.has.Goals as goal

pub returns : goal.returns
returns c =
    let ps = arrived c.args.self.now in
    rw (searched c.args.node ps)
    (any_from_yields_List _ _ _ _ c.any.ensures.ran (YieldsList-from_slice ps cc)
    (λ x b q k. search (rules, tests)))
