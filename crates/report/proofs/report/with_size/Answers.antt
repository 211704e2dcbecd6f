use Rattle.std.proofs.Common.{string_bytes}
use Rattle.std.proofs.lemmas.Result.{IfOk-weaker}
use Rattle.chooser.specs.FirstCome.{first_come}
use Rattle.chooser.specs.LowestOf.{lowest_of}
use Rattle.chooser.proofs.Lowest.{lowest_decides}
use Rattle.report.proofs.NewChooser.{by_first_come, by_lowest_of}
use Rattle.report.proofs.report.with_size.Goals as goal

pub returns-in-FirstCome : goal.returns-in-FirstCome
returns-in-FirstCome c =
    IfOk-weaker c.with_chooser.result _ _ (λ s h. by_first_come c.args.header c.args.size c.requires
    (first_come c.new-chooser.result.log) (first_come c.with_chooser.new.chooser.log) c.args.reader.bytes.now
    c.args.reader.place (string_bytes s) h c.in-FirstCome.is c.new-chooser.ensures) c.with_chooser.ensures

pub returns-in-Ok : goal.returns-in-Ok
returns-in-Ok c =
    let after = c.with_chooser-in-LowestOf.new.chooser in
    IfOk-weaker c.with_chooser-in-LowestOf.result _ _ (λ s h. by_lowest_of c.args.header c.args.size c.requires
    (lowest_of c.in-Ok.chooser.rule.need c.in-Ok.chooser.log) (lowest_of after.rule.need after.log)
    c.args.reader.bytes.now c.args.reader.place (string_bytes s) h c.in-LowestOf.is c.in-Ok.ensures.1
    (λ stage e. lowest_decides after.rule.need after.log stage after.rule.low e)) c.with_chooser-in-LowestOf.ensures
