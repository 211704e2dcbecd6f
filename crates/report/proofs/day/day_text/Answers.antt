use Rattle.std.proofs.Common.{◌≡◌, replicate, string_bytes, subst, rules}
use Rattle.std.proofs.lemmas.Result.{IfOk-weaker}
use Rattle.chooser.specs.Meaning.{Meaning}
use Rattle.ring.specs.World.{World, world}
use Rattle.replay.specs.WholeDay.{Days}
use Rattle.report.specs.Reports.{outset, day_text}
use Rattle.report.proofs.EveryNodeShown.{every_node_shown}
use Rattle.report.proofs.day.day_text.Goals as goal

pub day_lines-requires : goal.day_lines-requires
day_lines-requires g c =
    every_node_shown g.R.Record.kind c.args.size
    (world c.run_day.new.ring c.run_day.new.tray c.run_day.new.book c.run_day.new.sheets)
    (g.C.Chooser.meaning c.run_day.new.chooser) c.in-Ok.ensures.kept

pub returns-in-Ok : goal.returns-in-Ok
returns-in-Ok g c =
    let left : World = world c.run_day.new.ring c.run_day.new.tray c.run_day.new.book c.run_day.new.sheets in
    let M : Meaning = g.C.Chooser.meaning c.args.chooser.now in
    let N : Meaning = g.C.Chooser.meaning c.run_day.new.chooser in
    let begun : world c.new-ring.result (replicate 1024 c.default-tray.result) (replicate 64 c.default-book.result)
    (replicate 448 0) ≡ outset = search rules in
    let day = subst (λ (w : World). Days g.R.Record.kind c.args.size c.args.reader.bytes.now c.args.reader.place w M
    c.run_day.result left N) begun c.run_day.ensures in
    IfOk-weaker c.day_lines.result _ _ (λ s h.
    let told : string_bytes s ≡ day_text c.run_day.result c.args.size left = rw c.in-Ok.is h in
    record { answer = c.run_day.result; left = left; ran = day; told = told }) c.day_lines.ensures
