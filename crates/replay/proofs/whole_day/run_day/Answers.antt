use Rattle.chooser.specs.Meaning.{Meaning}
use Rattle.ring.specs.World.{World, world}
use Rattle.replay.proofs.whole_day.run_day.Goals as goal

pub returns : goal.returns
returns g c =
    let w : World = world c.run.new.ring c.run.new.tray c.run.new.book c.run.new.sheets in
    let N : Meaning = g.C.Chooser.meaning c.run.new.chooser in
    let begun = c.in_ok-start.ensures in
    let kept = begun.days g.R.Record.kind g.met.R.Record.laws w N c.run.ensures.day in
    record {
      v = world c.start.new.self c.start.new.tray c.start.new.book c.start.new.sheets;
      starts = begun.start;
      runs = c.run.ensures.ran;
      day = c.run.ensures.day;
      kept = kept.0;
      told = kept.1;
    }
