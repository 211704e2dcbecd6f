use Rattle.std.proofs.Common.{Ok, rules}
use Rattle.chooser.specs.Meaning.{Meaning}
use Rattle.ring.specs.World.{World, world}
use Rattle.ring.specs.Start.{Starts}
use Rattle.ring.proofs.DayJoined.{every_day_keeps}
use Rattle.ring.proofs.Followed.{every_record_follows}
use Rattle.ring.proofs.ring.Ring.start.Goals as goal

pub returns-clause-days : goal.returns-clause-days
returns-clause-days g c =
    let u : World = world c.args.self.now c.args.tray.now c.args.book.now c.args.sheets.now in
    let v : World = world c.of_size.result c.fill.new.self c.fill-2.new.self c.fill-3.new.self in
    let M : Meaning = g.C.Chooser.meaning c.args.chooser.now in
    let s : Starts c.args.size u M (Ok tt) v = search rules in
    every_day_keeps c.args.size u v M (Ok tt) (g.met.C.Chooser.sound c.args.chooser.now) s

pub returns-clause-follows : goal.returns-clause-follows
returns-clause-follows g c =
    let u : World = world c.args.self.now c.args.tray.now c.args.book.now c.args.sheets.now in
    let v : World = world c.of_size.result c.fill.new.self c.fill-2.new.self c.fill-3.new.self in
    let M : Meaning = g.C.Chooser.meaning c.args.chooser.now in
    let s : Starts c.args.size u M (Ok tt) v = search rules in
    every_record_follows c.args.size u v M (Ok tt) (g.met.C.Chooser.sound c.args.chooser.now) s
