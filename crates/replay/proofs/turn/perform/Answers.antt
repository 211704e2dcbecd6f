use Rattle.std.proofs.Common.{rules}
use Rattle.ring.specs.World.{world}
use Rattle.replay.proofs.Ways.{crash_turn}
use Rattle.replay.proofs.turn.perform.Goals as goal

pub returns-in-Crash : goal.returns-in-Crash
returns-in-Crash g c =
    rw c.in-Crash.is
    (crash_turn _ (world c.args.ring.now c.args.tray.now c.args.book.now c.args.sheets.now) _ _ c.crash.result _ _ (search rules) c.crash.ensures)
