use Rattle.record.specs.Tables.{told_changed}
use Rattle.record.proofs.rounds.record.RoundsRecord.take.Goals as goal

pub returns : goal.returns
returns c =
    let s = c.args.self.now in
    let o = c.in_ok-player.field-0 in
    let asked = c.in_ok-player.ensures in (
      asked.0,
      told_changed s.cards c.args.command o.change o.player _ c.after.result s.eight o.known
          asked.1 asked.2 c.after.ensures,
    )
