use Rattle.std.proofs.Common.{rules}
use Rattle.std.proofs.lemmas.Grind.{put_two}
use Rattle.transcript.proofs.RoundsText.{line_one, line_more}
use Rattle.transcript.proofs.player.PlayerDisplay.fmt.Goals as goal

pub loop-round-init : goal.loop-round-init
loop-round-init g c = rw (line_one c.args.self.now.told.now c.args.self.now.number) (search rules)

pub loop-round-preserved : goal.loop-round-preserved
loop-round-preserved g c plain =
    put_two _ _ _ _ _ _ _ (c.loop-round.invariant plain) (search rules)
    (line_more c.args.self.now.told.now c.args.self.now.number c.loop-round.round (search rules))
