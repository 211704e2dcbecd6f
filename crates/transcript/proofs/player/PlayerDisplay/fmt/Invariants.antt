use Rattle.std.specs.Fmt.{HasWritten, IsPlainFormatter}
use Rattle.transcript.proofs.RoundsText.{line_until}
use Rattle.transcript.proofs.player.PlayerDisplay.fmt.Given as goal

-- the line so far
abbrev pub invariant-loop-round : goal.invariant-loop-round
invariant-loop-round g l =
    IsPlainFormatter l.fn.f →
    HasWritten g.W.Write.write_str_gives l.fn.f (line_until l.self.told.now l.self.number l.round) l.f
