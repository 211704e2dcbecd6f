use Rattle.transcript.proofs.RoundsKept.{rounds_as_kept}
use Rattle.transcript.proofs.laws.rounds_as_kept.Goals as goal

pub returns : goal.returns
returns c = rounds_as_kept
