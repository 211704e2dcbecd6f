use Rattle.transcript.proofs.AnswersTaken.{answers_as_taken}
use Rattle.transcript.proofs.laws.answers_as_taken.Goals as goal

pub returns : goal.returns
returns c = answers_as_taken
