use Rattle.record.proofs.PostingLaws.{posting_adds_one}
use Rattle.record.proofs.rounds.laws.posting_adds_one.Goals as goal

pub returns : goal.returns
returns c = posting_adds_one
