use Rattle.protocol.proofs.Orderly as law
use Rattle.protocol.proofs.calls_are_orderly.Goals as goal

pub returns : goal.returns
returns c = law.calls_are_orderly
