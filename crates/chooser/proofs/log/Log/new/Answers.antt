use Rattle.chooser.proofs.Tables.{nothing_in_again}
use Rattle.chooser.proofs.log.Log.new.Goals as goal

pub returns : goal.returns
returns c = nothing_in_again c.new.result c.new.ensures
