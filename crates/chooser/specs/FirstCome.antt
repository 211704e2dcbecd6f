-- First-come: the first proposal is decided.
use Rattle.chooser.specs.Log.{logged}
use Rattle.chooser.specs.Meaning.{Meaning}
use Rattle.chooser.specs.Ruled.{ruled}
use Rattle.chooser.specs.declared.log.Log.{Log}

abbrev pub first_come : Log → Meaning
first_come log = ruled 1 (λ s ps. 0) (logged log)
