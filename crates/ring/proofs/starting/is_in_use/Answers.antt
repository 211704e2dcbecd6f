use Rattle.std.proofs.Common.{refl, rules, tests}
use Rattle.std.proofs.lemmas.Iterator.{YieldsList-from_range}
use Rattle.std.proofs.lemmas.Iterator.Search.{any_from_yields_List}
use Rattle.ring.specs.Start.{is_used, in_use}
use Rattle.ring.proofs.starting.is_in_use.Goals as goal

pub returns : goal.returns
unfolding in_use
returns g c =
    any_from_yields_List (is_used (g.C.Chooser.meaning c.args.chooser.now)) _ _ _ c.any.ensures.ran
    (YieldsList-from_range 1 33 32 refl refl) (λ x b q k. search (rules, tests))
