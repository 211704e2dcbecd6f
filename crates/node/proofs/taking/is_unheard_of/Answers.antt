use Rattle.std.proofs.Common.{ℕ, Bool, ◌&&◌, eqb, get_or, rules, refl, sym, ◌∙◌}
use Rattle.std.proofs.lemmas.Iterator.{YieldsList-from_range}
use Rattle.std.proofs.lemmas.Iterator.Search.{any_from_yields_List}
use borrow.Author.Tests.{tests}
use Rattle.rows.specs.Masks.{has}
use Rattle.rows.proofs.Anys.{any_over}
use Rattle.node.proofs.taking.is_unheard_of.Goals as goal

pub returns : goal.returns
returns c =
    let unheard : ℕ → Bool = λ m. has c.args.set m && eqb (get_or c.args.broadcasters.now m 0) 255 in
    any_from_yields_List unheard _ _ _ c.any.ensures.ran (YieldsList-from_range 0 64 64 refl refl)
    (λ x b q k. search (rules, tests))
    ∙ sym (any_over unheard 64)
