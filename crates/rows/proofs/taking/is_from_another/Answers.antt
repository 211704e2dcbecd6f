use Rattle.std.proofs.Common.{ℕ, Bool, not, ◌&&◌, eqb, get_or, rules, refl, sym, ◌∙◌}
use Rattle.std.proofs.lemmas.Iterator.{YieldsList-from_range}
use Rattle.std.proofs.lemmas.Iterator.Search.{any_from_yields_List}
use borrow.Author.Tests.{tests}
use Rattle.rows.specs.Masks.{has}
use Rattle.rows.proofs.Anys.{any_over}
use Rattle.rows.proofs.taking.is_from_another.Goals as goal

pub returns : goal.returns
returns c =
    let other : ℕ → Bool = λ m. has c.args.set m && not (eqb (get_or c.args.broadcasters.now m 0) c.args.node) in
    any_from_yields_List other _ _ _ c.any.ensures.ran (YieldsList-from_range 0 64 64 refl refl)
    (λ x b q k. search (rules, tests))
    ∙ sym (any_over other 64)
