-- An iterator over a list: a part that came leaves fewer.
use Rattle.std.proofs.Common.{◌≡◌, List, ◌∷◌, length, Some, ap, arith}
use Rattle.std.specs.Iterator.{MakesProgress, item_count}

pub fewer_left : {S A B : Type 0} {can : S → Type 0} (v : A → B) (rest : S → List B) {s t : S} {x : A} →
    rest s ≡ v x ∷ rest t → can t → MakesProgress can (item_count rest) s (Some x) t
fewer_left v rest e again =
    let fewer = ap length e in
    record { on = λ f. (again, tt, omega (arith, fewer)); keeps = again; rests = λ f. tt }
