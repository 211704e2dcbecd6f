-- Rounds may be posted in any order.
use Rattle.std.specs.Prelude.{◌≡◌, ℕ, zero, suc, true, false, List, [], ◌∷◌, take, ℤ, refl}
use Rattle.std.proofs.Common.{arith, ap, ◌∙◌, subst, ⊎_elim}
use Rattle.std.proofs.lemmas.Bool.Decides.{nat_tests}
use Rattle.std.proofs.lemmas.Int.{ints}
use Rattle.std.proofs.lemmas.Bool.{cases_Bool}
use Rattle.std.proofs.lemmas.List.{take-take}
use Rattle.record.specs.Card.{ahead, placed}
use Rattle.record.specs.declared.rounds.card.Round.{Round}

pub ahead_total : (x y : Round) → ahead x y ≡ false → ahead y x ≡ true
ahead_total x y e = grind (arith, nat_tests, ints)

ahead_trans : (x y z : Round) → ahead x y ≡ true → ahead y z ≡ true → ahead x z ≡ true
ahead_trans x y z e f = grind (arith, nat_tests, ints)

same_round : (x y : Round) → x.day ≡ y.day → x.amount ≡ y.amount → x ≡ y
same_round x y p q =
    ap (λ (d : ℕ). record { day = d; amount = x.amount }) p ∙ ap (λ (a : ℤ). record { day = y.day; amount = a }) q

ahead_both : (x y : Round) → ahead x y ≡ true → ahead y x ≡ true → x ≡ y
ahead_both x y e f = same_round x y (grind (arith, nat_tests, ints)) (grind (arith, nat_tests, ints))

-- equal rounds may be placed either way
same_two : (a b : Round) (xs : List Round) → ahead a b ≡ true → ahead b a ≡ true →
    placed a (placed b xs) ≡ placed b (placed a xs)
same_two a b xs e f =
    subst (λ (z : Round). placed a (placed z xs) ≡ placed z (placed a xs)) (ahead_both a b e f) refl

-- two rounds, of which the first is ahead
pub placed_ahead : (a b : Round) (xs : List Round) → ahead a b ≡ true → placed a (placed b xs) ≡ placed b (placed a xs)
placed_ahead a b [] e =
    ⊎_elim (λ (f : ahead b a ≡ true). same_two a b [] e f) (λ (f : ahead b a ≡ false). simp (e, f)) (cases_Bool (ahead b a))
placed_ahead a b (x ∷ xs) e =
    ⊎_elim
    (λ (f : ahead b a ≡ true). same_two a b (x ∷ xs) e f)
    (λ (f : ahead b a ≡ false).
    ⊎_elim
    (λ (g : ahead b x ≡ true). simp (e, f, g, ahead_trans a b x e g))
    (λ (g : ahead b x ≡ false).
    ⊎_elim
    (λ (h : ahead a x ≡ true). simp (f, g, h))
    (λ (h : ahead a x ≡ false). simp (g, h) (ap (λ (z : List Round). x ∷ z) (placed_ahead a b xs e)))
    (cases_Bool (ahead a x)))
    (cases_Bool (ahead b x)))
    (cases_Bool (ahead b a))

-- what lies past the first n rounds does not reach them
pub placed_take : (n : ℕ) (r : Round) (xs : List Round) → take n (placed r (take n xs)) ≡ take n (placed r xs)
placed_take zero r xs = refl
placed_take (suc n) r [] = refl
placed_take (suc n) r (x ∷ xs) =
    ⊎_elim
    (λ (f : ahead r x ≡ true). simp f (ap (λ (z : List Round). r ∷ z) (take-take n (suc n) (x ∷ xs) (omega arith))))
    (λ (f : ahead r x ≡ false). simp f (ap (λ (z : List Round). x ∷ z) (placed_take n r xs)))
    (cases_Bool (ahead r x))
