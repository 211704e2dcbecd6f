-- The number at the front of bytes that are known.
use Rattle.std.proofs.Common.{◌≡◌, ℕ, suc, ◌%◌, ◌<◌, ◌≤◌, Bool, true, false, cond, ◌||◌, ltb, List, [], ◌∷◌, length}
use Rattle.std.proofs.Common.{get_or, is_some, Some}
use Rattle.std.proofs.Common.{None, Option, sym, refl, ap, ◌∙◌, ⊎_elim, arith}
use Rattle.std.proofs.lemmas.Bool.{lt-ltb, le-ltb, cond-true, cond-false, cases_lt}
use Rattle.std.specs.List.{list_any}
use Rattle.schedule.specs.Numbers.{front, below, Longer}

-- a byte without the top bit is a number
pub front_last : (b : ℕ) (bs : List ℕ) → b < 128 → front (b ∷ bs) ≡ Some (b, 1)
front_last b bs h = cond-true (ltb b 128) _ _ (lt-ltb b 128 h)

-- a byte with the top bit stands below the number after it
pub front_more : (b : ℕ) (bs : List ℕ) → 128 ≤ b → front (b ∷ bs) ≡ below (b % 128) (front bs)
front_more b bs h = cond-false (ltb b 128) _ _ (le-ltb b 128 h)

-- a group below a number makes none where there is none
some_below : (g : ℕ) (o : Option (ℕ × ℕ)) → is_some (below g o) ≡ is_some o
some_below g None = refl
some_below g (Some t) = refl

-- whether a number ends here or later
some_last : (last : Bool) (b : ℕ) (o : Option (ℕ × ℕ)) →
    is_some (cond last (Some (b, 1)) (below (b % 128) o)) ≡ (last || is_some o)
some_last true b o = refl
some_last false b o = some_below (b % 128) o

-- a number ends exactly if some byte has no top bit
pub some_front : (bs : List ℕ) → is_some (front bs) ≡ list_any (λ b. ltb b 128) bs
some_front [] = refl
some_front (b ∷ bs) = some_last (ltb b 128) b (front bs) ∙ ap (λ r. ltb b 128 || r) (some_front bs)

-- the number at the front, if any, has more than n groups
abbrev pub More : ℕ → List ℕ → Type 0
More n xs = (t : ℕ × ℕ) → front xs ≡ Some t → n < t.1

-- there is no number in no bytes
pub more_nil : (n : ℕ) → More n []
more_nil n t e = let z : ◌≡◌ {A = ℕ} 0 1 = cc in absurd (let y : ⊥ = omega arith in y)

-- a group below a number makes it longer by one
below_some : (g n : ℕ) (o : Option (ℕ × ℕ)) → ((t : ℕ × ℕ) → o ≡ Some t → n < t.1) →
    (t : ℕ × ℕ) → below g o ≡ Some t → suc n < t.1
below_some g n None h t e = let z : ◌≡◌ {A = ℕ} 0 1 = cc in absurd (let y : ⊥ = omega arith in y)
below_some g n (Some u) h t e =
    let k : n < u.1 = h u refl in
    let z : t.1 ≡ suc u.1 = cc in
    omega arith

-- a byte with the top bit makes the number longer by one
pub more_step : (n b : ℕ) (xs : List ℕ) → 128 ≤ b → More n xs → More (suc n) (b ∷ xs)
more_step n b xs h m t e = below_some (b % 128) n (front xs) m t (sym (front_more b xs h) ∙ e)

-- any number has a group
pub more_none : (xs : List ℕ) → More 0 xs
more_none [] t e = more_nil 0 t e
more_none (b ∷ xs) t e = ⊎_elim
    (λ h. let z : t.1 ≡ 1 = cc (front_last b xs h) in omega arith)
    (λ h. let k : 1 < t.1 = more_step 0 b xs h (more_none xs) t e in omega arith)
    (cases_lt b 128)

-- where none of the first three bytes ends it, a number has more than three groups
pub longer : (xs : List ℕ) → (0 < length xs → 128 ≤ get_or xs 0 0) → (1 < length xs → 128 ≤ get_or xs 1 0) →
    (2 < length xs → 128 ≤ get_or xs 2 0) → Longer xs
longer [] f g h = more_nil 3
longer (a ∷ []) f g h = more_step 2 a [] (f (omega arith)) (more_nil 2)
longer (a ∷ b ∷ []) f g h =
    more_step 2 a (b ∷ []) (f (omega arith)) (more_step 1 b [] (g (omega arith)) (more_nil 1))
longer (a ∷ b ∷ c ∷ xs) f g h =
    more_step 2 a (b ∷ c ∷ xs) (f (omega arith))
    (more_step 1 b (c ∷ xs) (g (omega arith)) (more_step 0 c xs (h (omega arith)) (more_none xs)))
