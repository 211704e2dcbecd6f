-- A number of many groups is large, unless it is longer than need be.
use Rattle.std.proofs.Common.{◌≡◌, ℕ, zero, suc, ◌+◌, ◌-◌, ◌*◌, ◌%◌, ◌<◌, ◌≤◌, false, eqb, ltb, List, [], ◌∷◌, get_or, Some, None}
use Rattle.std.proofs.Common.{Option, sym, refl, ap, ◌∙◌, ⊎_elim, arith}
use Rattle.std.proofs.lemmas.Bool.{cases_lt, and_cases, ltb-false, eqb-false}
use Rattle.schedule.specs.Numbers.{front, below, overlong}
use Rattle.schedule.proofs.Fronts.{front_last, front_more, more_none}

-- the last group of a number of several, no longer than need be, is not 0
pub last_set : (bs : List ℕ) (n : ℕ) → overlong bs n ≡ false → 1 < n → get_or bs (n - 1) 0 ≡ 0 → ⊥
last_set bs n o h e = ⊎_elim
    (λ f. omega (arith, ltb-false 1 n f))
    (λ f. eqb-false (get_or bs (n - 1) 0) 0 f e)
    (and_cases (ltb 1 n) (eqb (get_or bs (n - 1) 0) 0) o)

-- what stands above a group
pub below_of : (g : ℕ) (o : Option (ℕ × ℕ)) (t : ℕ × ℕ) → below g o ≡ Some t →
    (u : ℕ × ℕ) × (o ≡ Some u) × (t.0 ≡ g + 128 * u.0) × (t.1 ≡ suc u.1)
below_of g None t e = absurd (let z : ◌≡◌ {A = ℕ} 0 1 = cc in let y : ⊥ = omega arith in y)
below_of g (Some u) t e = (u, refl, (let z : t.0 ≡ g + 128 * u.0 = cc in z), (let z : t.1 ≡ suc u.1 = cc in z))

-- the weight of the group of this index
abbrev weight : ℕ → ℕ
weight zero = 1
weight (suc n) = 128 * weight n

-- a number whose last group is not 0 is no less than the weight of any group that it has
heavy : (n : ℕ) (bs : List ℕ) (t : ℕ × ℕ) → front bs ≡ Some t → n < t.1 → (get_or bs (t.1 - 1) 0 ≡ 0 → ⊥) →
    weight n ≤ t.0
heavy n [] t e h k = absurd (let z : ◌≡◌ {A = ℕ} 0 1 = cc in let y : ⊥ = omega arith in y)
heavy n (b ∷ bs) t e h k = ⊎_elim
    (λ l. let f = front_last b bs l in
    let v : t.0 ≡ b = cc in
    let w : t.1 ≡ 1 = cc in
    last n h (omega arith) v (λ z. k (ap (λ i. get_or (b ∷ bs) (i - 1) 0) w ∙ z)))
    (λ l. let g = below_of (b % 128) (front bs) t (sym (front_more b bs l) ∙ e) in
    let u : ℕ × ℕ = g.0 in
    let some : 0 < u.1 = more_none bs u g.1 in
    let at : get_or (b ∷ bs) (t.1 - 1) 0 ≡ get_or bs (u.1 - 1) 0 =
    ap (λ i. get_or (b ∷ bs) i 0) (let z : t.1 - 1 ≡ suc (u.1 - 1) = omega (arith, g.3) in z) in
    more n h u g.2 g.3 (λ m i. heavy m bs u g.1 i (λ z. k (at ∙ z))) some)
    (cases_lt b 128)
  where
    last : (n : ℕ) → n < t.1 → t.1 ≤ 1 → t.0 ≡ b → (b ≡ 0 → ⊥) → weight n ≤ t.0
    last zero h w v z = ⊎_elim
        (λ (c : b < 1). absurd (z (let y : b ≡ 0 = omega arith in y)))
        (λ (c : 1 ≤ b). let y : 1 ≤ t.0 = omega arith in y)
        (cases_lt b 1)
    last (suc n) h w v z = absurd (let y : ⊥ = omega arith in y)

    more : (n : ℕ) → n < t.1 → (u : ℕ × ℕ) → t.0 ≡ b % 128 + 128 * u.0 → t.1 ≡ suc u.1 →
        ((m : ℕ) → m < u.1 → weight m ≤ u.0) → 0 < u.1 → weight n ≤ t.0
    more zero h u v w f s = let y : 1 ≤ u.0 = f 0 s in omega arith
    more (suc n) h u v w f s = let y : weight n ≤ u.0 = f n (omega arith) in omega arith

-- a number of more than three groups, no longer than need be, is above every limit
pub longer_large : (bs : List ℕ) (t : ℕ × ℕ) → front bs ≡ Some t → 3 < t.1 → overlong bs t.1 ≡ false →
    65536 ≤ t.0
longer_large bs t e h o =
    let z : weight 3 ≤ t.0 = heavy 3 bs t e h (last_set bs t.1 o (omega arith)) in
    omega arith
