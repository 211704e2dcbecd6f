-- Two lists with the same numbers that have each conflicting pair in one order fold to the same result: the head of the one
-- list can be pulled to the front of the other past numbers that it does not conflict with.
use Rattle.std.proofs.Common.{◌≡◌, ℕ, Bool, true, false, ◌⊎◌, List, [], ◌∷◌, ◌++◌, sym, refl, ap, ◌∙◌, subst, inl, inr, arith}
use Rattle.std.proofs.lemmas.Bool.{cases_Bool}
use Rattle.protocol.specs.Lists.{Mem, Once, Before, fold}
use Rattle.protocol.proofs.Lists.{before_mem, before_apart}

-- ---- the list without a number that is on it

-- it goes where it stands
without : (a : ℕ) (l : List ℕ) → Mem a l → List ℕ
without a [] h = elim h [ ]
without a (x ∷ l) (inl e) = l
without a (x ∷ l) (inr h) = x ∷ without a l h

-- it has nothing else
mem_without : (a : ℕ) (l : List ℕ) (h : Mem a l) (y : ℕ) → Mem y (without a l h) → Mem y l
unfolding without
mem_without a [] h y m = elim h [ ]
mem_without a (x ∷ l) (inl e) y m = inr m
mem_without a (x ∷ l) (inr h) y m = grind (arith, mem_without a l h y)

-- it has every other number
mem_stays : (a : ℕ) (l : List ℕ) (h : Mem a l) (y : ℕ) → (a ≡ y → ⊥) → Mem y l → Mem y (without a l h)
unfolding without
mem_stays a [] h y n m = elim h [ ]
mem_stays a (x ∷ l) (inl e) y n m = grind (arith, n, m)
mem_stays a (x ∷ l) (inr h) y n m = grind (arith, mem_stays a l h y n)

-- it has no repeats, if the list has none
once_without : (a : ℕ) (l : List ℕ) (h : Mem a l) → Once l → Once (without a l h)
unfolding without
once_without a [] h o = elim h [ ]
once_without a (x ∷ l) (inl e) o = o.1
once_without a (x ∷ l) (inr h) o = ((λ m. o.0 (mem_without a l h x m)), once_without a l h o.1)

-- the number is gone, if it was on the list once
gone : (a : ℕ) (l : List ℕ) (h : Mem a l) → Once l → Mem a (without a l h) → ⊥
unfolding without
gone a [] h o m = h
gone a (x ∷ l) (inl e) o m = o.0 (subst (λ (y : ℕ). Mem y l) (sym e) m)
gone a (x ∷ l) (inr h) o (inl f) = o.0 (subst (λ (y : ℕ). Mem y l) (sym f) h)
gone a (x ∷ l) (inr h) o (inr m) = gone a l h o.1 m

-- the others keep their order
before_without : (a : ℕ) (l : List ℕ) (h : Mem a l) (x y : ℕ) → Before (without a l h) x y → Before l x y
unfolding without
before_without a [] h x y b = elim h [ ]
before_without a (v ∷ l) (inl e) x y b = inr b
before_without a (v ∷ l) (inr h) x y b = grind (arith, mem_without a l h y, before_without a l h x y)

-- what is on a list and is not its head is on its tail
on_tail : (a : ℕ) (t : List ℕ) (x : ℕ) → Mem x (a ∷ t) → (a ≡ x → ⊥) → Mem x t
on_tail a t x m n = grind (arith, n, m)

-- ---- folding

-- a joined list is folded part by part
pub fold_append : {S : Type 0} (after : S → ℕ → S) (q : S) (l k : List ℕ) → fold after q (l ++ k) ≡ fold after (fold after q l) k
fold_append after q [] k = refl
fold_append after q (x ∷ l) k = fold_append after (after q x) l k

module _ {S : Type 0} (after : S → ℕ → S) (Fits : S → Type 0) (keeps : (s : S) (x : ℕ) → Fits s → Fits (after s x))
    (conflict : ℕ → ℕ → Bool) (both_sides : (x y : ℕ) → conflict x y ≡ conflict y x)
    (commute : (s : S) (x y : ℕ) → Fits s → conflict x y ≡ false → after (after s x) y ≡ after (after s y) x) where
  -- a number that conflicts with none before it may go first
  pull : (a : ℕ) (l : List ℕ) (h : Mem a l) → ((x : ℕ) → Before l x a → conflict x a ≡ false)
      → (s : S) → Fits s → fold after s l ≡ fold after (after s a) (without a l h)
  unfolding without
  pull a [] h c s o = elim h [ ]
  pull a (x ∷ l) (inl e) c s o = ap (λ (y : ℕ). fold after (after s y) l) e
  pull a (x ∷ l) (inr h) c s o =
      pull a l h (λ y b. c y (inr b)) (after s x) (keeps s x o)
      ∙ ap (λ (t : S). fold after t (without a l h)) (commute s x a o (c x (inl (refl, h))))

  -- the head of one list conflicts with nothing that stands before it on the other
  free : (a : ℕ) (t l : List ℕ) → Once l → ((x : ℕ) → Mem x l → Mem x (a ∷ t))
      → ((x y : ℕ) → conflict x y ≡ true → Before (a ∷ t) x y → Before l y x → ⊥) → (x : ℕ) → Before l x a → conflict x a ≡ false
  free a t l o back c x b = go (back x (before_mem l x a b).0) (cases_Bool (conflict x a))
    where
      go : Mem x (a ∷ t) → (conflict x a ≡ true) ⊎ (conflict x a ≡ false) → conflict x a ≡ false
      go (inl e) d = absurd (before_apart l x a o b (sym e))
      go (inr m) (inl d) = absurd (c a x (both_sides a x ∙ d) (inl (refl, m)) b)
      go (inr m) (inr d) = d

  -- the lists fold to the same result
  pub same_fold : (l₁ l₂ : List ℕ) → Once l₁ → Once l₂ → ((x : ℕ) → Mem x l₁ → Mem x l₂) → ((x : ℕ) → Mem x l₂ → Mem x l₁)
      → ((x y : ℕ) → conflict x y ≡ true → Before l₁ x y → Before l₂ y x → ⊥) → (s : S) → Fits s
      → fold after s l₁ ≡ fold after s l₂
  same_fold [] [] o₁ o₂ f g c s k = refl
  same_fold [] (y ∷ l₂) o₁ o₂ f g c s k = absurd (g y (inl refl))
  same_fold (a ∷ t) l₂ o₁ o₂ f g c s k =
      let h : Mem a l₂ = f a (inl refl) in
      same_fold t (without a l₂ h) o₁.1 (once_without a l₂ h o₂)
      (λ x m. mem_stays a l₂ h x (λ e. o₁.0 (subst (λ (y : ℕ). Mem y t) (sym e) m)) (f x (inr m)))
      (λ x m. on_tail a t x (g x (mem_without a l₂ h x m))
      (λ e. gone a l₂ h o₂ (subst (λ (y : ℕ). Mem y (without a l₂ h)) (sym e) m)))
      (λ x y d b₁ b₂. c x y d (inr b₁) (before_without a l₂ h y x b₂)) (after s a) (keeps s a k)
      ∙ sym (pull a l₂ h (free a t l₂ o₂ g c) s k)
