-- How a number is read, digit by digit.
use Rattle.std.proofs.Common.{◌≡◌, ℕ, ◌+◌, ◌-◌, ◌*◌, ◌<◌, ◌≤◌, Bool, true, false, cond, ◌&&◌, nat_le}
use Rattle.std.proofs.Common.{List, [], ◌∷◌, Some, None, Option, Bor, Iter, length, refl, sym, ap, subst, ◌∙◌, arith}
use Rattle.std.proofs.lemmas.Fn.{fronts}
use Rattle.std.proofs.lemmas.List.{nil_from_length}
use Rattle.std.specs.Fn.{Called, Mut}
use Rattle.std.specs.Iterator.{Yields}
use Rattle.std.specs.List.{FoldsTo}
use Rattle.std.specs.Option.{MatchOption}
use Rattle.transcript.specs.Chains.{and_then}
use Rattle.transcript.specs.Numbers.{is_digit, with_digit, digits_value, natural, AtMost}

-- a number that digits make is no more than the limit
digits_bound : (limit n : ℕ) (bs : List ℕ) → n ≤ limit → AtMost limit (digits_value limit n bs)
digits_bound limit n [] h = h
digits_bound limit n (b ∷ bs) h =
    at (10 * n + (b - 48)) (is_digit b && nat_le (10 * n + (b - 48)) limit) refl (digits_bound limit (10 * n + (b - 48)) bs)
  where
    at : (m : ℕ) (v : Bool) → (is_digit b && nat_le m limit) ≡ v → (m ≤ limit → AtMost limit (digits_value limit m bs)) →
        AtMost limit (and_then (cond v (Some m) None) (λ i. digits_value limit i bs))
    at m true e more = more (grind (arith, e))
    at m false e more = tt

pub natural_bound : (limit : ℕ) (word : List ℕ) → AtMost limit (natural limit word)
natural_bound limit [] = tt
natural_bound limit (b ∷ bs) = digits_bound limit 0 (b ∷ bs) (omega arith)

-- a word that is not empty writes the number of its digits
pub natural_digits : (limit : ℕ) (word : List ℕ) → 0 < length word → digits_value limit 0 word ≡ natural limit word
natural_digits limit [] h = absurd (omega arith)
natural_digits limit (b ∷ bs) h = refl

-- a `try_fold` over a word, by a closure f that puts one more digit to the number and stays as it is
module _ (E : Type 0) {F : Type 0} (g : Mut F (ℕ × (Bor ℕ × Unit {0})) (Option ℕ)) (f : F) (limit : ℕ)
    (step : (n : ℕ) (x : Bor ℕ) (v : Option ℕ) (h : F) → Called g f (n, (x, tt)) v h →
    (v ≡ with_digit limit n x.now) × (h ≡ f))
  where
    -- the turns that go on
    abbrev Turn : F × ℕ → Bor ℕ → F × ℕ → Type 0
    Turn p x q = (v : Option ℕ) × Called g p.0 (p.1, (x, tt)) v q.0 × (v ≡ Some q.1)

    -- the end: no byte was left, or the closure gave nothing at one
    abbrev End : F → ℕ → Option ℕ → Option (Bor ℕ) → Type 0
    End k m r o = MatchOption o (r ≡ Some m)
        (λ x. (v : Option ℕ) × (h : F) × (e : E) × Called g k (m, (x, tt)) v h × (v ≡ None) × (r ≡ None))

    digits_folded : (xs : List (Bor ℕ)) (o : Option (Bor ℕ)) (s t u : Iter ℕ) (h k : F) (n m : ℕ) (r : Option ℕ) → h ≡ f →
        Yields fronts s xs t → fronts t o u → FoldsTo {P = F × ℕ} Turn (h, n) xs (k, m) → End k m r o →
        r ≡ digits_value limit n s.rest.now
    digits_folded [] None s t u h k n m r stays same last folds end =
        let empty : s.rest.now ≡ [] = ap (λ i. i.rest.now) same ∙ nil_from_length t.rest.now last.0 in
        rw empty (end ∙ ap Some (sym (ap (λ p. p.1) folds)))
    digits_folded [] (Some x) s t u h k n m r stays same last folds end =
        let left : s.rest.now ≡ x.now ∷ u.rest.now = ap (λ i. i.rest.now) same ∙ last in
        let closure : k ≡ f = sym (ap (λ p. p.0) folds) ∙ stays in
        let read = step m x end.0 end.1 (subst (λ q. Called g q (m, (x, tt)) end.0 end.1) closure end.3) in
        let none : with_digit limit n x.now ≡ None =
        ap (λ i. with_digit limit i x.now) (ap (λ p. p.1) folds) ∙ sym read.0 ∙ end.4 in
        rw (left, none) end.5
    digits_folded (x ∷ xs) o s t u h k n m r stays yields last folds end =
        let turn = folds.1 in
        let to = folds.0 in
        let read = step n x turn.0 to.0 (subst (λ q. Called g q (n, (x, tt)) turn.0 to.0) stays turn.1) in
        let digit : with_digit limit n x.now ≡ Some to.1 = sym read.0 ∙ turn.2 in
        rw (yields.1, digit)
        (digits_folded xs o yields.0 t u to.0 k to.1 m r read.1 yields.2 last folds.2 end)

    -- the number that the whole run gives
    pub digits_ran : {s u : Iter ℕ} {n : ℕ} {r : Option ℕ} →
        ((xs : List (Bor ℕ)) × (o : Option (Bor ℕ)) × (k : F) × (m : ℕ)
        × ((t : Iter ℕ) × Yields fronts s xs t × fronts t o u) × FoldsTo {P = F × ℕ} Turn (f, n) xs (k, m) × End k m r o) →
        r ≡ digits_value limit n s.rest.now
    digits_ran ran =
        digits_folded ran.0 ran.1 _ ran.4.0 _ _ ran.2 _ ran.3 _ refl ran.4.1 ran.4.2 ran.5 ran.6
