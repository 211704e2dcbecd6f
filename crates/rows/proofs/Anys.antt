-- What holds of one of the numbers below a bound.
use Rattle.std.proofs.Common.{◌≡◌, ℕ, zero, suc, ◌+◌, ◌<◌, Bool, true, false, ◌||◌, Decides, refl, ap, ◌∙◌, ⊎_elim, add-one}
use Rattle.std.proofs.Common.{arith}
use Rattle.std.proofs.Common.{sym, zero-add, add-zero}
use Rattle.std.specs.List.{list_any, range_with_len}
use Rattle.rows.specs.Masks.{any}
use Rattle.std.proofs.lemmas.Bool.{both_ways, cases_Bool}
use mathlib.Core.Bool.{or-false}
use Rattle.std.proofs.lemmas.Bool.Decides.{Decides-below_or}

-- the test tells whether there is one
pub any_is : (p : ℕ → Bool) (n : ℕ) → Decides (any p n) ((k : ℕ) × (k < n) × (p k ≡ true))
unfolding any
any_is p n = Decides-below_or p (λ k. p k ≡ true) (any p) (λ k. ((λ e. e), (λ e. e))) refl (λ _. refl) n

-- there is one where it is found
pub any_true : (p : ℕ → Bool) (n k : ℕ) → k < n → p k ≡ true → any p n ≡ true
any_true p n k h e = (any_is p n).1 (k, h, e)

-- there is none where each fails
pub any_false : (p : ℕ → Bool) (n : ℕ) → ((k : ℕ) → k < n → p k ≡ false) → any p n ≡ false
any_false p n none =
    ⊎_elim (λ (e : any p n ≡ true). let w = (any_is p n).0 e in absurd (both_ways (p w.0) (none w.0 w.1) w.2))
    (λ e. e) (cases_Bool (any p n))

-- a test may come before others or after them
either_order : (x y z : Bool) → (x || (y || z)) ≡ ((y || x) || z)
either_order true true z = refl
either_order true false z = refl
either_order false true z = refl
either_order false false z = refl

-- n numbers from a on, and those below a
any_beyond : (p : ℕ → Bool) (a n : ℕ) → any p (n + a) ≡ (list_any p (range_with_len a n) || any p a)
unfolding any
any_beyond p a zero = rw zero-add refl
any_beyond p a (suc n) =
    let e : suc n + a ≡ n + suc a = omega arith in
    ap (any p) e ∙ any_beyond p (suc a) n ∙ rw add-one (either_order (list_any p (range_with_len (suc a) n)) (p a) (any p a))

-- the numbers below n, as a chain goes over them
pub any_over : (p : ℕ → Bool) (n : ℕ) → any p n ≡ list_any p (range_with_len 0 n)
unfolding any
any_over p n = ap (any p) (sym (add-zero n)) ∙ any_beyond p 0 n ∙ or-false (list_any p (range_with_len 0 n))
