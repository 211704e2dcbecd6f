-- Sets as a loop makes them, lists of members, and how long a sheet stays.
use Rattle.std.proofs.Common.{◌≡◌, ℕ, zero, suc, ◌+◌, ◌*◌, ◌/◌, ◌^◌, ◌<◌, ◌≤◌, Bool, true, false, cond, not, eqb, leb, List, []}
use Rattle.std.proofs.Common.{◌∷◌, ◌++◌, length, set, sym, refl, ap, ◌∙◌, ⊎_elim, add-zero, add_comm, one-mul, pow-suc, add-one}
use Rattle.std.proofs.Common.{arith}
use native.Mathlib.Nat.{div-eq_of_lt}
use lib.Bits.{bit_or, or_shifted_r}
use Rattle.rows.specs.Masks.{has, added, those, members, put}
use Rattle.std.proofs.lemmas.Nat.{pow_pos, le-div}
use Rattle.std.proofs.lemmas.List.{length-set}
use Rattle.std.proofs.lemmas.Bool.{cases_lt, ne_eqb, eq-eqb, le-leb, lt-leb, cond-true, cond-false, cond_both}

-- a set has a member from m on exactly if it is at least 2 ^ m
pub beyond_is : (s m : ℕ) → not (eqb (s / 2 ^ m) 0) ≡ leb (2 ^ m) s
beyond_is s m =
    ⊎_elim (λ h. ap not (eq-eqb (s / 2 ^ m) 0 (div-eq_of_lt h)) ∙ sym (lt-leb (2 ^ m) s h))
    (λ h.
    let one : 1 ≤ s / 2 ^ m = le-div 1 s (2 ^ m) (pow_pos m) (omega arith) in
    ap not (ne_eqb (s / 2 ^ m) 0 (λ e. omega arith)) ∙ sym (le-leb (2 ^ m) s h))
    (cases_lt s (2 ^ m))

-- ---- the set of a test

-- a set of numbers below k is below 2 ^ k
pub those_lt : (p : ℕ → Bool) (k : ℕ) → those p k < 2 ^ k
unfolding those
those_lt p zero = omega arith
those_lt p (suc k) =
    let h : those p k < 2 ^ k = those_lt p k in
    let e : 2 ^ suc k ≡ 2 ^ k * 2 = pow-suc 2 k in
    let P : ℕ → Type 0 = λ x. those p k + x < 2 ^ suc k in
    cond_both (p k) (2 ^ k) 0 P (λ _. omega arith) (λ _. omega arith)

-- adding a number above all members
added_is : (x k : ℕ) → x < 2 ^ k → added x k ≡ x + 2 ^ k
added_is x k h = ap (λ y. bit_or x y) (sym (one-mul (2 ^ k))) ∙ or_shifted_r 1 k x h ∙ ap (λ y. y + x) (one-mul (2 ^ k))
    ∙ add_comm (2 ^ k) x

-- one number more
those_more : (p : ℕ → Bool) (k : ℕ) → those p (k + 1) ≡ cond (p k) (added (those p k) k) (those p k)
unfolding those
those_more p k =
    let P : Bool → Type 0 = λ b. those p k + cond b (2 ^ k) 0 ≡ cond b (added (those p k) k) (those p k) in
    let q : P (p k) = elim (p k) as P [ true ↦ sym (added_is (those p k) k (those_lt p k)) | false ↦ add-zero (those p k) ] in
    rw add-one q

-- below 0 there are none
pub those_none : (p : ℕ → Bool) → those p 0 ≡ 0
unfolding those
those_none p = refl

-- one that passes is added
pub those_in : (p : ℕ → Bool) (k : ℕ) → p k ≡ true → those p (k + 1) ≡ added (those p k) k
those_in p k t = those_more p k ∙ cond-true (p k) _ _ t

-- one that fails is not
pub those_out : (p : ℕ → Bool) (k : ℕ) → p k ≡ false → those p (k + 1) ≡ those p k
those_out p k t = those_more p k ∙ cond-false (p k) _ _ t

-- two tests that tell the same have one set
pub those_same : (p q : ℕ → Bool) (k : ℕ) → ((m : ℕ) → p m ≡ q m) → those p k ≡ those q k
unfolding those
those_same p q zero e = refl
those_same p q (suc k) e =
    let before = those_same p q k e in
    let last = e k in cc

-- ---- the members of a set

-- one number more
pub members_more : (x k : ℕ) → members x (k + 1) ≡ members x k ++ cond (has x k) (k ∷ []) []
unfolding members
members_more x k = rw add-one refl

-- below 0 there are none
pub members_none : (x : ℕ) → members x 0 ≡ []
unfolding members
members_none x = refl

-- writing keeps the length
pub put_length : (xs : List ℕ) (place : ℕ) (ys : List ℕ) → length (put xs place ys) ≡ length xs
put_length xs place [] = refl
put_length xs place (y ∷ ys) = put_length (set xs place y) (place + 1) ys ∙ length-set xs place y
