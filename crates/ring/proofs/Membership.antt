-- A mask as a set: which numbers it has, how many, and what the operations on masks make of its members.
use Rattle.std.proofs.Common.{◌≡◌, ℕ, zero, suc, ◌+◌, ◌-◌, ◌/◌, ◌%◌, ◌^◌, ◌<◌, ◌≤◌, Bool, true, false, cond, not, ◌&&◌, ◌||◌}
use Rattle.std.proofs.Common.{eqb, min, max, List, [], ◌∷◌, ◌++◌, sym, refl, ap, ◌∙◌, ap₂, inl, inr, pow-suc, arith, w64}
use lib.Bits.{bit_and, bit_or, and_le_l}
use lib.Count.{ones, ones_step, ones-ones}
use mathlib.Core.Path.{fun_ext}
use Rattle.std.specs.Int.{bit_at}
use Rattle.std.proofs.lemmas.Nat.{mod_below}
use Rattle.std.proofs.lemmas.Nat.Bits.{bit_at_lowest, bit_at-suc, bit_at-zero, bit_at_and, bit_at_or, bit_at_not, bit_at_above}
use Rattle.std.proofs.lemmas.Nat.Bits.{bit_at-pow_same, bit_at-pow_other, bit_at-lt, same_from_bits, same_from_bits_below}
use Rattle.std.proofs.lemmas.Bool.{cases_Bool, cases_lt, cases_eq, both_ways, eqb-true, eq-eqb, ne_eqb, and_from}
use Rattle.std.proofs.lemmas.Bool.{or_right, not_from_false}
use Rattle.std.proofs.lemmas.Bool.Decides.{nat_tests}
use Rattle.protocol.specs.Lists.{ascending}
use Rattle.protocol.specs.Sets.{Set, ◌∈◌, count, only, ◌∖◌, ◌∪◌}
use Rattle.rows.specs.Masks.{has, minus, within, those, members}
use Rattle.rows.proofs.Masks.{those_lt, those_in, those_out}
use Rattle.rows.proofs.Receiving.{or_last}

-- ---- digit by digit

-- the lowest digit tells whether 0 is a member
has_zero : (x : ℕ) → has x 0 ≡ eqb (x % 2) 1
has_zero x = ap (λ d. eqb d 1) (bit_at_lowest x)

-- the others are those of the half
has_suc : (x i : ℕ) → has x (suc i) ≡ has (x / 2) i
has_suc x i = ap (λ d. eqb d 1) (bit_at-suc x i)

-- the higher of two digits
or_digits : (a b : ℕ) → a < 2 → b < 2 → eqb (max a b) 1 ≡ (eqb a 1 || eqb b 1)
or_digits a b h l = grind (arith, nat_tests)

-- the lower of two digits
and_digits : (a b : ℕ) → a < 2 → b < 2 → eqb (min a b) 1 ≡ (eqb a 1 && eqb b 1)
and_digits a b h l = grind (arith, nat_tests)

-- the other digit
not_digit : (a : ℕ) → a < 2 → eqb (1 - a) 1 ≡ not (eqb a 1)
not_digit a h = grind (arith, nat_tests)

-- digits that pass the same test are equal
same_digit : (a b : ℕ) → a < 2 → b < 2 → eqb a 1 ≡ eqb b 1 → a ≡ b
same_digit a b h l e = grind (arith, nat_tests)

-- an or of masks has what one of them has
pub has_or : (a b i : ℕ) → has (bit_or a b) i ≡ (has a i || has b i)
has_or a b i =
    ap (λ d. eqb d 1) (bit_at_or a b i) ∙ or_digits (bit_at a i) (bit_at b i) (bit_at-lt a i) (bit_at-lt b i)

-- an and of masks has what both have
has_and : (a b i : ℕ) → has (bit_and a b) i ≡ (has a i && has b i)
has_and a b i =
    ap (λ d. eqb d 1) (bit_at_and a b i) ∙ and_digits (bit_at a i) (bit_at b i) (bit_at-lt a i) (bit_at-lt b i)

-- the mask 0 has no member
pub has_none : (i : ℕ) → has 0 i ≡ false
has_none i = ap (λ d. eqb d 1) (bit_at-zero i)

-- a number below 2 ^ k has no digit from k on
pub has_high : (k a m : ℕ) → a < 2 ^ k → k ≤ m → has a m ≡ false
has_high k a m h l = ap (λ d. eqb d 1) (bit_at_above a k m h l)

-- a power of 2 has one member
pub has_one : (m i : ℕ) → has (2 ^ m) i ≡ eqb i m
has_one m i = elim (cases_eq i m) [
  | inl e ↦ ap (has (2 ^ m)) e ∙ ap (λ d. eqb d 1) (bit_at-pow_same m) ∙ sym (eq-eqb i m e)
  | inr d ↦ ap (λ d. eqb d 1) (bit_at-pow_other m i d) ∙ sym (ne_eqb i m d)
]

-- the complement in 64 digits has what a mask has not
has_not : (b i : ℕ) → b < 2 ^ 64 → i < 64 → has (2 ^ 64 - 1 - b) i ≡ not (has b i)
has_not b i h l = ap (λ d. eqb d 1) (bit_at_not w64 b i h l) ∙ not_digit (bit_at b i) (bit_at-lt b i)

-- sets with the same members are equal
pub same_sets : (k a b : ℕ) → a < 2 ^ k → b < 2 ^ k → ((i : ℕ) → i < k → has a i ≡ has b i) → a ≡ b
same_sets k a b h l same =
    same_from_bits_below k a b h l (λ i m. same_digit (bit_at a i) (bit_at b i) (bit_at-lt a i) (bit_at-lt b i) (same i m))

-- ---- as sets

-- one test passes and neither of two others does
pub neither : (a b c : Bool) → (a && not (b || c)) ≡ ((a && not b) && not c)
neither a b c = grind (arith, nat_tests)

-- an or is a union
pub set_or : (a b : ℕ) → has (bit_or a b) ≡ (has a ∪ has b)
set_or a b = fun_ext (λ m. has_or a b m)

-- a power of 2 is a set of one
pub set_one : (m : ℕ) → has (2 ^ m) ≡ only m
set_one m = fun_ext (λ i. has_one m i)

-- the mask 0 is the empty set
pub set_none : ◌≡◌ {A = Set} (has 0) (λ m. false)
set_none = fun_ext has_none

-- what is left of a mask without another has what only the first has
pub has_minus : (a b i : ℕ) → a < 2 ^ 64 → b < 2 ^ 64 → has (minus a b) i ≡ (has a i && not (has b i))
has_minus a b i h l = has_and a (2 ^ 64 - 1 - b) i ∙ elim (cases_lt i 64) [
  | inl p ↦ ap (λ (v : Bool). has a i && v) (has_not b i l p)
  | inr p ↦ ap (λ (v : Bool). v && has (2 ^ 64 - 1 - b) i) (has_high 64 a i h p)
      ∙ sym (ap (λ (v : Bool). v && not (has b i)) (has_high 64 a i h p))
]

-- it is the difference
pub set_minus : (a b : ℕ) → a < 2 ^ 64 → b < 2 ^ 64 → has (minus a b) ≡ (has a ∖ has b)
set_minus a b h l = fun_ext (λ i. has_minus a b i h l)

-- what is left of a small mask is small
pub minus_small : (a b : ℕ) → a < 2 ^ 64 → minus a b < 2 ^ 64
minus_small a b h = omega (arith, h, and_le_l a (2 ^ 64 - 1 - b))

-- a set within another: the other has all its members
pub within_has : (a b : ℕ) → a < 2 ^ 64 → b < 2 ^ 64 → within a b ≡ true → (m : ℕ) → m ∈ has a → m ∈ has b
within_has a b h k t m i = elim (cases_Bool (has b m)) [
  | inl e ↦ e
  | inr f ↦ absurd (both_ways (has 0 m) (has_none m)
      (ap (λ (x : ℕ). has x m) (sym (eqb-true (minus a b) 0 t)) ∙ has_minus a b m h k ∙ and_from _ _ i (not_from_false _ f)))
]

-- ---- small masks

-- a mask without members from k on is below 2 ^ k
small : (k a : ℕ) → ((m : ℕ) → k ≤ m → has a m ≡ false) → a < 2 ^ k
small zero a f =
    let e : a ≡ 0 = same_from_bits a 0 (λ m. same_digit (bit_at a m) (bit_at 0 m) (bit_at-lt a m) (bit_at-lt 0 m)
    (f m (omega arith) ∙ sym (has_none m))) in
    omega (arith, e)
small (suc k) a f =
    let h : a / 2 < 2 ^ k = small k (a / 2) (λ m l. sym (has_suc a m) ∙ f (suc m) (omega arith)) in
    omega (arith, h, pow-suc 2 k)

-- a mask whose members are all below k
pub known_small : (k a : ℕ) → ((m : ℕ) → m ∈ has a → m < k) → a < 2 ^ k
known_small k a f = small k a (λ m l. elim (cases_Bool (has a m)) [ inl t ↦ absurd (omega (arith, l, f m t)) | inr e ↦ e ])

-- ---- counting

-- the lowest first
count_low : (n : ℕ) (f : Set) → count (suc n) f ≡ cond (f 0) 1 0 + count n (λ i. f (suc i))
unfolding count
count_low zero f = grind (arith, nat_tests)
count_low (suc n) f = let rest = count_low n f in grind (arith, nat_tests)

-- a digit counts as itself
digit_counts : (a : ℕ) → a < 2 → cond (eqb a 1) 1 0 ≡ a
digit_counts a h = grind (arith, nat_tests)

-- the digits that are set are as many as the members
pub ones_count : (k a : ℕ) → a < 2 ^ k → ones a ≡ count k (has a)
unfolding count
ones_count zero a h = let e : a ≡ 0 = omega arith in ap ones e ∙ ones-ones 0
ones_count (suc k) a h =
    ones_step a
    ∙ ap₂ ◌+◌ (sym (digit_counts (a % 2) (mod_below a 2 (omega arith))) ∙ ap (λ (b : Bool). cond b 1 0) (sym (has_zero a)))
    (ones_count k (a / 2) (omega (arith, h, pow-suc 2 k)) ∙ ap (λ (f : Set). count k f) (fun_ext (λ i. sym (has_suc a i))))
    ∙ sym (count_low k (has a))

-- ---- members and tests

-- the members of a mask are those of its set in order
pub members_ascending : (x k : ℕ) → members x k ≡ ascending k (has x)
unfolding members ascending
members_ascending x zero = refl
members_ascending x (suc k) = ap (λ (l : List ℕ). l ++ cond (has x k) (k ∷ []) []) (members_ascending x k)

-- what passes a test below k
those_has : (p : ℕ → Bool) (k m : ℕ) → m < k → has (those p k) m ≡ p m
those_has p zero m l = absurd (omega arith)
those_has p (suc k) m l =
    let next : k + 1 ≡ suc k = omega arith in
    ap (λ (j : ℕ). has (those p j) m) (sym next) ∙ elim (cases_Bool (p k)) [
      | inl t ↦ ap (λ (x : ℕ). has x m) (those_in p k t) ∙ has_or (those p k) (2 ^ k) m ∙ elim (cases_eq m k) [
        | inl e ↦ or_right (has (those p k) m) (has (2 ^ k) m) (has_one k m ∙ eq-eqb m k e) ∙ sym (ap p e ∙ t)
        | inr d ↦ or_last (has (those p k) m) (has (2 ^ k) m) (has_one k m ∙ ne_eqb m k d)
            ∙ those_has p k m (omega (arith, l, d))
      ]
      | inr f ↦ ap (λ (x : ℕ). has x m) (those_out p k f) ∙ elim (cases_eq m k) [
        | inl e ↦ has_high k (those p k) m (those_lt p k) (omega (arith, e)) ∙ sym (ap p e ∙ f)
        | inr d ↦ those_has p k m (omega (arith, l, d))
      ]
    ]

-- as a set, where no number from k on passes
pub those_set : (p : ℕ → Bool) (k : ℕ) → ((m : ℕ) → k ≤ m → p m ≡ false) → has (those p k) ≡ p
those_set p k f = fun_ext (λ m. elim (cases_lt m k) [
  | inl l ↦ those_has p k m l
  | inr l ↦ has_high k (those p k) m (those_lt p k) l ∙ sym (f m l)
])
