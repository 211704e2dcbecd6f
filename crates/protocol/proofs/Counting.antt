-- How many numbers below n are in a set, and that quorums meet. Each law is a recursion on n.
use Rattle.std.proofs.Common.{◌≡◌, ℕ, zero, suc, ◌+◌, ◌<◌, ◌≤◌, true, ◌&&◌, ltb, refl, ap, ◌∙◌}
use Rattle.std.proofs.Common.{inl, inr, arith}
use Rattle.std.proofs.lemmas.Bool.{false≢true, cases_Bool, cases_lt, cases_eq, and_from}
use Rattle.std.proofs.lemmas.Bool.{eq-eqb, ne_eqb, eqb-true, ltb-true, lt-ltb}
use Rattle.protocol.specs.Sets.{Set, ◌∈◌, ◌∉◌, count, none, only, ◌∩◌, ◌∪◌}

-- every number below n that is in f is in g
abbrev pub Within : ℕ → Set → Set → Type 0
Within n f g = (i : ℕ) → i < n → i ∈ f → i ∈ g

-- ---- bounds

-- at most n
pub count_le : (n : ℕ) (f : Set) → count n f ≤ n
unfolding count
count_le zero f = omega arith
count_le (suc n) f = grind (arith, count_le n f)

-- a larger set has at least as many
pub count_mono : (n : ℕ) (f g : Set) → Within n f g → count n f ≤ count n g
unfolding count
count_mono zero f g h = omega arith
count_mono (suc n) f g h = grind (arith, h n (omega arith), count_mono n f g (λ i l. h i (omega arith)))

-- a union has at most as many as its parts together
pub count_join : (n : ℕ) (f g : Set) → count n (f ∪ g) ≤ count n f + count n g
unfolding count
count_join zero f g = omega arith
count_join (suc n) f g = grind (arith, count_join n f g)

-- ---- members

-- some number below n is in f
abbrev pub SomeIn : ℕ → Set → Type 0
SomeIn n f = (i : ℕ) × (i < n) × (i ∈ f)

-- a set that counts has a member
pub count_one : (n : ℕ) (f : Set) → 0 < count n f → SomeIn n f
unfolding count
count_one zero f h = absurd (omega arith)
count_one (suc n) f h = elim (cases_Bool (f n)) [
  | inl e ↦ (n, omega arith, e)
  | inr e ↦ (let w = count_one n f (grind (arith, e, h)) in (w.0, omega arith, w.2))
]

-- a set without a member counts nothing
pub count_none : (n : ℕ) (f : Set) → ((i : ℕ) → i < n → i ∉ f) → count n f ≡ 0
unfolding count
count_none zero f h = refl
count_none (suc n) f h = grind (arith, h n (omega arith), count_none n f (λ i l. h i (omega arith)))

-- a set of one counts at most one
pub count_only : (n x : ℕ) → count n (only x) ≤ 1
unfolding count
count_only zero x = omega arith
count_only (suc n) x =
    let k : n ≡ x → count n (only x) ≡ 0 = λ e. count_none n (only x) (λ i l. ne_eqb i x (λ w. omega (arith, e, w, l))) in
    grind (arith, k, eqb-true n x, count_only n x)

-- ---- quorums meet

-- two sets within a third have at least as many in common as they have together beyond that
count_meet_in : (n : ℕ) (f g h : Set) → Within n f h → Within n g h → count n f + count n g ≤ count n h + count n (f ∩ g)
unfolding count
count_meet_in zero f g h p q = omega arith
count_meet_in (suc n) f g h p q =
    grind (
      arith,
      p n (omega arith),
      q n (omega arith),
      count_meet_in n f g h (λ i l. p i (omega arith)) (λ i l. q i (omega arith)),
    )

-- two sets have at least as many in common as they have together beyond n
pub count_meet : (n : ℕ) (f g : Set) → count n f + count n g ≤ n + count n (f ∩ g)
count_meet n f g =
    omega (arith, count_le n (λ x. true), count_meet_in n f g (λ x. true) (λ i l e. refl) (λ i l e. refl))

-- some number below n is in both
abbrev pub Common : ℕ → Set → Set → Type 0
Common n f g = (i : ℕ) × (i < n) × (i ∈ f) × (i ∈ g)

-- two sets of nodes within h that have together more than h have a node in common
pub quorums_meet_in : (n : ℕ) (f g h : Set) → Within n f h → Within n g h → count n h < count n f + count n g → Common n f g
quorums_meet_in n f g h p q l =
    let w = count_one n (f ∩ g) (omega (arith, count_meet_in n f g h p q)) in
    (w.0, w.1, grind (arith, w.2), grind (arith, w.2))

-- two sets of nodes that have together more than n have a node in common
pub quorums_meet : (n : ℕ) (f g : Set) → n < count n f + count n g → Common n f g
quorums_meet n f g h =
    quorums_meet_in n f g (λ x. true) (λ i l e. refl) (λ i l e. refl) (omega (arith, count_le n (λ x. true)))

-- ---- larger sets

-- a set with all of another and one member more counts more
pub count_more : (n : ℕ) (f g : Set) → Within n f g → (m : ℕ) → m < n → m ∉ f → m ∈ g → count n f < count n g
unfolding count
count_more zero f g h m l p q = omega arith
count_more (suc n) f g h m l p q = elim (cases_eq n m) [
  | inl e ↦ grind (arith, ap f e ∙ p, ap g e ∙ q, count_mono n f g (λ i v. h i (omega arith)))
  | inr d ↦ grind (arith, h n (omega arith), count_more n f g (λ i w. h i (omega arith)) m (omega arith) p q)
]

-- so a set with a member counts
pub count_some : (n : ℕ) (f : Set) (m : ℕ) → m < n → m ∈ f → 0 < count n f
count_some n f m l q = omega (arith, count_more n none f (λ i w h. absurd (false≢true h)) m l refl q)

-- and with two members more a set counts two more
pub count_two : (n : ℕ) (f g : Set) → Within n f g → (a b : ℕ) → a < n → b < n → (a ≡ b → ⊥) → a ∉ f → b ∉ f → a ∈ g → b ∈ g
    → count n f + 2 ≤ count n g
count_two n f g h a b la lb ne fa fb ga gb =
    let one : count n f < count n (f ∪ only a) =
    count_more n f (f ∪ only a) (λ i l e. grind arith) a la fa (grind (arith, eq-eqb a a refl)) in
    let two : count n (f ∪ only a) < count n g =
    count_more n (f ∪ only a) g into b lb (grind (arith, eqb-true b a, ne)) gb in
    omega arith
  where
    into : Within n (f ∪ only a) g
    into i l e = grind (arith, h i l, ga, eqb-true i a)

-- ---- a member with the lowest stage

-- a member of f at which k is lowest
abbrev pub Lowest : ℕ → Set → (ℕ → ℕ) → Type 0
Lowest n f k = (r : ℕ) × (r < n) × (r ∈ f) × ((x : ℕ) → x < n → x ∈ f → k r ≤ k x)

-- from a member on, it goes to lower and lower ones
descend : (n : ℕ) (f : Set) (k : ℕ → ℕ) (d r : ℕ) → k r < d → r < n → r ∈ f → Lowest n f k
descend n f k zero r b l e = absurd (omega arith)
descend n f k (suc d) r b l e = elim (cases_lt 0 (count n lower)) [
  | inl c ↦ (
      let w = count_one n lower c in
      descend n f k d w.0 (omega (arith, ltb-true (k w.0) (k r) (grind (arith, w.2)))) w.1 (grind (arith, w.2))
      )
  | inr c ↦ (r, l, e, none_lower c)
]
  where
    lower : Set
    lower x = f x && ltb (k x) (k r)

    none_lower : count n lower ≤ 0 → (x : ℕ) → x < n → x ∈ f → k r ≤ k x
    none_lower c x lx ex = elim (cases_lt (k x) (k r)) [
      | inl v ↦ absurd (omega (
        arith,
        c,
        count_some n lower x lx (and_from (f x) (ltb (k x) (k r)) ex (lt-ltb (k x) (k r) v)),
      ))
      | inr v ↦ v
    ]

-- a set that counts has a member at which k is lowest
pub lowest : (n : ℕ) (f : Set) (k : ℕ → ℕ) → 0 < count n f → Lowest n f k
lowest n f k h = let w = count_one n f h in descend n f k (suc (k w.0)) w.0 (omega arith) w.1 w.2
