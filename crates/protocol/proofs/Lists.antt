-- Lists of numbers: joined lists, lists in ascending order, and what stands before what.
use Rattle.std.proofs.Common.{◌≡◌, ℕ, zero, suc, ◌<◌, Bool, true, false, cond, ◌⊎◌, List, [], ◌∷◌, ◌++◌, sym, refl}
use Rattle.std.proofs.Common.{subst, inl, inr, arith}
use Rattle.std.proofs.lemmas.Bool.{cases_eq, false≢true}
use Rattle.protocol.specs.Sets.{Set, ◌∈◌}
use Rattle.protocol.specs.Lists.{Mem, Once, Before, ascending}

-- ---- before

-- what stands before or after something is on the list
pub before_mem : (l : List ℕ) (x y : ℕ) → Before l x y → (Mem x l) × (Mem y l)
before_mem [] x y b = elim b [ ]
before_mem (v ∷ l) x y b = grind (arith, before_mem l x y)

-- nothing stands before itself on a list without repeats
pub before_apart : (l : List ℕ) (x y : ℕ) → Once l → Before l x y → x ≡ y → ⊥
before_apart [] x y o b e = b
before_apart (v ∷ l) x y o b e = grind (arith, o, b, before_apart l x y o.1)

-- of two different numbers on a list, one stands before the other
pub before_one : (l : List ℕ) (x y : ℕ) → (x ≡ y → ⊥) → Mem x l → Mem y l → Before l x y ⊎ Before l y x
before_one [] x y n a b = elim a [ ]
before_one (v ∷ l) x y n a b = grind (arith, n, a, b, before_one l x y n)

-- ---- joined lists

-- what is on the first list is on the joined one
pub mem_left : (a : ℕ) (l r : List ℕ) → Mem a l → Mem a (l ++ r)
mem_left a [] r h = elim h [ ]
mem_left a (x ∷ l) r h = grind (arith, mem_left a l r)

-- and so is what is on the second
pub mem_right : (a : ℕ) (l r : List ℕ) → Mem a r → Mem a (l ++ r)
mem_right a [] r h = h
mem_right a (x ∷ l) r h = inr (mem_right a l r h)

-- and nothing else
pub mem_cases : (a : ℕ) (l r : List ℕ) → Mem a (l ++ r) → Mem a l ⊎ Mem a r
mem_cases a [] r h = inr h
mem_cases a (x ∷ l) r h = grind (arith, mem_cases a l r)

-- two lists without repeats that share nothing, joined, have no repeats
pub once_join : (l r : List ℕ) → Once l → Once r → ((a : ℕ) → Mem a l → Mem a r → ⊥) → Once (l ++ r)
once_join [] r p q d = q
once_join (x ∷ l) r p q d = (
  (λ h. grind (arith, mem_cases x l r h, p.0, d x (inl refl))),
  once_join l r p.1 q (λ a m n. d a (inr m) n),
)

-- a pair in order on a joined list: in the first part, across, or in the second part
pub before_cases : (l r : List ℕ) (a b : ℕ) → Before (l ++ r) a b → Before l a b ⊎ ((Mem a l × Mem b r) ⊎ Before r a b)
before_cases [] r a b h = inr (inr h)
before_cases (x ∷ l) r a b h = grind (arith, mem_cases b l r, before_cases l r a b)

-- ---- ascending lists

-- what is on a list of at most one number
mem_one : (n : ℕ) (b : Bool) (a : ℕ) → Mem a (cond b (n ∷ []) []) → (n ≡ a) × (b ≡ true)
mem_one n true a h = grind arith
mem_one n false a h = absurd h

-- that number is on it
one_mem : (n : ℕ) (b : Bool) → b ≡ true → Mem n (cond b (n ∷ []) [])
one_mem n true h = inl refl
one_mem n false h = absurd (false≢true h)

-- it has no repeats
once_one : (n : ℕ) (b : Bool) → Once (cond b (n ∷ []) [])
once_one n true = ((λ h. h), tt)
once_one n false = tt

-- and no pair
before_none : (n : ℕ) (b : Bool) (x y : ℕ) → Before (cond b (n ∷ []) []) x y → ⊥
before_none n true x y (inl p) = p.1
before_none n true x y (inr p) = p
before_none n false x y p = p

-- what is on the ascending list is below the bound and in the set
pub ascending_mem : (n : ℕ) (f : Set) (a : ℕ) → Mem a (ascending n f) → (a < n) × (a ∈ f)
unfolding ascending
ascending_mem zero f a h = absurd h
ascending_mem (suc n) f a h = elim (mem_cases a (ascending n f) (cond (f n) (n ∷ []) []) h) [
  | inl m ↦ (let w = ascending_mem n f a m in (omega (arith, w.0), w.1))
  | inr m ↦ (let w = mem_one n (f n) a m in (omega (arith, w.0), subst (λ (y : ℕ). y ∈ f) w.0 w.1))
]

-- and the other way round
pub mem_ascending : (n : ℕ) (f : Set) (a : ℕ) → a < n → a ∈ f → Mem a (ascending n f)
unfolding ascending
mem_ascending zero f a l h = absurd (omega arith)
mem_ascending (suc n) f a l h = elim (cases_eq n a) [
  | inl e ↦ mem_right a (ascending n f) (cond (f n) (n ∷ []) [])
      (subst (λ (y : ℕ). Mem y (cond (f n) (n ∷ []) [])) e (one_mem n (f n) (subst (λ (y : ℕ). y ∈ f) (sym e) h)))
  | inr d ↦ mem_left a (ascending n f) (cond (f n) (n ∷ []) []) (mem_ascending n f a (omega arith) h)
]

-- it has no repeats
pub ascending_once : (n : ℕ) (f : Set) → Once (ascending n f)
unfolding ascending
ascending_once zero f = tt
ascending_once (suc n) f =
    once_join (ascending n f) (cond (f n) (n ∷ []) []) (ascending_once n f) (once_one n (f n))
    (λ a p q. omega (arith, (ascending_mem n f a p).0, (mem_one n (f n) a q).0))

-- on it the lower number stands first
pub ascending_before : (n : ℕ) (f : Set) (a b : ℕ) → Before (ascending n f) a b → a < b
unfolding ascending
ascending_before zero f a b h = absurd h
ascending_before (suc n) f a b h = elim (before_cases (ascending n f) (cond (f n) (n ∷ []) []) a b h) [
  | inl p ↦ ascending_before n f a b p
  | inr (inl p) ↦ omega (arith, (ascending_mem n f a p.0).0, (mem_one n (f n) b p.1).0)
  | inr (inr p) ↦ absurd (before_none n (f n) a b p)
]
