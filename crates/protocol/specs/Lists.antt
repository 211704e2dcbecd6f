-- Lists of messages: what is on a list, what stands before what, and what a list comes to when it is played.
use Rattle.std.specs.Prelude.{◌≡◌, ℕ, zero, suc, cond, ◌⊎◌, List, [], ◌∷◌, ◌++◌}
use Rattle.protocol.specs.Sets.{Set}

-- a is on the list
abbrev pub Mem : ℕ → List ℕ → Type 0
Mem a [] = ⊥
Mem a (x ∷ l) = (x ≡ a) ⊎ Mem a l

-- nothing is on the list twice
abbrev pub Once : List ℕ → Type 0
Once [] = Unit {0}
Once (x ∷ l) = (Mem x l → ⊥) × Once l

-- a stands on the list, and b somewhere after it
abbrev pub Before : List ℕ → ℕ → ℕ → Type 0
Before [] a b = ⊥
Before (x ∷ l) a b = ((x ≡ a) × Mem b l) ⊎ Before l a b

-- the state q after the messages of the list, one by one
abbrev pub fold : {S : Type 0} → (S → ℕ → S) → S → List ℕ → S
fold after q [] = q
fold after q (x ∷ l) = fold after (after q x) l

-- the numbers below n that are in f, the lowest first
unfoldable pub ascending : ℕ → Set → List ℕ
ascending zero f = []
ascending (suc n) f = ascending n f ++ cond (f n) (n ∷ []) []
