-- Sets of small numbers as masks: i is in the set exactly if binary digit i of the mask is 1.
use Rattle.std.specs.Prelude.{ℕ, zero, suc, ◌+◌, ◌-◌, ◌/◌, ◌%◌, ◌^◌, Bool, false, cond, ◌||◌, List, [], ◌∷◌, ◌++◌, ◌==◌, bit_and}
use Rattle.std.specs.Prelude.{bit_or, slice_set}

-- whether i is in the set
abbrev pub has : ℕ → ℕ → Bool
has x i = x / 2 ^ i % 2 == 1

-- the set with i added
abbrev pub added : ℕ → ℕ → ℕ
added x i = bit_or x (2 ^ i)

-- what a has and b has not; sets of messages have 64 digits
abbrev pub minus : ℕ → ℕ → ℕ
minus a b = bit_and a (2 ^ 64 - 1 - b)

-- whether b has all that a has
abbrev pub within : ℕ → ℕ → Bool
within a b = minus a b == 0

-- the set of the numbers below k that pass the test p
unfoldable pub those : (ℕ → Bool) → ℕ → ℕ
those p zero = 0
those p (suc k) = those p k + cond (p k) (2 ^ k) 0

-- whether a number below k passes the test p
unfoldable pub any : (ℕ → Bool) → ℕ → Bool
any p zero = false
any p (suc k) = p k || any p k

-- the members below k, lowest first
unfoldable pub members : ℕ → ℕ → List ℕ
members x zero = []
members x (suc k) = members x k ++ cond (has x k) (k ∷ []) []

-- the list xs with ys written over it from a place on
abbrev pub put : List ℕ → ℕ → List ℕ → List ℕ
put xs place [] = xs
put xs place (y ∷ ys) = put (slice_set xs place y) (place + 1) ys
