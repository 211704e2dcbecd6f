-- Words as numbers.
use Rattle.std.specs.Prelude.{ℕ, ◌+◌, ◌-◌, ◌*◌, ◌≤◌, Bool, cond, ◌&&◌}
use Rattle.std.specs.Prelude.{List, [], ◌∷◌, ℤ, pos, neg_ℤ, Some, None, Option, ◌==◌, nat_le}
use Rattle.transcript.specs.Chains.{and_then}

-- the digits 0 to 9
abbrev pub is_digit : ℕ → Bool
is_digit b = nat_le 48 b && nat_le b 57

-- a number with one more digit; none at another byte, and none above the limit
abbrev pub with_digit : ℕ → ℕ → ℕ → Option ℕ
with_digit limit n b = cond (is_digit b && nat_le (10 * n + (b - 48)) limit) (Some (10 * n + (b - 48))) None

-- a number with these digits behind it
abbrev pub digits_value : ℕ → ℕ → List ℕ → Option ℕ
digits_value limit n [] = Some n
digits_value limit n (b ∷ bs) = and_then (with_digit limit n b) (λ m. digits_value limit m bs)

-- the number that a word writes, up to a limit
abbrev pub natural : ℕ → List ℕ → Option ℕ
natural limit [] = None
natural limit (b ∷ bs) = digits_value limit 0 (b ∷ bs)

-- the opposite of the number that a word writes, from -32,768 on
abbrev pub below_zero : List ℕ → Option ℤ
below_zero word = and_then (natural 32768 word) (λ n. Some (neg_ℤ (pos n)))

-- the number that a word writes, up to 32,767
abbrev pub above_zero : List ℕ → Option ℤ
above_zero word = and_then (natural 32767 word) (λ n. Some (pos n))

-- the amount that a word writes: a number, or `-` and a number
abbrev pub integer : List ℕ → Option ℤ
integer [] = None
integer (b ∷ bs) = cond (b == 45) (below_zero bs) (above_zero (b ∷ bs))

-- a number that is there is no more than the limit
abbrev pub AtMost : ℕ → Option ℕ → Type 0
AtMost limit None = Unit {0}
AtMost limit (Some n) = n ≤ limit
