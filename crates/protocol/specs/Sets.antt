-- Sets of nodes and sets of messages, as tests on numbers, and how many numbers below a bound pass a test.
use Rattle.std.specs.Prelude.{◌≡◌, ℕ, zero, suc, Bool, true, false, cond, not, ◌&&◌, ◌||◌, ◌==◌}

infix 50 ◌∈◌
infix 50 ◌∉◌
infixl 60 ◌∖◌
infixl 60 ◌∪◌
infixl 60 ◌∩◌
-- a set of numbers
abbrev pub Set : Type 0
Set = ℕ → Bool

-- m is in S
abbrev pub ◌∈◌ : ℕ → Set → Type 0
m ∈ S = S m ≡ true

-- m is not in S
abbrev pub ◌∉◌ : ℕ → Set → Type 0
m ∉ S = S m ≡ false

-- the set with nothing in it
abbrev pub none : Set
none m = false

-- the set with just a in it
abbrev pub only : ℕ → Set
only a m = m == a

-- what is in f and not in g
abbrev pub ◌∖◌ : Set → Set → Set
◌∖◌ f g = λ m. f m && not (g m)

-- what is in f or in g
abbrev pub ◌∪◌ : Set → Set → Set
◌∪◌ f g = λ m. f m || g m

-- what is in f and in g
abbrev pub ◌∩◌ : Set → Set → Set
◌∩◌ f g = λ m. f m && g m

-- how many numbers below n are in f
unfoldable pub count : ℕ → Set → ℕ
count zero f = zero
count (suc n) f = cond (f n) (suc (count n f)) (count n f)
