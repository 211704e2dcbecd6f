-- One player's rounds, in the order in which they are kept.
use Rattle.std.specs.Prelude.{Bool, true, cond, ◌&&◌, ◌||◌, List, [], ◌∷◌, length, take, ℤ, pos, negsuc, ◌+ℤ◌, ◌==◌, int_le}
use Rattle.std.specs.Prelude.{nat_le, nat_lt}
use Rattle.std.specs.Int.{int_max, int_min}
use Rattle.record.specs.declared.rounds.card.Round.{Round}

-- a later day comes first, and within a day a lower amount; equal rounds may stand either way
abbrev pub ahead : Round → Round → Bool
ahead x y = nat_lt y.day x.day || (x.day == y.day && int_le x.amount y.amount)

-- one round more: it goes before the first that it is ahead of, or else to the end
abbrev pub placed : Round → List Round → List Round
placed r [] = r ∷ []
placed r (x ∷ xs) = cond (ahead r x) (r ∷ x ∷ xs) (x ∷ placed r xs)

-- a player keeps twenty rounds: the twenty-first pushes out the last
abbrev pub posted : Round → List Round → List Round
posted r xs = take 20 (placed r xs)

-- an amount beyond -9,999 or 9,999 becomes that end
abbrev pub clamped : ℤ → ℤ
clamped a = int_max (negsuc 9998) (int_min (pos 9999) a)

-- an adjustment is added to each kept round
abbrev pub adjusted : ℤ → List Round → List Round
adjusted d [] = []
adjusted d (x ∷ xs) = record { day = x.day; amount = clamped (x.amount +ℤ d) } ∷ adjusted d xs

-- whether a is one of low to high
abbrev pub between : ℤ → ℤ → ℤ → Bool
between low high a = int_le low a && int_le a high

-- what a kept round may count
abbrev pub in_range : Round → Bool
in_range x = between (negsuc 9998) (pos 9999) x.amount

-- each round may count what it does
abbrev pub all_in_range : List Round → Bool
all_in_range [] = true
all_in_range (x ∷ xs) = in_range x && all_in_range xs

-- the round is ahead of the first of the others, if there is one
abbrev pub leads : Round → List Round → Bool
leads x [] = true
leads x (y ∷ ys) = ahead x y

-- each round is ahead of the next
abbrev pub in_order : List Round → Bool
in_order [] = true
in_order (x ∷ xs) = leads x xs && in_order xs

-- the rounds that a player can have: at most twenty, in order and in range
abbrev pub is_card : List Round → Bool
is_card xs = nat_le (length xs) 20 && (in_order xs && all_in_range xs)

-- the cards of several players
abbrev pub are_cards : List (List Round) → Bool
are_cards [] = true
are_cards (t ∷ ts) = is_card t && are_cards ts
