-- What the laws of Rounds rest on. Each fact is shown by itself, and the implementation hands all of them to the laws.
use Rattle.std.specs.Prelude.{◌≡◌, ℕ, true, List, take}
use Rattle.record.specs.Card.{ahead, placed, in_range, all_in_range, in_order}
use Rattle.record.specs.declared.rounds.card.Round.{Round}

-- how a round finds its place among others
pub record PlacingFacts : Type 0 where
  -- of two rounds either may be placed first
  pub either_first : (a b : Round) (xs : List Round) → ahead a b ≡ true → placed a (placed b xs) ≡ placed b (placed a xs)
  -- what lies past the first n rounds does not reach them
  pub past : (n : ℕ) (r : Round) (xs : List Round) → take n (placed r (take n xs)) ≡ take n (placed r xs)
  -- a placed round keeps the order
  pub ordered : (r : Round) (xs : List Round) → in_order xs ≡ true → in_order (placed r xs) ≡ true
  -- and the range
  pub ranged : (r : Round) (xs : List Round) → in_range r ≡ true → all_in_range xs ≡ true → all_in_range (placed r xs) ≡ true
