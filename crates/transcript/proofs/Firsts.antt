-- What `position` finds, as how many items stand before it.
use Rattle.std.proofs.Common.{◌≡◌, ℕ, ◌<◌, ◌≤◌, Bool, not, List, length, Some, None, arith}
use Rattle.std.proofs.lemmas.Bool.Decides.{nat_tests}
use Rattle.std.proofs.lemmas.List.Sums.{prefix_len-le-length}
use Rattle.std.specs.List.{position, position_or_len}
use Rattle.std.specs.Option.{unwrap_or}

module _ (p : ℕ → Bool) (xs : List ℕ) where
  -- no item passes
  pub none_first : None ≡ position p xs → length xs ≤ position_or_len p xs
  none_first e = grind (arith, nat_tests)

  -- the item at i is the first that passes
  pub first_at : {i : ℕ} → Some i ≡ position p xs → (i ≡ position_or_len p xs) × (i < length xs)
  first_at e = grind (arith, nat_tests)

  -- where none passes, all items stand before it
  pub or_length : unwrap_or (position p xs) (length xs) ≡ position_or_len p xs
  or_length = let within = prefix_len-le-length (λ x. not (p x)) xs in grind (arith, nat_tests)
