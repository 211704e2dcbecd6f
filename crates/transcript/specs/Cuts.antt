-- A text cut into parts from its front.
use Rattle.std.specs.Prelude.{ℕ, List, [], ◌∷◌}

-- a byte put before the first part
abbrev pub onto : ℕ → List (List ℕ) → List (List ℕ)
onto b [] = (b ∷ []) ∷ []
onto b (l ∷ ls) = (b ∷ l) ∷ ls
