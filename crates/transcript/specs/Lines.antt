-- A text as its lines.
use Rattle.std.specs.Prelude.{ℕ, Bool, cond, List, [], ◌∷◌, ◌==◌}
use Rattle.transcript.specs.Cuts.{onto}

-- a newline ends a line
abbrev pub ends_line : ℕ → Bool
ends_line b = b == 10

-- the lines of a text; a newline ends a line, so that a last one opens no further line
abbrev pub lines_of : List ℕ → List (List ℕ)
lines_of [] = []
lines_of (b ∷ bs) = cond (ends_line b) ([] ∷ lines_of bs) (onto b (lines_of bs))
