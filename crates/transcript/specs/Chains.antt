-- One attempt after another.
use Rattle.std.specs.Prelude.{Some, None, Option}

-- what the next attempt makes of a value, if there is one
abbrev pub and_then : {A B : Type 0} → Option A → (A → Option B) → Option B
and_then None next = None
and_then (Some x) next = next x
