-- One reading after another.
use Rattle.std.specs.Prelude.{Ok, Err, Result}

-- goes on with what was read, or passes its fault on through one more layer
abbrev pub through : {A B E F : Type 0} → (E → F) → Result A E → (A → Result B F) → Result B F
through layer (Ok x) next = next x
through layer (Err e) next = Err (layer e)

-- goes on with what was read, or passes its fault on as it is
abbrev pub and_then : {A B E : Type 0} → Result A E → (A → Result B E) → Result B E
and_then r next = through (λ e. e) r next
