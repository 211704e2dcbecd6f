-- Lists of bytes.
use Rattle.std.proofs.Common.{ℕ, ◌<◌, List}
use Rattle.std.specs.List.{AllByRecursion as All}
use Rattle.std.proofs.ByRecursion.{All-from_get_or}
use Rattle.schedule.specs.Laws.{Bytes}

-- a list of bytes, element by element
abbrev pub AllBytes : List ℕ → Type 0
AllBytes = All (λ b. b < 256)

-- the same by places
pub all_bytes : (xs : List ℕ) → Bytes xs → AllBytes xs
all_bytes xs f = All-from_get_or (λ b. b < 256) xs 0 (λ i h. f i)
