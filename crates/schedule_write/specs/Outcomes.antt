-- What comes of writing an entry.
use Rattle.std.specs.Prelude.{ℕ, cond, List, length, Ok, Err, Result, nat_le}
use Rattle.schedule.specs.declared.draft.Draft.{Draft}
use Rattle.schedule.specs.Drafts.{spelling, within}
use Rattle.schedule_write.specs.declared.numbers.Numbers.{Numbers}
use Rattle.schedule_write.specs.declared.numbers.Numbers.TheVariants.{Two, Seven}
use Rattle.schedule_write.specs.declared.refusal.WriteRefusal.{WriteRefusal}
use Rattle.schedule_write.specs.declared.refusal.WriteRefusal.TheVariants.{NumberAboveLimit, BufferTooShort}

-- the numbers of an entry as a list
abbrev pub list_of : Numbers → List ℕ
list_of (Two ns) = ns
list_of (Seven ns) = ns

-- the length that is written into so many bytes, or why nothing is
abbrev pub outcome : Draft → ℕ → Result ℕ WriteRefusal
outcome d room =
    cond (within d)
    (cond (nat_le (length (spelling d)) room) (Ok (length (spelling d))) (Err BufferTooShort))
    (Err NumberAboveLimit)

-- the number of a refusal
abbrev pub number_of : WriteRefusal → ℕ
number_of NumberAboveLimit = 42
number_of BufferTooShort = 46
