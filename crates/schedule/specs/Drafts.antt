-- An entry to be written, and its bytes.
use Rattle.std.specs.Prelude.{ℕ, ◌≤◌, Bool, List, [], ◌∷◌, length, ℤ, pos, negsuc, ◌+ℤ◌, ◌≤ℤ◌, nat_le, unsigned_abs}
use Rattle.std.specs.List.{flat_map}
use Rattle.record.specs.declared.command.Command.{Command}
use Rattle.schedule.specs.declared.draft.Draft.{Draft}
use Rattle.schedule.specs.declared.draft.Draft.TheVariants.{Broadcast, Receive, Step, Crash, Lose}
use Rattle.schedule.specs.Entries.{Act, broadcast, receive, step, crash, lose}
use Rattle.schedule.specs.Numbers.{spell}

-- an amount is written as a number from 0 on
abbrev pub raised : ℤ → ℕ
raised a = unsigned_abs (a +ℤ pos 32768)

-- the four numbers of a command
abbrev pub fields : Command → List ℕ
fields c = c.verb ∷ c.subject ∷ c.day ∷ raised c.amount ∷ []

-- the bytes of numbers, one after the other
abbrev pub spelled : List ℕ → List ℕ
spelled = flat_map spell

-- the numbers of an entry
abbrev pub numbers_of : Draft → List ℕ
numbers_of (Broadcast node c) = 1 ∷ node ∷ length (spelled (fields c)) ∷ fields c
numbers_of (Receive place) = 2 ∷ place ∷ []
numbers_of (Step node) = 3 ∷ node ∷ []
numbers_of (Crash node) = 4 ∷ node ∷ []
numbers_of (Lose place) = 5 ∷ place ∷ []

-- the bytes of an entry
abbrev pub spelling : Draft → List ℕ
spelling d = spelled (numbers_of d)

-- whether the numbers are within their limits; those of a command are, by their types
abbrev pub within : Draft → Bool
within (Broadcast node c) = nat_le node 255
within (Receive place) = nat_le place 65535
within (Step node) = nat_le node 255
within (Crash node) = nat_le node 255
within (Lose place) = nat_le place 65535

-- what a draft says
abbrev pub act_drafted : Draft → Act
act_drafted (Broadcast node c) = broadcast node c (spelled (fields c))
act_drafted (Receive place) = receive place
act_drafted (Step node) = step node
act_drafted (Crash node) = crash node
act_drafted (Lose place) = lose place

-- the draft that says the same
abbrev pub draft_of : Act → Draft
draft_of (broadcast node c body) = Broadcast node c
draft_of (receive place) = Receive place
draft_of (step node) = Step node
draft_of (crash node) = Crash node
draft_of (lose place) = Lose place

-- the numbers of a command are in the ranges of their types
pub record CommandInRange (c : Command) : Type 0 where
  pub verb : c.verb ≤ 255
  pub subject : c.subject ≤ 65535
  pub day : c.day ≤ 65535
  pub low : negsuc 32767 ≤ℤ c.amount
  pub high : c.amount ≤ℤ pos 32767

-- the command of a draft, if it has one, is in range
abbrev pub InRange : Draft → Type 0
InRange (Broadcast node c) = CommandInRange c
InRange (Receive place) = Unit {0}
InRange (Step node) = Unit {0}
InRange (Crash node) = Unit {0}
InRange (Lose place) = Unit {0}
