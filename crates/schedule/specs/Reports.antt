-- What a fault tells: its number, its place, and the layers that it passed.
use Rattle.std.specs.Prelude.{ℕ, List, [], ◌∷◌}
use Rattle.schedule.specs.declared.report.Layer.{Layer}
use Rattle.schedule.specs.declared.report.Layer.TheVariants.{Number, Command, Entry}
use Rattle.schedule.specs.declared.fault.NumberFault.{NumberFault}
use Rattle.schedule.specs.declared.fault.NumberFault.TheVariants.{CutShort, Unfit}
use Rattle.schedule.specs.declared.fault.CommandFault.{CommandFault}
use Rattle.schedule.specs.declared.fault.CommandFault.TheVariants.{BadNumber, BytesLeft}
use Rattle.schedule.specs.declared.fault.EntryFault.{EntryFault}
use Rattle.schedule.specs.declared.fault.EntryFault.TheVariants.{InNumber, InCommand, UnknownKind, BodyTooLong}

-- the number of a fault in a number
abbrev pub number_of_number : NumberFault → ℕ
number_of_number (CutShort p) = 41
number_of_number (Unfit p) = 42

-- the number of a fault in a command
abbrev pub number_of_command : CommandFault → ℕ
number_of_command (BadNumber f) = number_of_number f
number_of_command (BytesLeft p) = 44

-- the number of a fault
abbrev pub number_of : EntryFault → ℕ
number_of (InNumber f) = number_of_number f
number_of (InCommand f) = number_of_command f
number_of (UnknownKind p) = 43
number_of (BodyTooLong p) = 44

-- where a number at fault begins
abbrev pub place_of_number : NumberFault → ℕ
place_of_number (CutShort p) = p
place_of_number (Unfit p) = p

-- where what is at fault in a command begins
abbrev pub place_of_command : CommandFault → ℕ
place_of_command (BadNumber f) = place_of_number f
place_of_command (BytesLeft p) = p

-- where what is at fault begins
abbrev pub place_of : EntryFault → ℕ
place_of (InNumber f) = place_of_number f
place_of (InCommand f) = place_of_command f
place_of (UnknownKind p) = p
place_of (BodyTooLong p) = p

-- the layers that a fault passed, the innermost first
abbrev pub layers_of : EntryFault → List Layer
layers_of (InNumber f) = Number ∷ Entry ∷ []
layers_of (InCommand (BadNumber f)) = Number ∷ Command ∷ Entry ∷ []
layers_of (InCommand (BytesLeft p)) = Command ∷ Entry ∷ []
layers_of (UnknownKind p) = Entry ∷ []
layers_of (BodyTooLong p) = Entry ∷ []
