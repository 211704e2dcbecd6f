-- Letters, which of them are spoilt, and sendings.
use Rattle.std.specs.Prelude.{◌≡◌, ℕ, zero, suc, ◌+◌, ◌^◌, Bool, true, false, cond, not, ◌||◌, List, length, set, Ok, Err, Result}
use Rattle.std.specs.Prelude.{◌==◌, count_ones, nat_le, nat_lt}
use Rattle.rows.specs.declared.letter.Letter.{Letter}
use Rattle.record.specs.declared.record_kind.NoSuchKind.{NoSuchKind}
use Rattle.rows.specs.declared.letter.LetterKind.{LetterKind}
use Rattle.rows.specs.declared.letter.LetterKind.TheVariants.{Data, Acknowledgement, Check}
use Rattle.rows.specs.declared.letter.Mark.{Mark}
use Rattle.rows.specs.declared.letter.Mark.TheVariants.{Empty, Travelling, Taken, Lost}
use Rattle.rows.specs.declared.refusal.Refusal.{Refusal}
use Rattle.rows.specs.declared.refusal.Refusal.TheVariants.{TrayFull}

-- the kinds: data carries one message
abbrev pub data_letter : ℕ
data_letter = 1

-- an acknowledgement carries what its sender keeps pending
abbrev pub acknowledgement : ℕ
acknowledgement = 2

-- a check carries what its sender kept pending when it closed its stage
abbrev pub check_letter : ℕ
check_letter = 3

-- the marks: 0 for an empty place, and a letter still under way
abbrev pub travelling : ℕ
travelling = 1

-- a letter that its receiver took
abbrev pub taken : ℕ
taken = 2

-- a letter that is lost with a crash
abbrev pub lost : ℕ
lost = 3

-- the number of a kind
abbrev pub kind_number : LetterKind → ℕ
kind_number Data = data_letter
kind_number Acknowledgement = acknowledgement
kind_number Check = check_letter

-- the number of a mark
abbrev pub mark_number : Mark → ℕ
mark_number Empty = 0
mark_number Travelling = travelling
mark_number Taken = taken
mark_number Lost = lost

-- the kind of a number, or that it is of none
abbrev pub IsKind : ℕ → Result LetterKind NoSuchKind → Type 0
IsKind n (Ok k) = n ≡ kind_number k
IsKind n (Err e) = (e.0 ≡ n) × ((nat_lt n data_letter || nat_lt check_letter n) ≡ true)

-- an empty place, and what stands beyond the tray
abbrev pub no_letter : Letter
no_letter = record { sender = 0; receiver = 0; kind = 0; mark = 0; stage = 0; set = 0 }

-- the letter with another mark
abbrev pub marked : ℕ → Letter → Letter
marked v l = record { sender = l.sender; receiver = l.receiver; kind = l.kind; mark = v; stage = l.stage; set = l.set }

-- a letter of a node, of a kind, a stage and a set, as it is handed in for sending
abbrev pub letter_of : ℕ → ℕ → ℕ → ℕ → Letter
letter_of node kind stage x =
    record { sender = node; receiver = 0; kind = kind; mark = travelling; stage = stage; set = x }

-- a letter that no sending makes in a ring of n nodes and so many messages
abbrev pub spoilt : ℕ → ℕ → Letter → Bool
spoilt n messages l =
    (nat_lt l.kind data_letter || nat_lt check_letter l.kind) ||
    ((nat_le n l.sender || nat_le n l.receiver) ||
    (nat_le (2 ^ messages) l.set ||
    cond (l.kind == data_letter) (not (l.stage == 0) || not (count_ones l.set == 1)) (l.stage == 0)))

-- the letter, travelling to node i
abbrev pub addressed : Letter → ℕ → Letter
addressed l i =
    record { sender = l.sender; receiver = i; kind = l.kind; mark = travelling; stage = l.stage; set = l.set }

-- the tray after the letter was sent to the first n nodes, from a place on
abbrev pub sent : List Letter → ℕ → Letter → ℕ → List Letter
sent tray from l zero = tray
sent tray from l (suc n) = set (sent tray from l n) (from + n) (addressed l n)

-- fewer than n places are free behind the used ones
abbrev pub no_room : List Letter → ℕ → ℕ → Bool
no_room tray used n = nat_lt (length tray) (used + n)

-- a sending behind the used places, or its refusal
abbrev pub Sends : List Letter → ℕ → ℕ → Letter → Result (Unit {0}) Refusal → List Letter → Type 0
Sends tray used n l (Ok u) after = (no_room tray used n ≡ false) × (after ≡ sent tray used l n)
Sends tray used n l (Err e) after = (no_room tray used n ≡ true) × (e ≡ TrayFull) × (after ≡ tray)
