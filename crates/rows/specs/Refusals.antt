-- The numbers that each refusal goes by.
use Rattle.std.specs.Prelude.{ℕ, Some, None, Option}
use Rattle.chooser.specs.Refusal as choosers
use Rattle.rows.specs.declared.refusal.Refusal.{Refusal}
use Rattle.rows.specs.declared.refusal.Refusal.TheVariants.{NodesOutOfRange, QuorumTooLarge, QuorumTooSmall, WrongTableSize}
use Rattle.rows.specs.declared.refusal.Refusal.TheVariants.{NeedAboveQuorum, ChooserInUse, NotStarted, NoSuchNode, NodeCrashed}
use Rattle.rows.specs.declared.refusal.Refusal.TheVariants.{UnlawfulCommand, BookFull, TrayFull, PlaceUnused, NotTravelling}
use Rattle.rows.specs.declared.refusal.Refusal.TheVariants.{SpoiltLetter, LaterStage, NothingNew, TooFewChecks, Undecided}
use Rattle.rows.specs.declared.refusal.Refusal.TheVariants.{Chooser}
use Rattle.rows.specs.declared.refusal.Refusal.TheVariants.{NobodyCrashed, Unplayable, MarkBeyondSheet}

-- The number of a refusal, and with 20, by which the chooser refuses, the number of the chooser's own refusal.
abbrev pub numbers_of : Refusal → ℕ × Option ℕ
numbers_of NodesOutOfRange = (1, None)
numbers_of QuorumTooLarge = (2, None)
numbers_of QuorumTooSmall = (3, None)
numbers_of WrongTableSize = (4, None)
numbers_of NeedAboveQuorum = (5, None)
numbers_of ChooserInUse = (6, None)
numbers_of NotStarted = (7, None)
numbers_of NoSuchNode = (8, None)
numbers_of NodeCrashed = (9, None)
numbers_of UnlawfulCommand = (10, None)
numbers_of BookFull = (11, None)
numbers_of TrayFull = (12, None)
numbers_of PlaceUnused = (13, None)
numbers_of NotTravelling = (14, None)
numbers_of SpoiltLetter = (15, None)
numbers_of LaterStage = (16, None)
numbers_of NothingNew = (17, None)
numbers_of TooFewChecks = (18, None)
numbers_of Undecided = (19, None)
numbers_of (Chooser e) = (20, Some (choosers.number_of e))
numbers_of NobodyCrashed = (21, None)
numbers_of Unplayable = (22, None)
numbers_of MarkBeyondSheet = (23, None)

-- the number of a refusal
abbrev pub number_of : Refusal → ℕ
number_of e = (numbers_of e).0

-- the number of the chooser's own refusal, if it is one of the chooser
abbrev pub chooser_number_of : Refusal → Option ℕ
chooser_number_of e = (numbers_of e).1
