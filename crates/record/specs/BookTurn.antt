-- What a command turns a closing book to.
use Rattle.std.specs.Prelude.{◌≡◌, true, false, Option, Some, None}
use Rattle.record.specs.ClosingBook.{closes, turns}
use Rattle.record.specs.declared.command.Command.{Command}
use Rattle.record.specs.declared.closing_book.Turn.{Turn}
use Rattle.record.specs.declared.closing_book.Turn.TheVariants.{Open, Close}

-- a turn opens the book or closes it, and any other command does neither
abbrev pub Turns : Command → Option Turn → Type 0
Turns c (Some Open) = (turns c ≡ true) × (closes c ≡ false)
Turns c (Some Close) = (turns c ≡ true) × (closes c ≡ true)
Turns c None = turns c ≡ false
