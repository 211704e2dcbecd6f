-- Which side of a pair a command is for.
use Rattle.std.specs.Prelude.{◌≡◌, true, false}
use Rattle.record.specs.Pair.{is_left, at_side}
use Rattle.record.specs.declared.command.Command.{Command}
use Rattle.record.specs.declared.pair.Side.{Side}
use Rattle.record.specs.declared.pair.Side.TheVariants.{Left, Right}

-- the command goes to its side, as that side sees it
abbrev pub GoesTo : Command → Side → Type 0
GoesTo c (Left d) = (is_left c ≡ true) × (d ≡ at_side c)
GoesTo c (Right d) = (is_left c ≡ false) × (d ≡ at_side c)
