-- What a command orders of the rounds.
use Rattle.std.specs.Prelude.{◌≡◌, true, false, Ok, Err, Result}
use Rattle.record.specs.Rounds.{posts, adjusts, rounds_lawful, round_of}
use Rattle.record.specs.declared.command.Command.{Command}
use Rattle.record.specs.declared.command.Unlawful.{Unlawful}
use Rattle.record.specs.declared.rounds.order.Change.{Change}
use Rattle.record.specs.declared.rounds.order.Change.TheVariants.{Post, Adjust}
use Rattle.record.specs.declared.rounds.order.Order.{Order}

-- the change that the command asks for
abbrev pub Asks : Command → Change → Type 0
Asks c (Post r) = (posts c ≡ true) × (r ≡ round_of c)
Asks c (Adjust d) = (adjusts c ≡ true) × (d ≡ c.amount)

-- a lawful command changes the card of its player, and an unlawful one is refused
abbrev pub Orders : Command → Result Order Unlawful → Type 0
Orders c (Ok o) = (rounds_lawful c ≡ true) × (o.player ≡ c.subject) × Asks c o.change
Orders c (Err e) = rounds_lawful c ≡ false
