-- What a command orders of a kitty.
use Rattle.std.specs.Prelude.{◌≡◌, true, false, Ok, Err, Result}
use Rattle.record.specs.Kitty.{pays, draws, kitty_lawful, whole}
use Rattle.record.specs.declared.command.Command.{Command}
use Rattle.record.specs.declared.command.Unlawful.{Unlawful}
use Rattle.record.specs.declared.kitty.Order.{Order}
use Rattle.record.specs.declared.kitty.Order.TheVariants.{Pay, Draw}

-- a lawful command pays in its amount or draws it, and an unlawful one is refused
abbrev pub Orders : Command → Result Order Unlawful → Type 0
Orders c (Ok (Pay n)) = (kitty_lawful c ≡ true) × (pays c ≡ true) × (n ≡ whole c.amount)
Orders c (Ok (Draw n)) = (kitty_lawful c ≡ true) × (pays c ≡ false) × (draws c ≡ true) × (n ≡ whole c.amount)
Orders c (Err e) = kitty_lawful c ≡ false
