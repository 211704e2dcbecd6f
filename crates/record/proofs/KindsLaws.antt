-- The laws of the four kinds, as their contracts state them.
use Rattle.record.specs.ClosingBookLaws.{closing_laws}
use Rattle.record.specs.KindsKeepLaws.{KittyKeepsLaws, RoundsKeepLaws, PairsKeepLaws, ClosingBooksKeepLaws}
use Rattle.record.specs.KittyLaws.{kitty_laws}
use Rattle.record.specs.PairLaws.{pair_laws}
use Rattle.record.specs.RoundsLaws.{rounds_laws}
use Rattle.record.proofs.CardChanged.{placing_facts}

-- each is the lemma that the kind's impl cites
pub kitty : KittyKeepsLaws
kitty = kitty_laws

pub rounds : RoundsKeepLaws
rounds = rounds_laws placing_facts

pub pairs : PairsKeepLaws
pairs = pair_laws

pub closing_books : ClosingBooksKeepLaws
closing_books = closing_laws
