-- Which kinds of record keep the laws: two by themselves, and two over all kinds that keep them.
use Rattle.record.specs.ClosingBook.{closing_kind}
use Rattle.record.specs.Kind.{Kind, Laws}
use Rattle.record.specs.Kitty.{kitty_kind}
use Rattle.record.specs.Pair.{pair_kind}
use Rattle.record.specs.Rounds.{rounds_kind}

-- the kitty
abbrev pub KittyKeepsLaws : Type 0
KittyKeepsLaws = Laws kitty_kind

-- the rounds of eight players
abbrev pub RoundsKeepLaws : Type 0
RoundsKeepLaws = Laws rounds_kind

-- a pair of any two kinds that keep the laws
abbrev pub PairsKeepLaws : Type 0
PairsKeepLaws = (L R : Kind) → Laws L → Laws R → Laws (pair_kind L R)

-- a closing book over any kind that keeps the laws
abbrev pub ClosingBooksKeepLaws : Type 0
ClosingBooksKeepLaws = (K : Kind) → Laws K → Laws (closing_kind K)
