-- How the code holds the rounds: cards, each an array of which the first part counts.
use Rattle.std.specs.Prelude.{List, [], ◌∷◌, take, refl}
use Rattle.std.proofs.Common.{arith}
use Rattle.record.specs.declared.rounds.card.Round.{Round}
use Rattle.record.specs.declared.rounds.card.Card.{Card}

-- the rounds that a card keeps
abbrev pub kept : Card → List Round
kept t = take t.count t.rounds

-- the kept rounds of each player
abbrev pub all_kept : List Card → List (List Round)
all_kept [] = []
all_kept (t ∷ ts) = kept t ∷ all_kept ts

-- what stands beyond the last card
abbrev pub no_card : Card
no_card = record { count = 0; rounds = []; room = omega arith; in_play = refl }
