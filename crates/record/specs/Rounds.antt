-- Rounds: eight players' kept rounds, told in 328 numbers.
use Rattle.std.specs.Prelude.{ℕ, zero, suc, ◌+◌, ◌-◌, ◌*◌, Bool, cond, not, ◌&&◌, ◌||◌, List, [], ◌∷◌, ◌++◌, length, take}
use Rattle.std.specs.Prelude.{drop, replicate, ℤ, pos, negsuc, ◌-ℤ◌, ◌==◌, nat_lt, slice_index_or, slice_set}
use Rattle.record.specs.Card.{posted, adjusted, between, are_cards}
use Rattle.record.specs.Coded.{Machine, coded}
use Rattle.record.specs.Kind.{Kind}
use Rattle.record.specs.declared.command.Command.{Command}
use Rattle.record.specs.declared.rounds.card.Round.{Round}

-- verb 1 posts a round of any day, with an amount of -999 to 999
abbrev pub posts : Command → Bool
posts c = c.verb == 1 && between (negsuc 998) (pos 999) c.amount

-- verb 2 adjusts all kept rounds, with day 0 and an amount of -100 to 100
abbrev pub adjusts : Command → Bool
adjusts c = c.verb == 2 && (c.day == 0 && between (negsuc 99) (pos 100) c.amount)

-- the subject is a player, 0 to 7
abbrev pub rounds_lawful : Command → Bool
rounds_lawful c = nat_lt c.subject 8 && (posts c || adjusts c)

-- lawful commands conflict if they name one player and either adjusts
abbrev pub players_conflict : Command → Command → Bool
players_conflict c d = c.subject == d.subject && (c.verb == 2 || d.verb == 2)

-- an unlawful command conflicts with all
abbrev pub rounds_conflicts : Command → Command → Bool
rounds_conflicts c d = not (rounds_lawful c && rounds_lawful d) || players_conflict c d

-- the round that a command posts
abbrev pub round_of : Command → Round
round_of c = record { day = c.day; amount = c.amount }

-- what a lawful command makes of its player's rounds
abbrev pub card_after : Command → List Round → List Round
card_after c xs = cond (c.verb == 1) (posted (round_of c) xs) (adjusted c.amount xs)

-- and of all players' rounds
abbrev pub cards_after : List (List Round) → Command → List (List Round)
cards_after ts c = slice_set ts c.subject (card_after c (slice_index_or ts c.subject []))

-- an amount is told plus 10,000
abbrev pub raised : ℤ → ℕ
raised (pos n) = n + 10000
raised (negsuc n) = 9999 - n

-- and read back
abbrev pub lowered : ℕ → ℤ
lowered n = pos n -ℤ pos 10000

-- two numbers for each round
abbrev pub pairs : List Round → List ℕ
pairs [] = []
pairs (r ∷ rs) = r.day ∷ (raised r.amount ∷ pairs rs)

-- a player is told by the count and twenty pairs of day and amount, 0 and 0 where unused
abbrev pub encode_card : List Round → List ℕ
encode_card rs = length rs ∷ (pairs rs ++ replicate (40 - 2 * length rs) 0)

-- one player after the other
abbrev pub encode_cards : List (List Round) → List ℕ
encode_cards [] = []
encode_cards (t ∷ ts) = encode_card t ++ encode_cards ts

-- the first rounds of a list of pairs
abbrev pub unpaired : ℕ → List ℕ → List Round
unpaired zero l = []
unpaired (suc n) [] = []
unpaired (suc n) (d ∷ []) = []
unpaired (suc n) (d ∷ (a ∷ l)) = record { day = d; amount = lowered a } ∷ unpaired n l

abbrev pub decode_card : List ℕ → List Round
decode_card [] = []
decode_card (n ∷ l) = unpaired n l

-- the rounds of so many players, 41 numbers each
abbrev pub decode_cards : ℕ → List ℕ → List (List Round)
decode_cards zero l = []
decode_cards (suc k) l = decode_card (take 41 l) ∷ decode_cards k (drop 41 l)

abbrev pub rounds_machine : Machine (List (List Round))
rounds_machine = record {
  width = 328;
  start = replicate 8 [];
  valid = λ ts. (length ts == 8) && are_cards ts;
  encode = encode_cards;
  decode = decode_cards 8;
  lawful = rounds_lawful;
  conflicts = rounds_conflicts;
  step = cards_after;
}

abbrev pub rounds_kind : Kind
rounds_kind = coded rounds_machine
