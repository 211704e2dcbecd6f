-- What is printed of the list that a record tells.
use Rattle.std.specs.Prelude.{ℕ, zero, suc, ◌+◌, ◌*◌, min, cond}
use Rattle.std.specs.Prelude.{List, [], ◌∷◌, ◌++◌, pos, ◌-ℤ◌, codes, decimal, ◌==◌, slice_index, drop}
use Rattle.std.specs.Fmt.{signed_decimal}
use Rattle.transcript.specs.declared.book_state.BookState.{BookState}
use Rattle.transcript.specs.declared.book_state.BookState.TheVariants.{Open, Closed}
use Rattle.transcript.specs.declared.player.Round.{Round}

-- the balance, which is the first number
abbrev pub balance_text : List ℕ → List ℕ
balance_text list = codes "balance " ++ (decimal (slice_index list 0) ++ codes "\n")

-- a book is open at 0, and closed at any other number
abbrev pub state_told : ℕ → BookState
state_told n = cond (n == 0) Open Closed

abbrev pub state_words : BookState → List ℕ
state_words Open = codes "open"
state_words Closed = codes "closed"

-- the state of the book, which is the first number
abbrev pub book_text : List ℕ → List ℕ
book_text list = codes "book " ++ (state_words (state_told (slice_index list 0)) ++ codes "\n")

-- what stands before a player's round: nothing before the first, and else a comma
abbrev pub before_round : ℕ → List ℕ
before_round k = cond (k == 0) [] (codes ", ")

-- a round in words
abbrev pub round_words : Round → List ℕ
round_words r = codes "day " ++ (decimal r.day ++ (codes " amount " ++ signed_decimal r.amount))

-- one round of a player, of whom a count is told, and for each round a day and an amount plus 10,000
abbrev pub round_at : List ℕ → ℕ → Round
round_at told k = record {
  day = slice_index told (2 * k + 1);
  amount = pos (slice_index told (2 * k + 2)) -ℤ pos 10000;
}

-- the first k rounds of a player
unfoldable pub rounds_until : List ℕ → ℕ → List ℕ
rounds_until told zero = []
rounds_until told (suc k) = rounds_until told k ++ (before_round k ++ round_words (round_at told k))

-- how many rounds a player has, no more than 20
abbrev pub rounds_count : List ℕ → ℕ
rounds_count told = min (slice_index told 0) 20

-- the line of a player, if there is a round
abbrev pub player_text : List ℕ → ℕ → List ℕ
player_text told player = cond (rounds_count told == 0) []
    (codes "player " ++ (decimal player ++ (codes ": " ++ (rounds_until told (rounds_count told) ++ codes "\n"))))

-- what a list tells of a player and those after, of each of whom it tells 41 numbers
abbrev pub player_part : List ℕ → ℕ → List ℕ
player_part list player = drop (41 * player) list

-- the lines of the players before this one
unfoldable pub players_until : List ℕ → ℕ → List ℕ
players_until list zero = []
players_until list (suc player) = players_until list player ++ player_text (player_part list player) player

-- a text, or where it is empty another one
abbrev pub or_else : List ℕ → List ℕ → List ℕ
or_else [] other = other
or_else (b ∷ bs) other = b ∷ bs

-- the lines of all eight players, or that there is no round
abbrev pub rounds_text : List ℕ → List ℕ
rounds_text list = or_else (players_until list 8) (codes "no rounds\n")

-- of the pair the kitty, then the book, then what is below the book
abbrev pub both_text : List ℕ → List ℕ
both_text list = (balance_text list ++ book_text (drop 1 list)) ++ rounds_text (drop 2 list)
