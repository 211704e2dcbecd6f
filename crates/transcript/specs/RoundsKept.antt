-- The rounds that are printed are those that the record keeps.
use Rattle.std.specs.Prelude.{◌≡◌, ℕ, ◌<◌, true, List, [], length, get_or, pos}
use Rattle.record.specs.Card.{are_cards}
use Rattle.record.specs.Rounds.{encode_cards}
use Rattle.record.specs.declared.rounds.card.Round.{Round as Kept}
use Rattle.transcript.specs.Telling.{rounds_count, round_at, player_part}
use Rattle.transcript.specs.declared.player.Round.{Round}

-- what stands beyond the last round
abbrev pub no_round : Kept
no_round = record { day = 0; amount = pos 0 }

-- a kept round as it is printed
abbrev pub as_printed : Kept → Round
as_printed r = record { day = r.day; amount = r.amount }

-- Of the list that tells the rounds of some players, each player has as many rounds printed as are kept, and each with its
-- day and amount.
abbrev pub RoundsAsKept : Type 0
RoundsAsKept = (ts : List (List Kept)) → are_cards ts ≡ true → (i : ℕ) → i < length ts →
    (rounds_count (player_part (encode_cards ts) i) ≡ length (get_or ts i []))
    × ((k : ℕ) → k < length (get_or ts i []) →
    round_at (player_part (encode_cards ts) i) k ≡ as_printed (get_or (get_or ts i []) k no_round))
