-- The worked cases.
use Rattle.std.specs.Prelude.{ℕ, List, [], ◌∷◌, ◌++◌, pos, replicate}
use Rattle.std.specs.List.{concat}
use Rattle.record.specs.Kitty.{kitty_kind}
use Rattle.record.specs.Pair.{pair_kind}
use Rattle.record.specs.Rounds.{rounds_kind}
use Rattle.record.specs.declared.command.Command.{Command}
use Rattle.cases.specs.Cases.{Case, is_size, no_size, proposes, goes_in, is_fault, leaves}

-- paying in, and drawing
abbrev pub pay : ℕ → Command
pay amount = record { verb = 1; subject = 0; day = 0; amount = pos amount }

abbrev pub draw : ℕ → Command
draw amount = record { verb = 2; subject = 0; day = 0; amount = pos amount }

-- player 0 posts a round
abbrev pub post : ℕ → ℕ → Command
post day amount = record { verb = 1; subject = 0; day = day; amount = pos amount }

-- the same for another subject
abbrev pub about : ℕ → Command → Command
about subject c = record { verb = c.verb; subject = subject; day = c.day; amount = c.amount }

-- so many rounds of day 100 and amount 50 are posted
abbrev pub fifties : ℕ → List Command
fifties n = replicate n (post 100 50)

-- so many rounds of day 100 and amount 50, as they are told
abbrev pub told_fifties : ℕ → List ℕ
told_fifties n = concat (replicate n (100 ∷ 10050 ∷ []))

-- seven players without rounds, as they are told
abbrev pub others : List ℕ
others = replicate 287 0

-- each case, and what it comes to
abbrev pub worked_cases : List Case
worked_cases =
    is_size 4 3
    ∷ no_size 4 2 3
    ∷ proposes 4 3 ((0 ∷ []) ∷ (0 ∷ []) ∷ (1 ∷ []) ∷ []) (0 ∷ 1 ∷ []) (0 ∷ []) (1 ∷ [])
    ∷ proposes 4 3 ((0 ∷ []) ∷ (0 ∷ []) ∷ (1 ∷ []) ∷ (1 ∷ []) ∷ []) (0 ∷ 1 ∷ []) (0 ∷ []) (1 ∷ [])
    ∷ goes_in 127 (0x7F ∷ [])
    ∷ goes_in 128 (0x80 ∷ 0x01 ∷ [])
    ∷ goes_in 65535 (0xFF ∷ 0xFF ∷ 0x03 ∷ [])
    ∷ is_fault (0x80 ∷ 0x00 ∷ []) 42
    ∷ leaves kitty_kind (pay 50 ∷ draw 50 ∷ []) (0 ∷ [])
    ∷ leaves kitty_kind (draw 50 ∷ pay 50 ∷ []) (50 ∷ [])
    ∷ leaves kitty_kind (pay 50 ∷ draw 80 ∷ []) (50 ∷ [])
    ∷ leaves rounds_kind (fifties 20 ++ (post 99 50 ∷ [])) (20 ∷ (told_fifties 20 ++ others))
    ∷ leaves rounds_kind (fifties 20 ++ (post 100 40 ∷ [])) (20 ∷ 100 ∷ 10040 ∷ (told_fifties 19 ++ others))
    ∷ leaves (pair_kind rounds_kind kitty_kind) (about 2 (post 100 50) ∷ about 1 (pay 50) ∷ [])
    (replicate 41 0 ++ (1 ∷ 100 ∷ 10050 ∷ (replicate 284 0 ++ (50 ∷ []))))
    ∷ []
