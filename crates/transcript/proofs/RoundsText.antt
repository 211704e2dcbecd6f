-- Loops that write round after round, and player after player.
use Rattle.std.proofs.Common.{◌≡◌, ℕ, ◌==◌, ◌+◌, ◌*◌, ◌≤◌, List, [], ◌++◌, drop, codes, refl, ap, ◌∙◌, add-one, arith}
use Rattle.std.proofs.lemmas.Bool.{cond-false, ne_eqb}
use Rattle.std.proofs.lemmas.List.{append_assoc}
use Rattle.std.specs.Prelude.{decimal}
use Rattle.transcript.specs.Telling.{round_words, round_at, rounds_until, player_text, players_until}

-- the line up to its k-th round
abbrev pub line_until : List ℕ → ℕ → ℕ → List ℕ
line_until told player k = codes "player " ++ (decimal player ++ (codes ": " ++ rounds_until told k))

-- the first round
pub line_one : (told : List ℕ) (player : ℕ) →
    line_until told player 1 ≡ codes "player " ++ (decimal player ++ (codes ": " ++ round_words (round_at told 0)))
unfolding rounds_until
line_one told player = refl

-- one round more, behind a comma
rounds_more : (told : List ℕ) (k : ℕ) → 1 ≤ k →
    rounds_until told (k + 1) ≡ rounds_until told k ++ (codes ", " ++ round_words (round_at told k))
unfolding rounds_until
rounds_more told k h =
    let comma = cond-false (k == 0) [] (codes ", ") (ne_eqb k 0 (λ e. omega arith)) in
    rw (add-one k) (ap (λ l. rounds_until told k ++ (l ++ round_words (round_at told k))) comma)

-- the line with what follows its rounds
line_then : (told : List ℕ) (player k : ℕ) (more : List ℕ) → line_until told player k ++ more ≡
    codes "player " ++ (decimal player ++ (codes ": " ++ (rounds_until told k ++ more)))
line_then told player k more =
    append_assoc (codes "player ") (decimal player ++ (codes ": " ++ rounds_until told k)) more
    ∙ ap (λ l. codes "player " ++ l) (append_assoc (decimal player) (codes ": " ++ rounds_until told k) more
    ∙ ap (λ l. decimal player ++ l) (append_assoc (codes ": ") (rounds_until told k) more))

-- the line with one round more
pub line_more : (told : List ℕ) (player k : ℕ) → 1 ≤ k →
    line_until told player k ++ (codes ", " ++ round_words (round_at told k)) ≡ line_until told player (k + 1)
line_more told player k h =
    rw (rounds_more told k h) (line_then told player k (codes ", " ++ round_words (round_at told k)))

-- no player yet
pub players_none : (list : List ℕ) → players_until list 0 ≡ []
unfolding players_until
players_none list = refl

-- one player more
pub players_more : (list : List ℕ) (player : ℕ) →
    players_until list (player + 1) ≡ players_until list player ++ player_text (drop (41 * player) list) player
unfolding players_until
players_more list player = rw (add-one player) refl
