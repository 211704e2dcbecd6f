-- A list that is told, cut into the parts of the players.
use Rattle.std.proofs.Common.{◌≡◌, ℕ, zero, suc, ◌+◌, ◌*◌, ◌≤◌, min, List, [], ◌++◌, length, take, drop}
use Rattle.std.proofs.Common.{refl, ap, ◌∙◌, append-nil, arith}
use Rattle.std.proofs.lemmas.List.{get_or-take, drop_all, take_min, drop_min}
use Rattle.std.proofs.Math.Seq.{take-append_seam, drop-append_seam}
use Rattle.transcript.proofs.RoundsText.{players_more}
use Rattle.transcript.specs.Telling.{rounds_until, rounds_count, player_text, players_until}

-- a chunk of 41 numbers is the front of what was left
pub front_part : (rest x more : List ℕ) → rest ≡ x ++ more → length x ≡ min 41 (length rest) →
    (x ≡ take 41 rest) × (more ≡ drop 41 rest)
front_part rest x more e h =
    let front = take-append_seam x more in
    let behind = drop-append_seam x more in
    let at_most = take_min 41 rest in
    let left = drop_min 41 rest in ((cc), (cc))

-- no more than 20 rounds are read of a part, which are its first 41 numbers
rounds_within : (l : List ℕ) (k : ℕ) → k ≤ 20 → rounds_until (take 41 l) k ≡ rounds_until l k
unfolding rounds_until
rounds_within l zero h = refl
rounds_within l (suc k) h =
    let day = get_or-take 41 l (2 * k + 1) 0 (omega arith) in
    let amount = get_or-take 41 l (2 * k + 2) 0 (omega arith) in
    rw (rounds_within l k (omega arith), day, amount) refl

pub player_within : (l : List ℕ) (player : ℕ) → player_text (take 41 l) player ≡ player_text l player
player_within l player =
    let count : rounds_count (take 41 l) ≡ rounds_count l = ap (λ n. min n 20) (get_or-take 41 l 0 0 (omega arith)) in
    rw (count, rounds_within l (rounds_count l) (omega arith)) refl

-- where no number is left, no further player has a line
pub players_rest : (list : List ℕ) (k j : ℕ) → length list ≤ 41 * k → players_until list (k + j) ≡ players_until list k
players_rest list k zero h = ap (players_until list) (omega arith)
players_rest list k (suc j) h =
    let next : k + suc j ≡ k + j + 1 = omega arith in
    let none : drop (41 * (k + j)) list ≡ [] = drop_all (41 * (k + j)) list (omega arith) in
    rw (next, players_more, none) (append-nil (players_until list (k + j)) ∙ players_rest list k j h)
