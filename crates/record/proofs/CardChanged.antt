-- A card after a posting: the last round found room, or fell out.
use Rattle.std.proofs.Common.{◌≡◌, ℕ, ◌+◌, ◌<◌, ◌≤◌, true, List, [], ◌∷◌, ◌++◌, length, take, set, sym, ap, ◌∙◌, arith}
use Rattle.std.proofs.lemmas.List.{take_at, take_all, take_more_set, length_push}
use Rattle.record.specs.Card.{posted, in_range, is_card}
use Rattle.record.specs.CardLaws.{order_placed, range_placed, posted_card}
use Rattle.record.specs.Placing.{placed_ahead, placed_take}
use Rattle.record.specs.PlacingFacts.{PlacingFacts}
use Rattle.record.specs.declared.rounds.card.Round.{Round}

-- how a round finds its place
pub placing_facts : PlacingFacts
placing_facts = record { either_first = placed_ahead; past = placed_take; ordered = order_placed; ranged = range_placed }

-- the rounds after a posting are again in play
pub posted_in_play : (r : Round) (xs ys : List Round) → in_range r ≡ true → is_card xs ≡ true → ys ≡ posted r xs →
    is_card ys ≡ true
posted_in_play r xs ys a e p = ap is_card p ∙ posted_card placing_facts r xs a e

-- with fewer than twenty rounds there is room for the last
pub room_left : (n : ℕ) (xs ys whole : List Round) (l : Round) → length xs ≡ n → n < 20 → n < length (xs ++ ys) →
    xs ++ (l ∷ []) ≡ whole → take (n + 1) (set (xs ++ ys) n l) ≡ take 20 whole
room_left n xs ys whole l e h fits p =
    let k : length whole ≤ 20 = omega (arith, ap length p, length_push xs l) in
    take_more_set (xs ++ ys) n l fits ∙ ap (λ (z : List Round). z ++ (l ∷ [])) (take_at xs ys n e) ∙ p
    ∙ sym (take_all 20 whole k)

-- with twenty it falls out
pub no_room : (n : ℕ) (xs ys whole : List Round) (l : Round) → length xs ≡ n → n ≡ 20 → xs ++ (l ∷ []) ≡ whole →
    take n (xs ++ ys) ≡ take 20 whole
no_room n xs ys whole l e h p =
    take_at xs ys n e ∙ sym (ap (take 20) (sym p) ∙ take_at xs (l ∷ []) 20 (e ∙ h))
