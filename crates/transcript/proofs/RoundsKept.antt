-- The rounds of a told list are read back as they are kept.
use Rattle.std.proofs.Common.{◌≡◌, ℕ, zero, suc, ◌+◌, ◌-◌, ◌*◌, ◌<◌, ◌≤◌, true, List, [], ◌∷◌, ◌++◌, length, drop, replicate}
use Rattle.std.proofs.Common.{get_or, refl, ap, ◌∙◌, sym, arith}
use Rattle.std.specs.Prelude.{ℤ, pos, negsuc, ◌-ℤ◌, min}
use Rattle.std.proofs.lemmas.Bool.Decides.{nat_tests}
use Rattle.std.proofs.lemmas.Bool.{and_parts}
use Rattle.std.proofs.lemmas.Int.{ints}
use Rattle.std.proofs.Math.Seq.{drop-append-add}
use Rattle.std.proofs.lemmas.List.{append_assoc, length-append, length-replicate}
use Rattle.record.specs.Card.{between, in_range, all_in_range, is_card, are_cards}
use Rattle.record.specs.CardLaws.{card_parts}
use Rattle.record.specs.Rounds.{raised, pairs, encode_card, encode_cards}
use Rattle.record.specs.declared.rounds.card.Round.{Round as Kept}
use Rattle.transcript.specs.RoundsKept.{no_round, as_printed, RoundsAsKept}
use Rattle.transcript.specs.Telling.{rounds_count, round_at, player_part}
use Rattle.transcript.specs.declared.player.Round.{Round}

day_at : (rs : List Kept) (more : List ℕ) (k : ℕ) → k < length rs →
    get_or (pairs rs ++ more) (2 * k) 0 ≡ (get_or rs k no_round).day
day_at [] more k h = absurd (omega arith)
day_at (r ∷ rs) more zero h = refl
day_at (r ∷ rs) more (suc k) h =
    let e : 2 * suc k ≡ suc (suc (2 * k)) = omega arith in
    ap (λ n. get_or (pairs (r ∷ rs) ++ more) n 0) e ∙ day_at rs more k (omega arith)

amount_at : (rs : List Kept) (more : List ℕ) (k : ℕ) → k < length rs →
    get_or (pairs rs ++ more) (2 * k + 1) 0 ≡ raised (get_or rs k no_round).amount
amount_at [] more k h = absurd (omega arith)
amount_at (r ∷ rs) more zero h = refl
amount_at (r ∷ rs) more (suc k) h =
    let e : 2 * suc k + 1 ≡ suc (suc (2 * k + 1)) = omega arith in
    ap (λ n. get_or (pairs (r ∷ rs) ++ more) n 0) e ∙ amount_at rs more k (omega arith)

in_range_at : (rs : List Kept) (k : ℕ) → all_in_range rs ≡ true → k < length rs →
    between (negsuc 9998) (pos 9999) (get_or rs k no_round).amount ≡ true
in_range_at [] k e h = absurd (omega arith)
in_range_at (r ∷ rs) zero e h = (and_parts (in_range r) (all_in_range rs) e).0
in_range_at (r ∷ rs) (suc k) e h = in_range_at rs k (and_parts (in_range r) (all_in_range rs) e).1 (omega arith)

-- what was added to an amount is taken off again
lowered_raised : (a : ℤ) → between (negsuc 9998) (pos 9999) a ≡ true → pos (raised a) -ℤ pos 10000 ≡ a
lowered_raised (pos n) e = omega (arith, ints)
lowered_raised (negsuc n) e = grind (arith, nat_tests, ints)

length_pairs : (rs : List Kept) → length (pairs rs) ≡ 2 * length rs
length_pairs [] = refl
length_pairs (r ∷ rs) = let h = length_pairs rs in omega arith

card_width : (rs : List Kept) → length rs ≤ 20 → length (encode_card rs) ≡ 41
card_width rs h = let p = length_pairs rs in simp (length-append, length-replicate) (omega arith)

-- the part of a player begins with the player's rounds
abbrev Begins : List ℕ → List Kept → Type 0
Begins l rs = (more : List ℕ) × (l ≡ length rs ∷ (pairs rs ++ more))

part_begins : (ts : List (List Kept)) (i : ℕ) → are_cards ts ≡ true → i < length ts →
    Begins (player_part (encode_cards ts) i) (get_or ts i [])
part_begins [] i e h = absurd (omega arith)
part_begins (t ∷ ts) zero e h =
    let zeros = replicate (40 - 2 * length t) 0 in
    (zeros ++ encode_cards ts, ap (λ l. length t ∷ l) (append_assoc (pairs t) zeros (encode_cards ts)))
part_begins (t ∷ ts) (suc i) e h =
    let p = and_parts (is_card t) (are_cards ts) e in
    let w = card_width t (card_parts t p.0).0 in
    let r = part_begins ts i p.1 (omega arith) in
    let past : drop (41 * suc i) (encode_card t ++ encode_cards ts) ≡ drop (41 * i) (encode_cards ts) =
    further (encode_card t) (encode_cards ts) i w in
    (r.0, past ∙ r.1)
  where
    further : (a b : List ℕ) (i : ℕ) → length a ≡ 41 → drop (41 * suc i) (a ++ b) ≡ drop (41 * i) b
    further a b i w =
        let e : 41 * suc i ≡ length a + 41 * i = omega arith in
        ap (λ n. drop n (a ++ b)) e ∙ drop-append-add a b (41 * i)

card_at : (ts : List (List Kept)) (i : ℕ) → are_cards ts ≡ true → i < length ts → is_card (get_or ts i []) ≡ true
card_at [] i e h = absurd (omega arith)
card_at (t ∷ ts) zero e h = (and_parts (is_card t) (are_cards ts) e).0
card_at (t ∷ ts) (suc i) e h = card_at ts i (and_parts (is_card t) (are_cards ts) e).1 (omega arith)

abbrev round_of : ℕ → ℤ → Round
round_of d a = record { day = d; amount = a }

same_round : (d e : ℕ) (a b : ℤ) → d ≡ e → a ≡ b → round_of d a ≡ round_of e b
same_round d e a b p q = ap (λ (x : ℕ). round_of x a) p ∙ ap (λ (x : ℤ). round_of e x) q

-- one round, of a list that begins with the player's rounds
round_kept : (l : List ℕ) (rs : List Kept) (k : ℕ) → Begins l rs → all_in_range rs ≡ true → k < length rs →
    round_at l k ≡ as_printed (get_or rs k no_round)
round_kept l rs k b e h =
    let one : 2 * k + 1 ≡ suc (2 * k) = omega arith in
    let two : 2 * k + 2 ≡ suc (2 * k + 1) = omega arith in
    let day : get_or l (2 * k + 1) 0 ≡ (get_or rs k no_round).day =
    ap (λ z. get_or z (2 * k + 1) 0) b.1 ∙ ap (λ n. get_or (length rs ∷ (pairs rs ++ b.0)) n 0) one
    ∙ day_at rs b.0 k h in
    let raised-at : get_or l (2 * k + 2) 0 ≡ raised (get_or rs k no_round).amount =
    ap (λ z. get_or z (2 * k + 2) 0) b.1 ∙ ap (λ n. get_or (length rs ∷ (pairs rs ++ b.0)) n 0) two
    ∙ amount_at rs b.0 k h in
    let amount : pos (get_or l (2 * k + 2) 0) -ℤ pos 10000 ≡ (get_or rs k no_round).amount =
    ap (λ n. pos n -ℤ pos 10000) raised-at ∙ lowered_raised (get_or rs k no_round).amount (in_range_at rs k e h) in
    same_round (get_or l (2 * k + 1) 0) (get_or rs k no_round).day _ _ day amount

capped : (n : ℕ) → n ≤ 20 → min n 20 ≡ n
capped n h = omega arith

pub rounds_as_kept : RoundsAsKept
rounds_as_kept ts e i h =
    let rs = get_or ts i [] in
    let c = card_parts rs (card_at ts i e h) in
    let b = part_begins ts i e h in
    let few : length rs ≤ 20 = c.0 in
    (ap (λ l. min (get_or l 0 0) 20) b.1 ∙ capped (length rs) few, λ k l. round_kept _ rs k b c.2 l)
