-- The rounds of the players are read back from the list that tells them.
use Rattle.std.specs.Prelude.{◌≡◌, ℕ, suc, ◌*◌, ◌≤◌, true, List, [], ◌∷◌, ◌++◌, length, ℤ, pos, negsuc, refl}
use Rattle.std.proofs.Common.{arith, ap, ◌∙◌}
use Rattle.std.proofs.lemmas.Bool.Decides.{nat_tests}
use Rattle.std.proofs.lemmas.Int.{ints}
use Rattle.std.proofs.lemmas.List.{take_at, drop_at, length-append, length-replicate}
use Rattle.std.proofs.lemmas.Bool.{and_parts}
use Rattle.record.specs.Card.{between, in_range, all_in_range, is_card, are_cards}
use Rattle.record.specs.Rounds.{raised, lowered, pairs, encode_card, encode_cards, unpaired, decode_card}
use Rattle.record.specs.Rounds.{decode_cards}
use Rattle.record.specs.declared.rounds.card.Round.{Round}
use Rattle.record.specs.CardLaws.{card_parts}

lowered_raised : (a : ℤ) → between (negsuc 9998) (pos 9999) a ≡ true → lowered (raised a) ≡ a
lowered_raised (pos n) e = omega (arith, ints)
lowered_raised (negsuc n) e = grind (arith, nat_tests, ints)

unpaired_pairs : (rs : List Round) (z : List ℕ) → all_in_range rs ≡ true → unpaired (length rs) (pairs rs ++ z) ≡ rs
unpaired_pairs [] z e = refl
unpaired_pairs (r ∷ rs) z e =
    let h = and_parts (in_range r) (all_in_range rs) e in
    ap (λ (a : ℤ). record { day = r.day; amount = a } ∷ unpaired (length rs) (pairs rs ++ z)) (lowered_raised r.amount h.0)
    ∙ ap (λ (t : List Round). r ∷ t) (unpaired_pairs rs z h.1)

length_pairs : (rs : List Round) → length (pairs rs) ≡ 2 * length rs
length_pairs [] = refl
length_pairs (r ∷ rs) = let h = length_pairs rs in omega arith

card_width : (rs : List Round) → length rs ≤ 20 → length (encode_card rs) ≡ 41
card_width rs h = let p = length_pairs rs in simp (length-append, length-replicate) (omega arith)

decode_more : (a b : List ℕ) (k : ℕ) → length a ≡ 41 → decode_cards (suc k) (a ++ b) ≡ decode_card a ∷ decode_cards k b
decode_more a b k w = rw (take_at a b 41 w, drop_at a b 41 w)

pub cards_back : (ts : List (List Round)) → are_cards ts ≡ true → decode_cards (length ts) (encode_cards ts) ≡ ts
cards_back [] e = refl
cards_back (t ∷ ts) e =
    let h = and_parts (is_card t) (are_cards ts) e in
    let k = card_parts t h.0 in
    decode_more (encode_card t) (encode_cards ts) (length ts) (card_width t k.0)
    ∙ ap (λ (u : List Round). u ∷ decode_cards (length ts) (encode_cards ts)) (unpaired_pairs t _ k.2)
    ∙ ap (λ (us : List (List Round)). t ∷ us) (cards_back ts h.1)

pub cards_width : (ts : List (List Round)) → are_cards ts ≡ true → length (encode_cards ts) ≡ 41 * length ts
cards_width [] e = refl
cards_width (t ∷ ts) e =
    let h = and_parts (is_card t) (are_cards ts) e in
    let w = card_width t (card_parts t h.0).0 in
    let r = cards_width ts h.1 in
    length-append (encode_card t) (encode_cards ts) ∙ omega arith
