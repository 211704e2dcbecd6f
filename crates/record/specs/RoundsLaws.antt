-- The laws of the rounds of eight players.
use Rattle.std.specs.Prelude.{◌≡◌, ℕ, zero, suc, ◌<◌, Bool, true, false, not, ◌&&◌, ◌||◌, ◌≢◌, List, [], ◌∷◌, length, get_or}
use Rattle.std.specs.Prelude.{set, take, ◌==◌, nat_eq, nat_lt, slice_index_or, slice_set, refl}
use Rattle.std.proofs.Common.{arith, ap, ◌∙◌, sym, subst, ⊎_elim}
use Rattle.std.proofs.lemmas.Bool.Decides.{nat_tests}
use Rattle.std.proofs.lemmas.List.{length-set, get_or-set_same, get_or-set_other, set-set, set_comm}
use Rattle.std.proofs.lemmas.Bool.{and_parts, and_from, cases_Bool, eqb-true, eqb-false, eq-eqb, ltb-true}
use Rattle.record.specs.Card.{ahead, placed, posted, is_card, are_cards}
use Rattle.record.specs.Kind.{Laws}
use Rattle.record.specs.Rounds.{posts, adjusts, rounds_lawful, players_conflict, rounds_conflicts, round_of, card_after}
use Rattle.record.specs.Rounds.{cards_after, encode_cards, decode_cards, rounds_machine, rounds_kind}
use Rattle.record.specs.declared.command.Command.{Command}
use Rattle.record.specs.declared.rounds.card.Round.{Round}
use Rattle.record.specs.CardLaws.{after_card}
use Rattle.record.specs.CodedLaws.{coded_laws}
use Rattle.record.specs.Codes.{cards_back, cards_width}
use Rattle.record.specs.Placing.{ahead_total}
use Rattle.record.specs.PlacingFacts.{PlacingFacts}

-- what is valid, in its two parts

pub eight_cards : (ts : List (List Round)) → rounds_machine.valid ts ≡ true → (length ts ≡ 8) × (are_cards ts ≡ true)
eight_cards ts e = let h = and_parts (length ts == 8) (are_cards ts) e in (eqb-true (length ts) 8 h.0, h.1)

pub subject_below : (c : Command) → rounds_lawful c ≡ true → c.subject < 8
subject_below c p = ltb-true c.subject 8 (and_parts (nat_lt c.subject 8) (posts c || adjusts c) p).0

cards_at : (ts : List (List Round)) (i : ℕ) → are_cards ts ≡ true → is_card (slice_index_or ts i []) ≡ true
cards_at [] i e = refl
cards_at (t ∷ ts) zero e = (and_parts (is_card t) (are_cards ts) e).0
cards_at (t ∷ ts) (suc i) e = cards_at ts i (and_parts (is_card t) (are_cards ts) e).1

cards_set : (ts : List (List Round)) (i : ℕ) (t : List Round) → are_cards ts ≡ true → is_card t ≡ true →
    are_cards (slice_set ts i t) ≡ true
cards_set [] i t e f = refl
cards_set (u ∷ ts) zero t e f = and_from (is_card t) (are_cards ts) f (and_parts (is_card u) (are_cards ts) e).1
cards_set (u ∷ ts) (suc i) t e f =
    let h = and_parts (is_card u) (are_cards ts) e in
    and_from (is_card u) (are_cards (slice_set ts i t)) h.0 (cards_set ts i t h.1 f)

-- one player's rounds changed
abbrev changed : ℕ → (List Round → List Round) → List (List Round) → List (List Round)
changed i f ts = slice_set ts i (f (slice_index_or ts i []))

after_valid : PlacingFacts → (ts : List (List Round)) (c : Command) → rounds_machine.valid ts ≡ true → rounds_lawful c ≡ true →
    rounds_machine.valid (cards_after ts c) ≡ true
after_valid f ts c e p =
    let h = eight_cards ts e in
    let t = card_after c (slice_index_or ts c.subject []) in
    and_from (length (slice_set ts c.subject t) == 8) (are_cards (slice_set ts c.subject t))
    (eq-eqb (length (slice_set ts c.subject t)) 8 (length-set ts c.subject t ∙ h.0))
    (cards_set ts c.subject t h.1 (after_card f c (slice_index_or ts c.subject []) p (cards_at ts c.subject h.1)))

-- two changes commute for two players, and for one player if they do on his rounds

two_players : (ts : List (List Round)) (i j : ℕ) (f g : List Round → List Round) → i ≢ j →
    changed j g (changed i f ts) ≡ changed i f (changed j g ts)
two_players ts i j f g ne =
    let ne' : j ≢ i = λ (z : j ≡ i). ne (sym z) in
    let x = f (slice_index_or ts i []) in
    let y = g (slice_index_or ts j []) in
    simp (get_or-set_other ts i j x [] ne', get_or-set_other ts j i y [] ne) (set_comm ts i j x y ne)

one_player : (ts : List (List Round)) (i : ℕ) (f g : List Round → List Round) → i < length ts →
    f (g (slice_index_or ts i [])) ≡ g (f (slice_index_or ts i [])) → changed i g (changed i f ts) ≡ changed i f (changed i g ts)
one_player ts i f g lt e =
    let x = f (slice_index_or ts i []) in
    let y = g (slice_index_or ts i []) in
    simp (get_or-set_same ts i x [] lt, get_or-set_same ts i y [] lt, set-set ts i x (g x), set-set ts i y (f y))
    (ap (set ts i) (sym e))

-- two rounds may be posted in either order

placed_commute : PlacingFacts → (a b : Round) (xs : List Round) → placed a (placed b xs) ≡ placed b (placed a xs)
placed_commute k a b xs =
    ⊎_elim
    (λ (f : ahead a b ≡ true). k.either_first a b xs f)
    (λ (f : ahead a b ≡ false). sym (k.either_first b a xs (ahead_total a b f)))
    (cases_Bool (ahead a b))

posted_commute : PlacingFacts → (a b : Round) (xs : List Round) → posted a (posted b xs) ≡ posted b (posted a xs)
posted_commute k a b xs =
    k.past 20 a (placed b xs) ∙ ap (take 20) (placed_commute k a b xs) ∙ sym (k.past 20 b (placed a xs))

both_post : PlacingFacts → (ts : List (List Round)) (c d : Command) → c.subject < length ts → c.subject ≡ d.subject →
    (c.verb == 1) ≡ true → (d.verb == 1) ≡ true → cards_after (cards_after ts c) d ≡ cards_after (cards_after ts d) c
both_post k ts c d lt s a b =
    let xs = get_or ts c.subject [] in
    let m : card_after c (card_after d xs) ≡ card_after d (card_after c xs) =
    simp (a, b) (posted_commute k (round_of c) (round_of d) xs) in
    subst (λ (i : ℕ).
    changed i (card_after d) (cards_after ts c) ≡ changed c.subject (card_after c) (changed i (card_after d) ts)) s
    (one_player ts c.subject (card_after c) (card_after d) lt m)

-- commands of one player that both post, and commands of two players
commute : PlacingFacts → (ts : List (List Round)) (c d : Command) → rounds_machine.valid ts ≡ true → rounds_lawful c ≡ true →
    ((c.subject == d.subject) ≡ true → ((c.verb == 1) ≡ true) × ((d.verb == 1) ≡ true)) →
    cards_after (cards_after ts c) d ≡ cards_after (cards_after ts d) c
commute k ts c d e p both =
    ⊎_elim
    (λ (z : nat_eq c.subject d.subject ≡ true).
    let len = (eight_cards ts e).0 in
    let lt = subject_below c p in
    both_post k ts c d (omega arith) (eqb-true c.subject d.subject z) (both z).0 (both z).1)
    (λ (z : nat_eq c.subject d.subject ≡ false).
    two_players ts c.subject d.subject (card_after c) (card_after d) (eqb-false c.subject d.subject z))
    (cases_Bool (c.subject == d.subject))

-- where an unlawful command conflicts with every command, conflict is mutual if that of lawful commands is
either_way : (p q x y : Bool) → x ≡ y → (not (p && q) || x) ≡ (not (q && p) || y)
either_way true true x y e = e
either_way true false x y e = refl
either_way false true x y e = refl
either_way false false x y e = refl

-- the told list is read back to the rounds that it tells
pub read_back : (ts : List (List Round)) → rounds_machine.valid ts ≡ true → rounds_machine.decode (encode_cards ts) ≡ ts
read_back ts e =
    let h = eight_cards ts e in
    subst (λ (k : ℕ). decode_cards k (encode_cards ts) ≡ ts) h.0 (cards_back ts h.1)

pub rounds_laws : PlacingFacts → Laws rounds_kind
rounds_laws =
    -- commands of one player that do not conflict both post
    let both : (c d : Command) → rounds_lawful c ≡ true → rounds_lawful d ≡ true → rounds_conflicts c d ≡ false →
    (c.subject == d.subject) ≡ true → ((c.verb == 1) ≡ true) × ((d.verb == 1) ≡ true) =
    λ c d p q n z. (grind (arith, nat_tests), grind (arith, nat_tests)) in
    λ f. coded_laws rounds_machine (record {
      something = omega arith;
      starts = refl;
      back = read_back;
      long = λ ts e. let h = eight_cards ts e in let l = h.0 in cards_width ts h.1 ∙ omega arith;
      holds = after_valid f;
      symmetric = λ c d. either_way (rounds_lawful c) (rounds_lawful d) (players_conflict c d) (players_conflict d c)
          (grind (arith, nat_tests));
      unlawful = λ c d e. rw e;
      commute = λ ts c d e p q n. commute f ts c d e p (both c d p q n);
    })
