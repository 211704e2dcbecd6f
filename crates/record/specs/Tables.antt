-- The table of eight cards that the code holds, and what it tells.
use Rattle.std.specs.Prelude.{◌≡◌, ℕ, zero, suc, ◌<◌, true, false, ◌&&◌, List, [], ◌∷◌, length, set, ℤ, pos, negsuc, ◌==◌}
use Rattle.std.specs.Prelude.{nat_eq, slice_index_or, slice_set, refl}
use Rattle.std.proofs.Common.{arith, ap, ◌∙◌, sym}
use Rattle.std.proofs.lemmas.Bool.Decides.{nat_tests}
use Rattle.std.proofs.lemmas.Bool.{and_parts, and_from, eq-eqb}
use Rattle.record.specs.Card.{posted, adjusted, between, is_card, are_cards}
use Rattle.record.specs.Change.{changed_by}
use Rattle.record.specs.RoundsOrder.{Asks}
use Rattle.record.specs.declared.rounds.order.Change.{Change}
use Rattle.record.specs.declared.rounds.order.Change.TheVariants.{Post, Adjust}
use Rattle.record.specs.Rounds.{card_after, cards_after, encode_cards, rounds_machine, rounds_kind}
use Rattle.record.specs.Table.{kept, all_kept, no_card}
use Rattle.record.specs.declared.command.Command.{Command}
use Rattle.record.specs.declared.rounds.card.Round.{Round}
use Rattle.record.specs.declared.rounds.card.Card.{Card}
use Rattle.record.specs.CodedLaws.{code_tells}
use Rattle.record.specs.RoundsLaws.{read_back}

kept_length : (ts : List Card) → length (all_kept ts) ≡ length ts
kept_length [] = refl
kept_length (t ∷ ts) = ap suc (kept_length ts)

kept_cards : (ts : List Card) → are_cards (all_kept ts) ≡ true
kept_cards [] = refl
kept_cards (t ∷ ts) = and_from (is_card (kept t)) (are_cards (all_kept ts)) t.in_play (kept_cards ts)

kept_set : (ts : List Card) (i : ℕ) (u : Card) → all_kept (slice_set ts i u) ≡ slice_set (all_kept ts) i (kept u)
kept_set [] i u = refl
kept_set (t ∷ ts) zero u = refl
kept_set (t ∷ ts) (suc i) u = ap (λ (z : List (List Round)). kept t ∷ z) (kept_set ts i u)

kept_at : (ts : List Card) (i : ℕ) → slice_index_or (all_kept ts) i [] ≡ kept (slice_index_or ts i no_card)
kept_at [] i = refl
kept_at (t ∷ ts) zero = refl
kept_at (t ∷ ts) (suc i) = kept_at ts i

-- within the cards it is all one what stands beyond them
kept_within : (ts : List Card) (i : ℕ) (d : Card) → i < length ts →
    kept (slice_index_or ts i d) ≡ kept (slice_index_or ts i no_card)
kept_within [] i d h = absurd (omega arith)
kept_within (t ∷ ts) zero d h = refl
kept_within (t ∷ ts) (suc i) d h = kept_within ts i d (omega arith)

kept_valid : (ts : List Card) → length ts ≡ 8 → rounds_machine.valid (all_kept ts) ≡ true
kept_valid ts e =
    and_from (length (all_kept ts) == 8) (are_cards (all_kept ts))
    (eq-eqb (length (all_kept ts)) 8 (kept_length ts ∙ e)) (kept_cards ts)

pub table_tells : (ts : List Card) → length ts ≡ 8 → rounds_kind.taking.tells (encode_cards (all_kept ts)) ≡ true
table_tells ts e =
    code_tells rounds_machine (all_kept ts) (read_back (all_kept ts) (kept_valid ts e)) (kept_valid ts e)

-- the told list once the player's card has changed as the command has it
pub told_after : (ts : List Card) (c : Command) (u : Card) → length ts ≡ 8 →
    kept u ≡ card_after c (kept (slice_index_or ts c.subject no_card)) →
    encode_cards (all_kept (slice_set ts c.subject u)) ≡ rounds_kind.taking.after (encode_cards (all_kept ts)) c
told_after ts c u e k =
    ap encode_cards (kept_set ts c.subject u
    ∙ ap (set (all_kept ts) c.subject) (k ∙ ap (card_after c) (sym (kept_at ts c.subject))))
    ∙ ap (λ (z : List (List Round)). encode_cards (cards_after z c)) (sym (read_back (all_kept ts) (kept_valid ts e)))

-- the change that a command asks for is what it makes of its player's rounds
asked_after : (c : Command) (h : Change) (xs : List Round) → Asks c h → changed_by h xs ≡ card_after c xs
asked_after c (Post r) xs a =
    let v : nat_eq c.verb 1 ≡ true = (and_parts (c.verb == 1) (between (negsuc 998) (pos 999) c.amount) a.0).0 in
    simp v (ap (λ (z : Round). posted z xs) a.1)
asked_after c (Adjust d) xs a =
    let w : nat_eq c.verb 2 ≡ true = (and_parts (c.verb == 2) (c.day == 0 && between (negsuc 99) (pos 100) c.amount) a.0).0 in
    let v : nat_eq c.verb 1 ≡ false = grind (arith, nat_tests) in
    simp v (ap (λ (z : ℤ). adjusted z xs) a.1)

-- and once the card of a player within the eight has changed as the command asks
pub told_changed : (ts : List Card) (c : Command) (h : Change) (i : ℕ) (d u : Card) → length ts ≡ 8 → i < 8 → i ≡ c.subject →
    Asks c h → kept u ≡ changed_by h (kept (slice_index_or ts i d)) →
    encode_cards (all_kept (slice_set ts i u)) ≡ rounds_kind.taking.after (encode_cards (all_kept ts)) c
told_changed ts c h i d u e b s a k =
    let lt : i < length ts = omega arith in
    let now : kept u ≡ card_after c (kept (slice_index_or ts c.subject no_card)) =
    k ∙ asked_after c h (kept (slice_index_or ts i d)) a
    ∙ ap (card_after c) (kept_within ts i d lt ∙ ap (λ (n : ℕ). kept (slice_index_or ts n no_card)) s) in
    ap (λ (n : ℕ). encode_cards (all_kept (slice_set ts n u))) s ∙ told_after ts c u e now
