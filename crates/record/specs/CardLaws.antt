-- What a lawful command makes of a player's rounds is again at most twenty, in order and in range.
use Rattle.std.specs.Prelude.{◌≡◌, ℕ, zero, suc, ◌≤◌, true, false, ◌&&◌, ◌||◌, ltb, List, [], ◌∷◌, length, take, ℤ, pos}
use Rattle.std.specs.Prelude.{negsuc, ◌+ℤ◌, ◌==◌, int_le, nat_eq, nat_le, nat_lt, refl}
use Rattle.std.proofs.Common.{arith, ap, ⊎_elim}
use Rattle.std.proofs.lemmas.Bool.Decides.{nat_tests}
use Rattle.std.proofs.lemmas.Int.{ints}
use Rattle.std.proofs.lemmas.List.{length-take}
use Rattle.std.proofs.lemmas.Bool.{or_left, or_right, and_parts, and_from, or_cases, cases_Bool, leb-true, le-leb}
use Rattle.record.specs.Card.{ahead, placed, posted, clamped, adjusted, between, in_range, all_in_range, leads}
use Rattle.record.specs.Card.{in_order, is_card}
use Rattle.record.specs.Rounds.{posts, adjusts, rounds_lawful, round_of, card_after}
use Rattle.record.specs.declared.command.Command.{Command}
use Rattle.record.specs.declared.rounds.card.Round.{Round}
use Rattle.record.specs.Placing.{ahead_total}
use Rattle.record.specs.PlacingFacts.{PlacingFacts}

pub card_parts : (xs : List Round) → is_card xs ≡ true → (length xs ≤ 20) × (in_order xs ≡ true) × (all_in_range xs ≡ true)
card_parts xs e =
    let h = and_parts (nat_le (length xs) 20) (in_order xs && all_in_range xs) e in
    let k = and_parts (in_order xs) (all_in_range xs) h.1 in
    (leb-true (length xs) 20 h.0, k.0, k.1)

card_from : (xs : List Round) → length xs ≤ 20 → in_order xs ≡ true → all_in_range xs ≡ true → is_card xs ≡ true
card_from xs a b c =
    and_from (nat_le (length xs) 20) (in_order xs && all_in_range xs) (le-leb (length xs) 20 a)
    (and_from (in_order xs) (all_in_range xs) b c)

-- posting keeps the order

leads_placed : (z r : Round) (xs : List Round) → ahead z r ≡ true → leads z xs ≡ true → leads z (placed r xs) ≡ true
leads_placed z r [] a f = a
leads_placed z r (x ∷ xs) a f =
    ⊎_elim (λ (h : ahead r x ≡ true). simp h a) (λ (h : ahead r x ≡ false). simp h f) (cases_Bool (ahead r x))

pub order_placed : (r : Round) (xs : List Round) → in_order xs ≡ true → in_order (placed r xs) ≡ true
order_placed r [] e = refl
order_placed r (x ∷ xs) e =
    let k = and_parts (leads x xs) (in_order xs) e in
    ⊎_elim
    (λ (h : ahead r x ≡ true). simp h e)
    (λ (h : ahead r x ≡ false).
    simp h (and_from (leads x (placed r xs)) (in_order (placed r xs))
    (leads_placed x r xs (ahead_total r x h) k.0) (order_placed r xs k.1)))
    (cases_Bool (ahead r x))

leads_take : (n : ℕ) (x : Round) (xs : List Round) → leads x xs ≡ true → leads x (take n xs) ≡ true
leads_take zero x xs e = refl
leads_take (suc n) x [] e = refl
leads_take (suc n) x (y ∷ xs) e = e

order_take : (n : ℕ) (xs : List Round) → in_order xs ≡ true → in_order (take n xs) ≡ true
order_take zero xs e = refl
order_take (suc n) [] e = refl
order_take (suc n) (x ∷ xs) e =
    let k = and_parts (leads x xs) (in_order xs) e in
    and_from (leads x (take n xs)) (in_order (take n xs)) (leads_take n x xs k.0) (order_take n xs k.1)

-- posting keeps the range

pub range_placed : (r : Round) (xs : List Round) → in_range r ≡ true → all_in_range xs ≡ true → all_in_range (placed r xs) ≡ true
range_placed r [] a e = and_from (in_range r) true a refl
range_placed r (x ∷ xs) a e =
    let k = and_parts (in_range x) (all_in_range xs) e in
    ⊎_elim
    (λ (h : ahead r x ≡ true). simp h (and_from (in_range r) (all_in_range (x ∷ xs)) a e))
    (λ (h : ahead r x ≡ false). simp h (and_from (in_range x) (all_in_range (placed r xs)) k.0 (range_placed r xs a k.1)))
    (cases_Bool (ahead r x))

range_take : (n : ℕ) (xs : List Round) → all_in_range xs ≡ true → all_in_range (take n xs) ≡ true
range_take zero xs e = refl
range_take (suc n) [] e = refl
range_take (suc n) (x ∷ xs) e =
    let k = and_parts (in_range x) (all_in_range xs) e in
    and_from (in_range x) (all_in_range (take n xs)) k.0 (range_take n xs k.1)

pub posted_card : PlacingFacts → (r : Round) (xs : List Round) → in_range r ≡ true → is_card xs ≡ true →
    is_card (posted r xs) ≡ true
posted_card f r xs a e =
    let k = card_parts xs e in
    card_from (posted r xs) (simp length-take (omega arith)) (order_take 20 (placed r xs) (f.ordered r xs k.1))
    (range_take 20 (placed r xs) (f.ranged r xs a k.2))

-- adjusting keeps the order, since all rounds move alike and meet the same ends

abbrev shifted : ℤ → Round → Round
shifted d x = record { day = x.day; amount = clamped (x.amount +ℤ d) }

clamped_le : (a b d : ℤ) → int_le a b ≡ true → int_le (clamped (a +ℤ d)) (clamped (b +ℤ d)) ≡ true
clamped_le a b d e = grind (arith, ints)

ahead_shifted : (d : ℤ) (x y : Round) → ahead x y ≡ true → ahead (shifted d x) (shifted d y) ≡ true
ahead_shifted d x y e =
    ⊎_elim
    (λ (h : ltb y.day x.day ≡ true). or_left (nat_lt y.day x.day) _ h)
    (λ (h : (x.day == y.day && int_le x.amount y.amount) ≡ true).
    let k = and_parts (x.day == y.day) (int_le x.amount y.amount) h in
    or_right (nat_lt y.day x.day) _
    (and_from (x.day == y.day) _ k.0 (clamped_le x.amount y.amount d k.1)))
    (or_cases (nat_lt y.day x.day) (x.day == y.day && int_le x.amount y.amount) e)

leads_adjusted : (d : ℤ) (x : Round) (xs : List Round) → leads x xs ≡ true → leads (shifted d x) (adjusted d xs) ≡ true
leads_adjusted d x [] e = refl
leads_adjusted d x (y ∷ xs) e = ahead_shifted d x y e

order_adjusted : (d : ℤ) (xs : List Round) → in_order xs ≡ true → in_order (adjusted d xs) ≡ true
order_adjusted d [] e = refl
order_adjusted d (x ∷ xs) e =
    let k = and_parts (leads x xs) (in_order xs) e in
    and_from (leads (shifted d x) (adjusted d xs)) (in_order (adjusted d xs))
    (leads_adjusted d x xs k.0) (order_adjusted d xs k.1)

clamped_in : (a : ℤ) → between (negsuc 9998) (pos 9999) (clamped a) ≡ true
clamped_in a = grind (arith, ints)

range_adjusted : (d : ℤ) (xs : List Round) → all_in_range (adjusted d xs) ≡ true
range_adjusted d [] = refl
range_adjusted d (x ∷ xs) =
    and_from (in_range (shifted d x)) (all_in_range (adjusted d xs)) (clamped_in (x.amount +ℤ d)) (range_adjusted d xs)

length_adjusted : (d : ℤ) (xs : List Round) → length (adjusted d xs) ≡ length xs
length_adjusted d [] = refl
length_adjusted d (x ∷ xs) = ap suc (length_adjusted d xs)

pub adjusted_card : (d : ℤ) (xs : List Round) → is_card xs ≡ true → is_card (adjusted d xs) ≡ true
adjusted_card d xs e =
    let k = card_parts xs e in
    let a = k.0 in
    card_from (adjusted d xs) (simp length_adjusted a) (order_adjusted d xs k.1) (range_adjusted d xs)

-- a posted amount lies well within what a kept round may count
posts_range : (c : Command) → rounds_lawful c ≡ true → (c.verb == 1) ≡ true → in_range (round_of c) ≡ true
posts_range c p v = let q = (and_parts (nat_lt c.subject 8) (posts c || adjusts c) p).1 in grind (arith, nat_tests, ints)

pub after_card : PlacingFacts → (c : Command) (xs : List Round) → rounds_lawful c ≡ true → is_card xs ≡ true →
    is_card (card_after c xs) ≡ true
after_card f c xs p e =
    ⊎_elim
    (λ (v : nat_eq c.verb 1 ≡ true). simp v (posted_card f (round_of c) xs (posts_range c p v) e))
    (λ (v : nat_eq c.verb 1 ≡ false). simp v (adjusted_card c.amount xs e))
    (cases_Bool (c.verb == 1))
