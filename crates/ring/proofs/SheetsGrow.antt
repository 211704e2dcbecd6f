-- What writing messages behind the used part of a node's sheet makes of the sheets.
use Rattle.std.proofs.Common.{◌≡◌, ℕ, zero, suc, ◌+◌, ◌-◌, ◌*◌, ◌^◌, ◌<◌, ◌≤◌, ◌⊎◌}
use Rattle.std.proofs.Common.{List, [], ◌∷◌, ◌++◌, length, take, drop, set, sym, refl, ap, ◌∙◌, inl, inr, add-zero, arith}
use lib.Bits.{bit_or, or_lt}
use lib.Count.{ones}
use Rattle.std.proofs.lemmas.List.{append-nil, append_assoc, length-append, length-set, length-drop, drop-set-lt, drop-set-add}
use Rattle.std.proofs.lemmas.List.{take-set-le, take_more_set}
use Rattle.std.proofs.lemmas.Bool.{cases_lt}
use Rattle.std.proofs.lemmas.Bool.Decides.{nat_tests}
use Rattle.protocol.specs.Lists.{ascending}
use Rattle.protocol.specs.Sets.{Set, count, ◌∖◌, ◌∪◌}
use Rattle.protocol.proofs.Counting.{count_le}
use Rattle.rows.specs.Masks.{minus, has, members, put}
use Rattle.rows.proofs.Masks.{put_length}
use Rattle.ring.proofs.Membership.{set_or, set_minus, ones_count, members_ascending}

-- ---- writing into a list

-- writing right behind a part appends to it
put_behind : (xs : List ℕ) (start n : ℕ) (ys : List ℕ) → start + n + length ys ≤ length xs
    → take (n + length ys) (drop start (put xs (start + n) ys)) ≡ take n (drop start xs) ++ ys
put_behind xs start n [] h = ap (λ k. take k (drop start xs)) (add-zero n) ∙ sym (append-nil (take n (drop start xs)))
put_behind xs start n (y ∷ ys) h =
    let fits : start + (n + 1) + length ys ≤ length (set xs (start + n) y) = simp length-set (omega arith) in
    let more : n + length (y ∷ ys) ≡ n + 1 + length ys = omega arith in
    let next : start + n + 1 ≡ start + (n + 1) = omega arith in
    let inside : n < length (drop start xs) = simp length-drop (omega arith) in
    ap (λ k. take k (drop start (put (set xs (start + n) y) (start + n + 1) ys))) more
    ∙ ap (λ k. take (n + 1 + length ys) (drop start (put (set xs (start + n) y) k ys))) next
    ∙ put_behind (set xs (start + n) y) start (n + 1) ys fits
    ∙ ap (λ t. take (n + 1) t ++ ys) (drop-set-add start xs n y)
    ∙ ap (λ t. t ++ ys) (take_more_set (drop start xs) n y inside)
    ∙ append_assoc (take n (drop start xs)) (y ∷ []) ys

-- setting a place before or behind a part leaves it
set_away : (xs : List ℕ) (place y start n : ℕ) → (place < start) ⊎ (start + n ≤ place)
    → take n (drop start (set xs place y)) ≡ take n (drop start xs)
set_away xs place y start n (inl h) = ap (take n) (drop-set-lt start xs place y h)
set_away xs place y start n (inr h) =
    let e : place ≡ start + (place - start) = omega arith in
    ap (λ k. take n (drop start (set xs k y))) e
    ∙ ap (take n) (drop-set-add start xs (place - start) y)
    ∙ take-set-le n (drop start xs) (place - start) y (omega arith)

-- and so does writing there
put_away : (xs : List ℕ) (place : ℕ) (ys : List ℕ) (start n : ℕ) → (place + length ys ≤ start) ⊎ (start + n ≤ place)
    → take n (drop start (put xs place ys)) ≡ take n (drop start xs)
put_away xs place [] start n h = refl
put_away xs place (y ∷ ys) start n (inl h) =
    put_away (set xs place y) (place + 1) ys start n (inl (omega arith)) ∙ set_away xs place y start n (inl (omega arith))
put_away xs place (y ∷ ys) start n (inr h) =
    put_away (set xs place y) (place + 1) ys start n (inr (omega arith)) ∙ set_away xs place y start n (inr h)

-- ---- how much is written

-- the ascending list is as long as its set counts
ascending_length : (n : ℕ) (f : Set) → length (ascending n f) ≡ count n f
unfolding ascending count
ascending_length zero f = refl
ascending_length (suc n) f = let rest = ascending_length n f in grind (arith, nat_tests, length-append)

-- a union counts as many as one part and what the other has beyond it
count_union : (n : ℕ) (f g : Set) → count n (f ∪ g) ≡ count n f + count n (g ∖ f)
unfolding count
count_union zero f g = refl
count_union (suc n) f g = let rest = count_union n f g in grind (arith, nat_tests)

-- ---- a sheet with the messages of a, on which those of b that are not there are written too
module _ (sheets : List ℕ) (node a b : ℕ) where
  -- the sheets then
  abbrev pub grown : List ℕ
  grown = put sheets (64 * node + ones a) (members (minus b a) 64)

  -- the sheets stay as long
  pub grown_length : length grown ≡ length sheets
  grown_length = put_length sheets (64 * node + ones a) (members (minus b a) 64)

  module _ (small-a : a < 2 ^ 64) (small_b : b < 2 ^ 64) where
    -- what is written, in order
    written : members (minus b a) 64 ≡ ascending 64 (has b ∖ has a)
    written = members_ascending (minus b a) 64 ∙ ap (ascending 64) (set_minus b a small_b small-a)

    -- the used part is longer by that
    longer : ones (bit_or a b) ≡ ones a + length (members (minus b a) 64)
    longer =
        ones_count 64 (bit_or a b) (or_lt 64 a b small-a small_b)
        ∙ ap (count 64) (set_or a b) ∙ count_union 64 (has a) (has b)
        ∙ sym (ap (λ k. k + length (members (minus b a) 64)) (ones_count 64 a small-a)
        ∙ ap (λ k. count 64 (has a) + k) (ap length written ∙ ascending_length 64 (has b ∖ has a)))

    -- and fits in 64 places
    pub fits : ones a + length (members (minus b a) 64) ≤ 64
    fits = omega (arith, longer, ones_count 64 (bit_or a b) (or_lt 64 a b small-a small_b), count_le 64 (has (bit_or a b)))

    -- the sheet of that node has grown by what is written
    pub grown_here : node < 7 → length sheets ≡ 448
        → take (ones (bit_or a b)) (drop (64 * node) grown)
        ≡ take (ones a) (drop (64 * node) sheets) ++ ascending 64 (has b ∖ has a)
    grown_here l e =
        ap (λ k. take k (drop (64 * node) grown)) longer
        ∙ put_behind sheets (64 * node) (ones a) (members (minus b a) 64) (omega (arith, l, e, fits))
        ∙ ap (λ ys. take (ones a) (drop (64 * node) sheets) ++ ys) written

    -- any other node's sheet stays
    pub grown_elsewhere : (x n : ℕ) → (x ≡ node → ⊥) → n ≤ 64 → take n (drop (64 * x) grown) ≡ take n (drop (64 * x) sheets)
    grown_elsewhere x n d h = put_away sheets (64 * node + ones a) (members (minus b a) 64) (64 * x) n (elim (cases_lt x node) [
      | inl l ↦ inr (omega (arith, l, h))
      | inr l ↦ inl (omega (arith, l, d, fits))
    ])
