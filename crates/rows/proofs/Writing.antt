-- What a loop over places and members writes.
use Rattle.std.proofs.Common.{◌≡◌, ℕ, zero, suc, ◌+◌, ◌-◌, ◌<◌, ◌≤◌, cond, filter, List, [], ◌∷◌, ◌++◌, length, map, set, sym}
use Rattle.std.proofs.Common.{refl, ap, ◌∙◌}
use Rattle.std.proofs.Common.{Some, None, Option, subst, add-one, zero-add, arith}
use Rattle.std.specs.List.{zip, range_with_len}
use Rattle.std.specs.Iterator.{AlwaysYields}
use Rattle.rows.specs.Masks.{has, members, put}
use Rattle.rows.proofs.Masks.{members_more, members_none}
use Rattle.std.proofs.lemmas.List.{set_past, length-set, map-id}
use Rattle.std.proofs.lemmas.List.FromFn.{filter_of_map_range_with_len_more}

-- pairs of a place and what goes there, written in turn
abbrev pub writes : List ℕ → List (ℕ × ℕ) → List ℕ
writes xs [] = xs
writes xs (z ∷ zs) = writes (set xs z.0 z.1) zs

-- nothing is written beyond the end
put_past : (xs : List ℕ) (place : ℕ) (ys : List ℕ) → length xs ≤ place → put xs place ys ≡ xs
put_past xs place [] h = refl
put_past xs place (y ∷ ys) h = ap (λ l. put l (place + 1) ys) (set_past xs place y h) ∙ put_past xs (place + 1) ys (omega arith)

-- to write a list from a place on is to write each at the next place that there is
pub writes_zip : (xs : List ℕ) (place n : ℕ) (ys : List ℕ) → n ≡ length xs - place
    → writes xs (zip (range_with_len place n) ys) ≡ put xs place ys
writes_zip xs place zero ys e = sym (put_past xs place ys (omega arith))
writes_zip xs place (suc n) [] e = refl
writes_zip xs place (suc n) (y ∷ ys) e =
    let kept : length (set xs place y) ≡ length xs = length-set xs place y in
    writes_zip (set xs place y) (place + 1) n ys (omega arith)

-- each of the places is one of the first k
abbrev pub inside : ℕ → List (ℕ × ℕ) → Type 0
inside k [] = Unit {0}
inside k (z ∷ zs) = (z.0 < k) × inside k zs

pub inside_zip : (k place n : ℕ) (ys : List ℕ) → n ≡ k - place → inside k (zip (range_with_len place n) ys)
inside_zip k place zero ys e = tt
inside_zip k place (suc n) [] e = tt
inside_zip k place (suc n) (y ∷ ys) e = (omega arith, inside_zip k (place + 1) n ys (omega arith))

-- the members as a chain gives them
pub members_chain : (x k : ℕ) → filter (has x) (range_with_len 0 k) ≡ members x k
members_chain x zero = sym (members_none x)
members_chain x (suc k) =
    let plain : (n : ℕ) → filter (has x) (map (λ (i : ℕ). i) (range_with_len 0 n)) ≡ filter (has x) (range_with_len 0 n) =
    λ n. ap (filter (has x)) (map-id (range_with_len 0 n)) in
    let more = filter_of_map_range_with_len_more (has x) (λ (i : ℕ). i) 0 k k (zero-add k) in
    let e : filter (has x) (range_with_len 0 (k + 1)) ≡ members x (k + 1) =
    sym (plain (k + 1)) ∙ more ∙ ap (λ l. l ++ cond (has x k) (k ∷ []) []) (plain k ∙ members_chain x k)
    ∙ sym (members_more x k) in
    rw add-one at e

-- what the turns of a loop over such pairs still write, so that the list becomes the one that is wanted
module _ {S : Type 0} (steps : S → Option (ℕ × ℕ) → S → Type 0) where
  abbrev pub Writes : S → ℕ → List ℕ → List ℕ → Type 0
  Writes s k xs wanted = (zs : List (ℕ × ℕ)) × AlwaysYields steps (λ z. z) s zs × inside k zs × (writes xs zs ≡ wanted)

  -- one turn
  pub one_turn : (s t : S) (k : ℕ) (xs wanted : List ℕ) (z : ℕ × ℕ) → Writes s k xs wanted → steps s (Some z) t
      → (z.0 < k) × Writes t k (set xs z.0 z.1) wanted
  one_turn s t k xs wanted z ([], y, i, w) e = absurd (y z t e)
  one_turn s t k xs wanted z (z' ∷ zs, y, i, w) e =
      let next = y.1 z t e in
      let P : ℕ × ℕ → Type 0 = λ p. (p.0 < k) × Writes t k (set xs p.0 p.1) wanted in
      subst P (sym next.0) (i.0, (zs, next.1, i.1, w))

  -- the end
  pub no_turn : (s t : S) (k : ℕ) (xs wanted : List ℕ) → Writes s k xs wanted → steps s None t → xs ≡ wanted
  no_turn s t k xs wanted ([], y, i, w) e = w
  no_turn s t k xs wanted (z ∷ zs, y, i, w) e = absurd (y.0 t e)
