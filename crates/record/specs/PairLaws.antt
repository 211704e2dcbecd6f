-- The laws of two records side by side, from the laws of each.
use Rattle.std.specs.Prelude.{◌≡◌, ℕ, ◌+◌, true, false, List, ◌++◌, length}
use Rattle.std.proofs.Common.{arith, ap, ◌∙◌, sym, subst, ⊎_elim, take-append-drop, length-append}
use Rattle.std.proofs.lemmas.Bool.Decides.{nat_tests}
use Rattle.std.proofs.lemmas.List.{take_at, drop_at}
use Rattle.std.proofs.lemmas.Bool.{and_parts, and_from, cases_Bool}
use Rattle.record.specs.Kind.{Kind, Laws}
use Rattle.record.specs.Pair.{is_left, at_side, left_part, right_part, pair_lawful, pair_after}
use Rattle.record.specs.Pair.{pair_tells, pair_kind}
use Rattle.record.specs.declared.command.Command.{Command}

-- a told list of the left, and what stands behind it
module _ (L R : Kind) (a b : List ℕ) (n : length a ≡ L.taking.size) where
  pub both_tell : L.taking.tells a ≡ true → R.taking.tells b ≡ true → pair_tells L R (a ++ b) ≡ true
  both_tell p q =
      rw (take_at a b L.taking.size n, drop_at a b L.taking.size n)
      (and_from (L.taking.tells a) (R.taking.tells b) p q)

  left_after : (c : Command) → is_left c ≡ true → pair_after L R (a ++ b) c ≡ L.taking.after a (at_side c) ++ b
  left_after c e = simp (e, take_at a b L.taking.size n, drop_at a b L.taking.size n)

  right_after : (c : Command) → is_left c ≡ false → pair_after L R (a ++ b) c ≡ a ++ R.taking.after b (at_side c)
  right_after c e = simp (e, take_at a b L.taking.size n, drop_at a b L.taking.size n)

module _ (L R : Kind) (p : Laws L) (q : Laws R) where
  -- a list that the pair can tell, in its two parts
  parts : (l : List ℕ) → pair_tells L R l ≡ true →
      (L.taking.tells (left_part L l) ≡ true) × (R.taking.tells (right_part L l) ≡ true)
  parts l e = and_parts (L.taking.tells (left_part L l)) (R.taking.tells (right_part L l)) e

  sized : (l : List ℕ) → pair_tells L R l ≡ true → length l ≡ L.taking.size + R.taking.size
  sized l e =
      let f = parts l e in
      let i = p.steady.sized (left_part L l) f.0 in
      let j = q.steady.sized (right_part L l) f.1 in
      ap length (sym (take-append-drop L.taking.size l)) ∙ length-append (left_part L l) (right_part L l) ∙ omega arith

  starts : pair_tells L R (L.taking.first ++ R.taking.first) ≡ true
  starts =
      both_tell L R L.taking.first R.taking.first (p.steady.sized L.taking.first p.steady.starts)
      p.steady.starts q.steady.starts

  -- two commands for one side do not conflict there
  abbrev ApartOnSides : Command → Command → Type 0
  ApartOnSides c d =
      (is_left c ≡ true → is_left d ≡ true → L.conflicts (at_side c) (at_side d) ≡ false)
      × (is_left c ≡ false → is_left d ≡ false → R.conflicts (at_side c) (at_side d) ≡ false)

  -- lists that the two sides can tell
  module _ (a b : List ℕ) (f : L.taking.tells a ≡ true) (g : R.taking.tells b ≡ true) where
    as_long : length a ≡ L.taking.size
    as_long = p.steady.sized a f

    still_left : (c : Command) → is_left c ≡ true → pair_lawful L R c ≡ true →
        L.taking.tells (L.taking.after a (at_side c)) ≡ true
    still_left c e m = p.steady.keeps a (at_side c) f (rw e at m)

    still_right : (c : Command) → is_left c ≡ false → pair_lawful L R c ≡ true →
        R.taking.tells (R.taking.after b (at_side c)) ≡ true
    still_right c e m = q.steady.keeps b (at_side c) g (rw e at m)

    keeps_parts : (c : Command) → pair_lawful L R c ≡ true → pair_tells L R (pair_after L R (a ++ b) c) ≡ true
    keeps_parts c m =
        ⊎_elim
        (λ (e : is_left c ≡ true).
        let k = still_left c e m in
        rw (left_after L R a b as_long c e) (both_tell L R _ b (p.steady.sized _ k) k g))
        (λ (e : is_left c ≡ false).
        rw (right_after L R a b as_long c e) (both_tell L R a _ as_long f (still_right c e m)))
        (cases_Bool (is_left c))

    both_left : (c d : Command) → is_left c ≡ true → is_left d ≡ true → pair_lawful L R c ≡ true →
        pair_after L R (pair_after L R (a ++ b) c) d ≡ L.taking.after (L.taking.after a (at_side c)) (at_side d) ++ b
    both_left c d e u m =
        ap (λ (x : List ℕ). pair_after L R x d) (left_after L R a b as_long c e)
        ∙ left_after L R (L.taking.after a (at_side c)) b (p.steady.sized _ (still_left c e m)) d u

    both_right : (c d : Command) → is_left c ≡ false → is_left d ≡ false →
        pair_after L R (pair_after L R (a ++ b) c) d ≡ a ++ R.taking.after (R.taking.after b (at_side c)) (at_side d)
    both_right c d e u =
        ap (λ (x : List ℕ). pair_after L R x d) (right_after L R a b as_long c e)
        ∙ right_after L R a (R.taking.after b (at_side c)) as_long d u

    left_then_right : (c d : Command) → is_left c ≡ true → is_left d ≡ false → pair_lawful L R c ≡ true →
        pair_after L R (pair_after L R (a ++ b) c) d ≡ L.taking.after a (at_side c) ++ R.taking.after b (at_side d)
    left_then_right c d e u m =
        ap (λ (x : List ℕ). pair_after L R x d) (left_after L R a b as_long c e)
        ∙ right_after L R (L.taking.after a (at_side c)) b (p.steady.sized _ (still_left c e m)) d u

    right_then_left : (c d : Command) → is_left c ≡ true → is_left d ≡ false →
        pair_after L R (pair_after L R (a ++ b) d) c ≡ L.taking.after a (at_side c) ++ R.taking.after b (at_side d)
    right_then_left c d e u =
        ap (λ (x : List ℕ). pair_after L R x c) (right_after L R a b as_long d u)
        ∙ left_after L R a (R.taking.after b (at_side d)) as_long c e

    -- two sides never meet; on one side, its own law serves
    parts_commute : (c d : Command) → pair_lawful L R c ≡ true → pair_lawful L R d ≡ true → ApartOnSides c d →
        pair_after L R (pair_after L R (a ++ b) c) d ≡ pair_after L R (pair_after L R (a ++ b) d) c
    parts_commute c d m n h =
        ⊎_elim
        (λ (e : is_left c ≡ true).
        ⊎_elim
        (λ (u : is_left d ≡ true).
        both_left c d e u m
        ∙ ap (λ (x : List ℕ). x ++ b) (p.commute a (at_side c) (at_side d) f (rw e at m) (rw u at n) (h.0 e u))
        ∙ sym (both_left d c u e n))
        (λ (u : is_left d ≡ false). left_then_right c d e u m ∙ sym (right_then_left c d e u))
        (cases_Bool (is_left d)))
        (λ (e : is_left c ≡ false).
        ⊎_elim
        (λ (u : is_left d ≡ true). right_then_left d c u e ∙ sym (left_then_right d c u e n))
        (λ (u : is_left d ≡ false).
        both_right c d e u
        ∙ ap (λ (x : List ℕ). a ++ x) (q.commute b (at_side c) (at_side d) g (rw e at m) (rw u at n) (h.1 e u))
        ∙ sym (both_right d c u e))
        (cases_Bool (is_left d)))
        (cases_Bool (is_left c))

  keeps : (l : List ℕ) (c : Command) → pair_tells L R l ≡ true → pair_lawful L R c ≡ true →
      pair_tells L R (pair_after L R l c) ≡ true
  keeps l c e m =
      let f = parts l e in
      subst (λ (x : List ℕ). pair_tells L R (pair_after L R x c) ≡ true) (take-append-drop L.taking.size l)
      (keeps_parts (left_part L l) (right_part L l) f.0 f.1 c m)

  commute : (l : List ℕ) (c d : Command) → pair_tells L R l ≡ true → pair_lawful L R c ≡ true →
      pair_lawful L R d ≡ true → ApartOnSides c d →
      pair_after L R (pair_after L R l c) d ≡ pair_after L R (pair_after L R l d) c
  commute l c d e m n h =
      let f = parts l e in
      subst (λ (x : List ℕ). pair_after L R (pair_after L R x c) d ≡ pair_after L R (pair_after L R x d) c)
      (take-append-drop L.taking.size l)
      (parts_commute (left_part L l) (right_part L l) f.0 f.1 c d m n h)

  pub pair_laws : Laws (pair_kind L R)
  pair_laws = record {
    steady = record {
      something = let h = p.steady.something in omega arith;
      starts = starts;
      sized = sized;
      keeps = keeps;
    };
    symmetric = λ c d.
        let left = p.symmetric (at_side c) (at_side d) in
        let right = q.symmetric (at_side c) (at_side d) in
        grind (arith, nat_tests);
    unlawful = λ c d e. rw e;
    commute = λ l c d e m n h. commute l c d e m n (λ x y. grind (arith, nat_tests), λ x y. grind (arith, nat_tests));
  }
