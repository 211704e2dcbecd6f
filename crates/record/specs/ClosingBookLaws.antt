-- The laws of a closing book, from those of the record below.
use Rattle.std.specs.Prelude.{◌≡◌, ℕ, suc, Bool, true, false, cond, List, [], ◌∷◌, length, ◌==◌, nat_eq, nat_le, refl}
use Rattle.std.proofs.Common.{arith, ap, ⊎_elim}
use Rattle.std.proofs.lemmas.Bool.Decides.{nat_tests}
use Rattle.std.proofs.lemmas.Bool.{and_parts, and_from, cases_Bool, false≢true}
use Rattle.record.specs.Kind.{Kind, Laws}
use Rattle.record.specs.ClosingBook.{closes, turns, closing_lawful, closing_after, closing_tells, closing_kind}
use Rattle.record.specs.declared.command.Command.{Command}

module _ (K : Kind) (p : Laws K) where
  sized : (l : List ℕ) → closing_tells K l ≡ true → length l ≡ suc K.taking.size
  sized [] e = absurd (false≢true e)
  sized (s ∷ l) e = ap suc (p.steady.sized l (and_parts (nat_le s 1) (K.taking.tells l) e).1)

  -- the book after a command, by what the command is and whether the book is open
  still : (turn close live : Bool) (s : ℕ) (l m : List ℕ) → nat_le s 1 ≡ true → K.taking.tells l ≡ true →
      (turn ≡ false → K.taking.tells m ≡ true) →
      closing_tells K (cond turn (cond close 1 0 ∷ l) (cond live (s ∷ m) (s ∷ l))) ≡ true
  still true true live s l m a b below = b
  still true false live s l m a b below = b
  still false close true s l m a b below = and_from (nat_le s 1) (K.taking.tells m) a (below refl)
  still false close false s l m a b below = and_from (nat_le s 1) (K.taking.tells l) a b

  keeps : (l : List ℕ) (c : Command) → closing_tells K l ≡ true → closing_lawful K c ≡ true →
      closing_tells K (closing_after K l c) ≡ true
  keeps [] c e m = absurd (false≢true e)
  keeps (s ∷ l) c e m =
      let h = and_parts (nat_le s 1) (K.taking.tells l) e in
      still (turns c) (closes c) (s == 0) s l (K.taking.after l c) h.0 h.1
      (λ (t : turns c ≡ false). p.steady.keeps l c h.1 (rw t at m))

  -- where neither command turns the book, both go below or neither
  commute : (l : List ℕ) (c d : Command) → closing_tells K l ≡ true → turns c ≡ false → turns d ≡ false →
      K.taking.lawful c ≡ true → K.taking.lawful d ≡ true → K.conflicts c d ≡ false →
      closing_after K (closing_after K l c) d ≡ closing_after K (closing_after K l d) c
  commute [] c d e t u m n h = refl
  commute (s ∷ l) c d e t u m n h =
      let k = (and_parts (nat_le s 1) (K.taking.tells l) e).1 in
      ⊎_elim
      (λ (z : nat_eq s 0 ≡ true). simp (t, u, z) (ap (λ (x : List ℕ). s ∷ x) (p.commute l c d k m n h)))
      (λ (z : nat_eq s 0 ≡ false). simp (t, u, z))
      (cases_Bool (s == 0))

  pub closing_laws : Laws (closing_kind K)
  closing_laws = record {
    steady = record { something = omega arith; starts = p.steady.starts; sized = sized; keeps = keeps };
    symmetric = λ c d. let below = p.symmetric c d in grind (arith, nat_tests);
    unlawful = λ c d e. let below = p.unlawful c d in grind (arith, nat_tests);
    commute = λ l c d e m n h.
        let a : turns c ≡ false = grind (arith, nat_tests) in
        let b : turns d ≡ false = grind (arith, nat_tests) in
        commute l c d e a b (rw a at m) (rw b at n) (grind (arith, nat_tests));
  }
