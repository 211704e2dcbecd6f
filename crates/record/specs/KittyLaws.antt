-- The laws of the kitty.
use Rattle.std.specs.Prelude.{◌≡◌, ℕ, ◌+◌, min, true, List, [], ◌∷◌, length, nat_le, refl}
use Rattle.std.proofs.Common.{arith, ap}
use Rattle.std.proofs.lemmas.Bool.Decides.{nat_tests}
use Rattle.std.proofs.lemmas.Bool.{false≢true}
use Rattle.record.specs.Kind.{Laws}
use Rattle.record.specs.Kitty.{pays, whole, balance_after, kitty_after, kitty_tells, kitty_kind}
use Rattle.record.specs.declared.command.Command.{Command}

sized : (l : List ℕ) → kitty_tells l ≡ true → length l ≡ 1
sized [] e = absurd (false≢true e)
sized (b ∷ []) e = refl
sized (b ∷ (x ∷ l)) e = absurd (false≢true e)

bounded : (b : ℕ) (c : Command) → nat_le b 4294967295 ≡ true → nat_le (balance_after b c) 4294967295 ≡ true
bounded b c e = grind (arith, nat_tests)

keeps : (l : List ℕ) (c : Command) → kitty_tells l ≡ true → kitty_tells (kitty_after l c) ≡ true
keeps [] c e = e
keeps (b ∷ []) c e = bounded b c e
keeps (b ∷ (x ∷ l)) c e = e

-- two payments meet the largest balance in either order
paid_twice : (b x y : ℕ) → min (min (b + x) 4294967295 + y) 4294967295 ≡ min (min (b + y) 4294967295 + x) 4294967295
paid_twice b x y = omega arith

payments_commute : (l : List ℕ) (c d : Command) → pays c ≡ true → pays d ≡ true →
    kitty_after (kitty_after l c) d ≡ kitty_after (kitty_after l d) c
payments_commute [] c d p q = refl
payments_commute (b ∷ l) c d p q =
    let e : balance_after (balance_after b c) d ≡ balance_after (balance_after b d) c =
    simp (p, q) (paid_twice b (whole c.amount) (whole d.amount)) in
    ap (λ (x : ℕ). x ∷ l) e

pub kitty_laws : Laws kitty_kind
kitty_laws = record {
  steady = record { something = omega arith; starts = refl; sized = sized; keeps = λ l c e p. keeps l c e };
  symmetric = λ c d. grind (arith, nat_tests);
  unlawful = λ c d e. rw e;
  -- commands that do not conflict both pay in
  commute = λ l c d e p q n. payments_commute l c d (grind (arith, nat_tests)) (grind (arith, nat_tests));
}
