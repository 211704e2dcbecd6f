-- A machine that runs gives a kind that keeps the laws of records.
use Rattle.std.specs.Prelude.{◌≡◌, ℕ, true, List, [], ◌∷◌, length, ◌==◌, refl}
use Rattle.std.proofs.Common.{ap, ◌∙◌, sym}
use Rattle.std.proofs.lemmas.Bool.{and_parts, and_from, eqb-true, eq-eqb, false≢true}
use Rattle.record.specs.Kind.{Laws}
use Rattle.record.specs.Coded.{same, Machine, coded_tells, coded, Runs}
use Rattle.record.specs.declared.command.Command.{Command}

same_self : (l : List ℕ) → same l l ≡ true
same_self [] = refl
same_self (x ∷ l) = and_from (x == x) (same l l) (eq-eqb x x refl) (same_self l)

same_equal : (l m : List ℕ) → same l m ≡ true → l ≡ m
same_equal [] [] e = refl
same_equal [] (y ∷ m) e = absurd (false≢true e)
same_equal (x ∷ l) [] e = absurd (false≢true e)
same_equal (x ∷ l) (y ∷ m) e =
    let h = and_parts (x == y) (same l m) e in
    ap (λ (z : ℕ). z ∷ l) (eqb-true x y h.0) ∙ ap (λ (z : List ℕ). y ∷ z) (same_equal l m h.1)

-- the code of a valid state that is read back can be told
pub code_tells : {S : Type 0} (M : Machine S) (s : S) → M.decode (M.encode s) ≡ s → M.valid s ≡ true →
    coded_tells M (M.encode s) ≡ true
code_tells M s b v =
    and_from (M.valid (M.decode (M.encode s))) (same (M.encode (M.decode (M.encode s))) (M.encode s))
    (ap M.valid b ∙ v) (ap (λ z. same (M.encode z) (M.encode s)) b ∙ same_self (M.encode s))

module _ {S : Type 0} (M : Machine S) (r : Runs M) where
  parts : (l : List ℕ) → coded_tells M l ≡ true →
      (M.valid (M.decode l) ≡ true) × (same (M.encode (M.decode l)) l ≡ true)
  parts l e = and_parts (M.valid (M.decode l)) (same (M.encode (M.decode l)) l) e

  sized : (l : List ℕ) → coded_tells M l ≡ true → length l ≡ M.width
  sized l e =
      let h = parts l e in
      ap length (sym (same_equal (M.encode (M.decode l)) l h.1)) ∙ r.long (M.decode l) h.0

  -- the state after two commands is read back from the list after the first
  two_steps : (s : S) (c d : Command) → M.valid s ≡ true → M.lawful c ≡ true →
      M.encode (M.step (M.decode (M.encode (M.step s c))) d) ≡ M.encode (M.step (M.step s c) d)
  two_steps s c d v p = ap (λ (z : S). M.encode (M.step z d)) (r.back (M.step s c) (r.holds s c v p))

  pub coded_laws : Laws (coded M)
  coded_laws = record {
    steady = record {
      something = r.something;
      starts = code_tells M M.start (r.back M.start r.starts) r.starts;
      sized = sized;
      keeps = λ l c e p.
          let v = r.holds (M.decode l) c (parts l e).0 p in
          let s = M.step (M.decode l) c in
          code_tells M s (r.back s v) v;
    };
    symmetric = r.symmetric;
    unlawful = r.unlawful;
    commute = λ l c d e p q n.
        let v = (parts l e).0 in
        let s = M.decode l in
        two_steps s c d v p ∙ ap M.encode (r.commute s c d v p q n) ∙ sym (two_steps s d c v q);
  }
