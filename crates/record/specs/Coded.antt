-- A kind whose lists are the codes of states: for records whose state is more than a list of numbers.
use Rattle.std.specs.Prelude.{◌≡◌, ℕ, ◌≤◌, Bool, true, false, ◌&&◌, List, [], ◌∷◌, length, ◌==◌}
use Rattle.record.specs.Kind.{Taking, Kind}
use Rattle.record.specs.declared.command.Command.{Command}

-- equal lists of numbers
abbrev pub same : List ℕ → List ℕ → Bool
same [] [] = true
same [] (y ∷ ys) = false
same (x ∷ xs) [] = false
same (x ∷ xs) (y ∷ ys) = x == y && same xs ys

-- States, how one is told and read back, and what a command makes of one.
pub record Machine (S : Type 0) : Type 0 where
  pub width : ℕ
  pub start : S
  pub valid : S → Bool
  pub encode : S → List ℕ
  pub decode : List ℕ → S
  pub lawful : Command → Bool
  pub conflicts : Command → Command → Bool
  pub step : S → Command → S

-- the lists that can be told are the codes of valid states
abbrev pub coded_tells : {S : Type 0} → Machine S → List ℕ → Bool
coded_tells M l = M.valid (M.decode l) && same (M.encode (M.decode l)) l

abbrev pub coded_taking : {S : Type 0} → Machine S → Taking
coded_taking M = record {
  size = M.width;
  first = M.encode M.start;
  tells = coded_tells M;
  lawful = M.lawful;
  after = λ l c. M.encode (M.step (M.decode l) c);
}

abbrev pub coded : {S : Type 0} → Machine S → Kind
coded M = record { taking = coded_taking M; conflicts = M.conflicts }

-- What a machine has to show for its kind to keep the laws of records.
pub record Runs {S : Type 0} (M : Machine S) : Type 0 where
  pub something : 1 ≤ M.width
  pub starts : M.valid M.start ≡ true
  pub back : (s : S) → M.valid s ≡ true → M.decode (M.encode s) ≡ s
  pub long : (s : S) → M.valid s ≡ true → length (M.encode s) ≡ M.width
  pub holds : (s : S) (c : Command) → M.valid s ≡ true → M.lawful c ≡ true → M.valid (M.step s c) ≡ true
  pub symmetric : (c d : Command) → M.conflicts c d ≡ M.conflicts d c
  pub unlawful : (c d : Command) → M.lawful c ≡ false → M.conflicts c d ≡ true
  pub commute : (s : S) (c d : Command) → M.valid s ≡ true → M.lawful c ≡ true → M.lawful d ≡ true →
      M.conflicts c d ≡ false → M.step (M.step s c) d ≡ M.step (M.step s d) c
