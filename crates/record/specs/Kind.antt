-- What a kind of record means, and the laws that every kind keeps.
use Rattle.std.specs.Prelude.{◌≡◌, ℕ, ◌≤◌, Bool, true, false, List, length, Ok, Err, Result}
use Rattle.record.specs.declared.command.Command.{Command}
use Rattle.record.specs.declared.command.Unlawful.{Unlawful}
use Rattle.record.specs.Command.{number_of}

-- How commands are taken: how many numbers are told, which list at first, which lists at all, which
-- commands are lawful, and the list that a lawful command makes of a list.
pub record Taking : Type 0 where
  pub size : ℕ
  pub first : List ℕ
  pub tells : List ℕ → Bool
  pub lawful : Command → Bool
  pub after : List ℕ → Command → List ℕ

-- A kind of record: how it takes commands, and which two commands conflict.
pub record Kind : Type 0 where
  pub taking : Taking
  pub conflicts : Command → Command → Bool

-- Something is told, in lists of one length, from the first list on.
pub record Steady (T : Taking) : Type 0 where
  pub something : 1 ≤ T.size
  pub starts : T.tells T.first ≡ true
  pub sized : (l : List ℕ) → T.tells l ≡ true → length l ≡ T.size
  pub keeps : (l : List ℕ) (c : Command) → T.tells l ≡ true → T.lawful c ≡ true → T.tells (T.after l c) ≡ true

-- Conflict is mutual; an unlawful command conflicts with every command; two lawful commands that do
-- not conflict lead from any list that can be told to one list, whichever comes first.
pub record Laws (K : Kind) : Type 0 where
  pub steady : Steady K.taking
  pub symmetric : (c d : Command) → K.conflicts c d ≡ K.conflicts d c
  pub unlawful : (c d : Command) → K.taking.lawful c ≡ false → K.conflicts c d ≡ true
  pub commute : (l : List ℕ) (c d : Command) → K.taking.tells l ≡ true →
      K.taking.lawful c ≡ true → K.taking.lawful d ≡ true → K.conflicts c d ≡ false →
      K.taking.after (K.taking.after l c) d ≡ K.taking.after (K.taking.after l d) c

-- A lawful command is taken and makes the next list; an unlawful one gets 10 and leaves the list.
abbrev pub Taken : Taking → Command → Result (Unit {0}) Unlawful → List ℕ → List ℕ → Type 0
Taken T c (Ok u) l m = (T.lawful c ≡ true) × (m ≡ T.after l c)
Taken T c (Err e) l m = (T.lawful c ≡ false) × (number_of e ≡ 10) × (m ≡ l)
