-- The tables of a node by itself, and which sizes they may have.
use Rattle.std.specs.Prelude.{◌≡◌, ℕ, Bool, true, false, not, ◌||◌, List, length, None, Ok, Err, Option, Result, ◌==◌}
use Rattle.record.specs.declared.command.Command.{Command}
use Rattle.rows.specs.Causes.{refuse}
use Rattle.rows.specs.declared.letter.Letter.{Letter}
use Rattle.rows.specs.declared.refusal.Refusal.{Refusal}
use Rattle.rows.specs.declared.refusal.Refusal.TheVariants.{WrongTableSize}
use Rattle.node.specs.declared.tables.NodeTables.{NodeTables}

-- What is lent to a call of a node: the book of the commands of all messages, who broadcast each of them (255: nobody
-- yet), the letters that a sending writes over, and the node's sheet.
pub record Lent : Type 0 where
  pub book : List Command
  pub broadcasters : List ℕ
  pub letters : List Letter
  pub sheet : List ℕ

abbrev pub lent : List Command → List ℕ → List Letter → List ℕ → Lent
lent book broadcasters letters sheet = record {
  book = book;
  broadcasters = broadcasters;
  letters = letters;
  sheet = sheet;
}

-- what stands in the tables
abbrev pub lent_in : NodeTables → Lent
lent_in t = lent t.book.now t.broadcasters.now t.letters.now t.sheet.now

-- a call gives back the very tables that were lent to it
abbrev pub StillLent : NodeTables → NodeTables → Type 0
StillLent t u =
    (u.book ≡ t.book) × (u.broadcasters ≡ t.broadcasters)
    × (u.letters.ghost_name ≡ t.letters.ghost_name) × (u.sheet.ghost_name ≡ t.sheet.ghost_name)

-- ---- sizes

-- the sizes that tables may not have in a ring of n nodes: 64 commands and 64 broadcasters, n letters, 64 bytes of sheet
abbrev pub wrong_sizes : ℕ → ℕ → ℕ → ℕ → ℕ → Bool
wrong_sizes n book broadcasters letters sheet =
    (not (book == 64) || not (broadcasters == 64)) || (not (letters == n) || not (sheet == 64))

-- 4
abbrev pub table_refusal : ℕ → Lent → Option Refusal
table_refusal n t =
    refuse (wrong_sizes n (length t.book) (length t.broadcasters) (length t.letters) (length t.sheet)) WrongTableSize None

-- what the test for it answers
abbrev pub Fits : ℕ → ℕ → ℕ → ℕ → ℕ → Result (Unit {0}) Refusal → Type 0
Fits n book broadcasters letters sheet (Ok u) = wrong_sizes n book broadcasters letters sheet ≡ false
Fits n book broadcasters letters sheet (Err e) =
    (wrong_sizes n book broadcasters letters sheet ≡ true) × (e ≡ WrongTableSize)
