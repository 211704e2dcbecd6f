-- Playing a sheet into a record.
use Rattle.std.specs.Prelude.{◌≡◌, ℕ, Bool, not, ◌&&◌, List, [], ◌∷◌, length, drop, None, Option, Result, nat_lt}
use Rattle.std.specs.List.{list_all}
use Rattle.record.specs.Kind.{Kind}
use Rattle.record.specs.declared.command.Command.{Command}
use Rattle.rows.specs.Causes.{refuse, first, answer, unless}
use Rattle.rows.specs.Conflicts.{command_of}
use Rattle.rows.specs.declared.refusal.Refusal.{Refusal}
use Rattle.rows.specs.declared.refusal.Refusal.TheVariants.{MarkBeyondSheet, Unplayable}
use Rattle.ring.specs.World.{World}
use Rattle.ring.specs.Show.{sheet_of, show_refusal}

-- an entry that names a broadcast message with a lawful command
abbrev pub playable : Kind → List Command → ℕ → ℕ → Bool
playable K book messages m = nat_lt m messages && K.taking.lawful (command_of book m)

-- all entries do
abbrev pub all_playable : Kind → List Command → ℕ → List ℕ → Bool
all_playable K book messages ms = list_all (playable K book messages) ms

-- the list that the commands of the entries make of a list, one after the other
abbrev pub played : Kind → List Command → List ℕ → List ℕ → List ℕ
played K book l [] = l
played K book l (m ∷ ms) = played K book (K.taking.after l (command_of book m)) ms

-- the entries of the sheet from the mark on
abbrev pub since : World → ℕ → ℕ → List ℕ
since w node mark = drop mark (sheet_of w node)

-- 4, 7, 8, 23, 22
abbrev pub catch_up_refusal : Kind → World → ℕ → ℕ → Option Refusal
catch_up_refusal K w node mark =
    first (show_refusal w node)
    (refuse (nat_lt (length (sheet_of w node)) mark) MarkBeyondSheet
    (refuse (not (all_playable K w.book w.ring.messages (since w node mark))) Unplayable None))

-- Catching up from a mark: its answer, the new mark, and the told list l' that it makes of the told list l.
abbrev pub CatchesUp : Kind → World → ℕ → ℕ → Result ℕ Refusal → List ℕ → List ℕ → Type 0
CatchesUp K w node mark r l l' =
    (r ≡ answer (catch_up_refusal K w node mark) (length (sheet_of w node)))
    × (l' ≡ unless (catch_up_refusal K w node mark) (played K w.book l (since w node mark)) l)
