-- Conflicts among the messages of a set.
use Rattle.std.specs.Prelude.{◌≡◌, ℕ, Bool, true, false, not, ◌&&◌, List, pos, Some, None, Option, ◌==◌, slice_index_or}
use Rattle.record.specs.declared.command.Command.{Command}
use Rattle.rows.specs.Masks.{has, any}

-- an empty place of the book, and what stands beyond it
abbrev pub no_command : Command
no_command = record { verb = 0; subject = 0; day = 0; amount = pos 0 }

-- the command of message m
abbrev pub command_of : List Command → ℕ → Command
command_of book m = slice_index_or book m no_command

-- i and j are two different messages of the set x, and their commands conflict
abbrev pub clash : (Command → Command → Bool) → List Command → ℕ → ℕ → ℕ → Bool
clash conflicts book x i j =
    (has x i && has x j) && (not (i == j) && conflicts (command_of book i) (command_of book j))

-- whether some message of the set conflicts with i
abbrev pub clashes_with : (Command → Command → Bool) → List Command → ℕ → ℕ → Bool
clashes_with conflicts book x i = any (clash conflicts book x i) 64

-- whether two different messages of the set conflict
abbrev pub conflicted : (Command → Command → Bool) → List Command → ℕ → Bool
conflicted conflicts book x = any (clashes_with conflicts book x) 64

-- what the search for a conflict answers: any such pair, or none where there is none
abbrev pub Found : (Command → Command → Bool) → List Command → ℕ → Option (ℕ × ℕ) → Type 0
Found conflicts book x (Some p) = (conflicted conflicts book x ≡ true) × (clash conflicts book x p.0 p.1 ≡ true)
Found conflicts book x None = conflicted conflicts book x ≡ false
