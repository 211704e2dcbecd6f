-- What is answered to lines of commands, and what they make of a record.
use Rattle.std.specs.Prelude.{◌≡◌, ℕ, ◌+◌, cond, List, [], ◌∷◌, ◌++◌, Some, None, Ok, Err, codes, decimal, Option, Result}
use Rattle.record.specs.Command.{number_of}
use Rattle.record.specs.Kind.{Taking, Taken}
use Rattle.record.specs.declared.command.Command.{Command}
use Rattle.record.specs.declared.command.Unlawful.{Unlawful}
use Rattle.transcript.specs.CommandLine.{command_of}

-- what came of a line: a lawful command is taken, an unlawful one is refused
abbrev pub answer_to : Taking → Option Command → Option (Result (Unit {0}) Unlawful)
answer_to T None = None
answer_to T (Some c) = Some (cond (T.lawful c) (Ok tt) (Err record {}))

-- the list that is told after a line, from the list before
abbrev pub told_after : Taking → List ℕ → Option Command → List ℕ
told_after T list None = list
told_after T list (Some c) = cond (T.lawful c) (T.after list c) list

-- an answer in words
abbrev pub answer_words : Option (Result (Unit {0}) Unlawful) → List ℕ
answer_words (Some (Ok u)) = codes "taken"
answer_words (Some (Err e)) = codes "refused " ++ decimal (number_of e)
answer_words None = codes "no command"

-- the answer to the line of this number
abbrev pub answer_text : ℕ → Option (Result (Unit {0}) Unlawful) → List ℕ
answer_text number a = codes "line " ++ (decimal number ++ (codes ": " ++ (answer_words a ++ codes "\n")))

-- the answers to these lines, of which the first has this number
abbrev pub answers_text : Taking → ℕ → List (List ℕ) → List ℕ
answers_text T number [] = []
answers_text T number (l ∷ ls) =
    answer_text number (answer_to T (command_of l)) ++ answers_text T (number + 1) ls

-- the list that is told after these lines
abbrev pub list_after : Taking → List ℕ → List (List ℕ) → List ℕ
list_after T list [] = list
list_after T list (l ∷ ls) = list_after T (told_after T list (command_of l)) ls

-- A command is answered by what the record says to it, and then told is the list that the record makes: a lawful one is
-- taken, and an unlawful one is refused and leaves the list.
abbrev pub AnswersAsTaken : Type 0
AnswersAsTaken = (T : Taking) (list : List ℕ) (c : Command) →
    (r : Result (Unit {0}) Unlawful) × (answer_to T (Some c) ≡ Some r) × Taken T c r list (told_after T list (Some c))
