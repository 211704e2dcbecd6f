-- Everything that is printed for an input.
use Rattle.std.specs.Prelude.{ℕ, List, [], ◌∷◌, ◌++◌, Some, None, codes, Option}
use Rattle.record.specs.Kind.{Taking}
use Rattle.record.specs.RecordKind.{kind_of}
use Rattle.record.specs.declared.record_kind.RecordKind.{RecordKind}
use Rattle.record.specs.declared.record_kind.RecordKind.TheVariants.{Kitty, Rounds, Both}
use Rattle.transcript.specs.CommandLine.{choice_of}
use Rattle.transcript.specs.Lines.{lines_of}
use Rattle.transcript.specs.Playing.{answers_text, list_after}
use Rattle.transcript.specs.Telling.{balance_text, rounds_text, both_text}

-- what is printed of the list that it tells
abbrev pub list_text : RecordKind → List ℕ → List ℕ
list_text Kitty list = balance_text list
list_text Rounds list = rounds_text list
list_text Both list = both_text list

-- the answers to the lines, and then what a record that was new before them tells
abbrev pub text_after : Taking → (List ℕ → List ℕ) → List (List ℕ) → List ℕ
text_after T shown lines = answers_text T 2 lines ++ shown (list_after T T.first lines)

-- the same of the record of a choice
abbrev pub played_text : RecordKind → List (List ℕ) → List ℕ
played_text choice lines = text_after (kind_of choice).taking (list_text choice) lines

-- what is printed if the first line names this choice
abbrev pub text_by_choice : Option RecordKind → List (List ℕ) → List ℕ
text_by_choice None lines = codes "line 1: no kind of record\n"
text_by_choice (Some choice) lines = played_text choice lines

-- the first line names the kind of record, the others are commands
abbrev pub text_of_lines : List (List ℕ) → List ℕ
text_of_lines [] = text_by_choice None []
text_of_lines (line ∷ lines) = text_by_choice (choice_of line) lines

-- the text for an input
abbrev pub transcript_of : List ℕ → List ℕ
transcript_of input = text_of_lines (lines_of input)
