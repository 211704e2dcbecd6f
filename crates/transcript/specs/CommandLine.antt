-- Lines as commands and as choices.
use Rattle.std.specs.Prelude.{ℕ, List, [], ◌∷◌, Some, None, Option}
use Rattle.std.specs.Result.{result_ok}
use Rattle.record.specs.declared.command.Command.{Command}
use Rattle.record.specs.RecordKind.{record_kind}
use Rattle.record.specs.declared.record_kind.RecordKind.{RecordKind}
use Rattle.transcript.specs.Chains.{and_then}
use Rattle.transcript.specs.Numbers.{natural, integer}
use Rattle.transcript.specs.Words.{words_of}

-- the command of these four words, if each writes a number that fits
abbrev pub command_from : List ℕ → List ℕ → List ℕ → List ℕ → Option Command
command_from verb subject day amount =
    and_then (natural 255 verb) (λ v. and_then (natural 65535 subject) (λ s.
    and_then (natural 65535 day) (λ d. and_then (integer amount) (λ a.
    Some (record { verb = v; subject = s; day = d; amount = a })))))

-- the command of exactly four words
abbrev pub command_in : List (List ℕ) → Option Command
command_in [] = None
command_in (v ∷ []) = None
command_in (v ∷ (s ∷ [])) = None
command_in (v ∷ (s ∷ (d ∷ []))) = None
command_in (v ∷ (s ∷ (d ∷ (a ∷ [])))) = command_from v s d a
command_in (v ∷ (s ∷ (d ∷ (a ∷ (x ∷ xs))))) = None

-- the command that a line gives
abbrev pub command_of : List ℕ → Option Command
command_of line = command_in (words_of line)

-- the choice of a number
abbrev pub choice_numbered : ℕ → Option RecordKind
choice_numbered n = result_ok (record_kind n)

-- the choice of exactly one word
abbrev pub choice_in : List (List ℕ) → Option RecordKind
choice_in [] = None
choice_in (w ∷ []) = and_then (natural 255 w) choice_numbered
choice_in (w ∷ (x ∷ xs)) = None

-- the choice that a line gives
abbrev pub choice_of : List ℕ → Option RecordKind
choice_of line = choice_in (words_of line)
