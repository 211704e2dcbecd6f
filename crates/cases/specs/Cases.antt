-- What a worked case says, and how it is worked out: by the very definitions that the contracts cite.
use Rattle.std.specs.Prelude.{ℕ, suc, Bool, true, false, ◌&&◌, List, [], ◌∷◌, length, Some, None, Ok, Err, Option, Result, ◌==◌}
use Rattle.std.specs.List.{list_all}
use Rattle.record.specs.Coded.{same}
use Rattle.record.specs.Kind.{Kind}
use Rattle.record.specs.declared.command.Command.{Command}
use Rattle.rows.specs.Letters.{check_letter, letter_of}
use Rattle.rows.specs.Masks.{added}
use Rattle.rows.specs.Proposals.{proposed_sets}
use Rattle.rows.specs.Refusals.{number_of}
use Rattle.rows.specs.Receipts.{taken_row}
use Rattle.rows.specs.Rows.{new_row, with_received}
use Rattle.rows.specs.Size.{size_refusal}
use Rattle.rows.specs.declared.refusal.Refusal.{Refusal}
use Rattle.rows.specs.declared.row.Row.{Row}
use Rattle.schedule.specs.Numbers.{spell, number_at}
use Rattle.schedule.specs.Reports.{number_of_number}
use Rattle.schedule.specs.declared.fault.NumberFault.{NumberFault}

-- A case: n and q are a ring size, or are refused with a number; in a ring of n and q, a node that has undelivered
-- messages, and to which checks came, keeps q of these and proposes two sets; a number goes in these bytes; bytes are a
-- fault of some number; commands, taken by a new record of some kind, leave a list.
pub data Case : Type 0 where
  is_size : ℕ → ℕ → Case
  no_size : ℕ → ℕ → ℕ → Case
  proposes : ℕ → ℕ → List (List ℕ) → List ℕ → List ℕ → List ℕ → Case
  goes_in : ℕ → List ℕ → Case
  is_fault : List ℕ → ℕ → Case
  leaves : Kind → List Command → List ℕ → Case

-- the set of these messages
abbrev pub set_of : List ℕ → ℕ
set_of [] = 0
set_of (m ∷ ms) = added (set_of ms) m

-- the row, once it has taken a check with each of these sets, from one node after the other
abbrev pub with_checks : ℕ → ℕ → ℕ → List (List ℕ) → Row → Row
with_checks n q sender [] row = row
with_checks n q sender (ms ∷ rest) row =
    with_checks n q (suc sender) rest (taken_row n q (letter_of sender check_letter row.stage (set_of ms)) row)

-- a row with these undelivered messages, once it has taken these checks
abbrev pub row_with : ℕ → ℕ → List (List ℕ) → List ℕ → Row
row_with n q checks undelivered = with_checks n q 0 checks (with_received (set_of undelivered) new_row)

-- no cause refuses
abbrev pub accepted : Option Refusal → Bool
accepted None = true
accepted (Some e) = false

-- the refusal has this number
abbrev pub refused_with : ℕ → Option Refusal → Bool
refused_with number None = false
refused_with number (Some e) = number_of e == number

-- the number v was read, and the reader stands at the place q
abbrev pub was_read : ℕ → ℕ → Result (ℕ × ℕ) NumberFault → Bool
was_read v q (Ok t) = t.0 == v && t.1 == q
was_read v q (Err f) = false

-- the fault has this number
abbrev pub faulted_with : ℕ → Result (ℕ × ℕ) NumberFault → Bool
faulted_with number (Ok t) = false
faulted_with number (Err f) = number_of_number f == number

-- the list that is told after these commands
abbrev pub list_after : Kind → List ℕ → List Command → List ℕ
list_after K l [] = l
list_after K l (c ∷ cs) = list_after K (K.taking.after l c) cs

-- whether a case comes out as it says
abbrev pub holds : Case → Bool
holds (is_size n q) = accepted (size_refusal n q)
holds (no_size n q number) = refused_with number (size_refusal n q)
holds (proposes n q checks undelivered nonconflicting conflicting) =
    let row = row_with n q checks undelivered in
    row.checked == q
    && ((proposed_sets q row).0 == set_of nonconflicting && (proposed_sets q row).1 == set_of conflicting)
holds (goes_in v bytes) = same (spell v) bytes && was_read v (length bytes) (number_at 65535 bytes 0)
holds (is_fault bytes number) = faulted_with number (number_at 65535 bytes 0)
holds (leaves K commands told) = list_all K.taking.lawful commands && same (list_after K K.taking.first commands) told
