-- How a decision settles a stage.
use Rattle.std.specs.Prelude.{◌≡◌, ℕ, ◌+◌, ◌*◌, List, Some, None, Ok, Err, Option, Result, bit_or, count_ones}
use Rattle.chooser.specs.declared.refusal.Refusal.{Refusal as ChooserRefusal}
use Rattle.rows.specs.Causes.{outcome, unless}
use Rattle.rows.specs.Masks.{minus, members, put}
use Rattle.rows.specs.Rows.{on_sheet, sheet_end, at_stage}
use Rattle.rows.specs.declared.refusal.Refusal.{Refusal}
use Rattle.rows.specs.declared.refusal.Refusal.TheVariants.{Undecided, Chooser}
use Rattle.rows.specs.declared.row.Row.{Row}

-- the sets on the sheet once the nonconflicting ones of the decision are written
abbrev pub with_first : ℕ × ℕ → Row → ℕ
with_first decided row = bit_or (on_sheet row) decided.0

-- the next stage: both sets and the early messages have joined the delivered ones, and all else begins anew
abbrev pub settled_row : ℕ × ℕ → Row → Row
settled_row decided row = at_stage (row.stage + 1) row.received (bit_or (with_first decided row) decided.1)

-- first the nonconflicting messages that are not on the sheet, then the conflicting ones that are not, each lowest first
abbrev pub settled_sheets : ℕ × ℕ → Row → ℕ → List ℕ → List ℕ
settled_sheets decided row at sheets =
    put (put sheets (sheet_end at row) (members (minus decided.0 (on_sheet row)) 64))
    (64 * at + count_ones (with_first decided row)) (members (minus decided.1 (with_first decided row)) 64)

-- the cause, by the chooser's answer to the question for the decision
abbrev pub settle_refusal : Result (Option (ℕ × ℕ)) ChooserRefusal → Option Refusal
settle_refusal (Err e) = Some (Chooser e)
settle_refusal (Ok None) = Some Undecided
settle_refusal (Ok (Some decided)) = None

-- the decided sets; none of both where there is no decision
abbrev pub decided_of : Result (Option (ℕ × ℕ)) ChooserRefusal → ℕ × ℕ
decided_of (Err e) = (0, 0)
decided_of (Ok None) = (0, 0)
decided_of (Ok (Some decided)) = decided

-- a settling, by the chooser's answer: the row and the sheets before it, and after it
abbrev pub Settles : Result (Option (ℕ × ℕ)) ChooserRefusal → Row → ℕ → List ℕ → Result (Unit {0}) Refusal → Row → List ℕ → Type 0
Settles a row at sheets r after written =
    (r ≡ outcome (settle_refusal a)) × (after ≡ unless (settle_refusal a) (settled_row (decided_of a) row) row)
    × (written ≡ unless (settle_refusal a) (settled_sheets (decided_of a) row at sheets) sheets)
