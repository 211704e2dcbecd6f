-- What a closing node proposes.
use Rattle.std.specs.Prelude.{◌≡◌, ℕ, zero, suc, ◌+◌, ◌/◌, Bool, cond, List, Some, None, Ok, Err, Option, Result, nat_le, nat_lt}
use Rattle.std.specs.Prelude.{slice_index_or}
use Rattle.chooser.specs.Meaning.{Meaning, Appended, proposal_refusal, proposal_of}
use Rattle.chooser.specs.declared.refusal.Refusal.{Refusal as ChooserRefusal}
use Rattle.rows.specs.Causes.{refuse}
use Rattle.rows.specs.Masks.{has, minus, those}
use Rattle.rows.specs.Rows.{no_check, undelivered, with_proposed}
use Rattle.rows.specs.declared.refusal.Refusal.{Refusal}
use Rattle.rows.specs.declared.refusal.Refusal.TheVariants.{TooFewChecks, Chooser}
use Rattle.rows.specs.declared.row.Check.{Check}
use Rattle.rows.specs.declared.row.Row.{Row}

-- how many of the first k checks have the message m
abbrev pub holding : List Check → ℕ → ℕ → ℕ
holding checks m zero = 0
holding checks m (suc k) = holding checks m k + cond (has (slice_index_or checks k no_check).set m) 1 0

-- m is in at least q / 2 + 1 of the first q checks, the half rounded down
abbrev pub in_majority : List Check → ℕ → ℕ → Bool
in_majority checks q m = nat_le (q / 2 + 1) (holding checks m q)

-- all such messages
abbrev pub majority : List Check → ℕ → ℕ
majority checks q = those (in_majority checks q) 64

-- the pair of sets: that majority as nonconflicting, and all else that is undelivered as conflicting
abbrev pub proposed_sets : ℕ → Row → ℕ × ℕ
proposed_sets q row = (majority row.checks q, minus (undelivered row) (majority row.checks q))

-- a refusal of the chooser as one of the ring
abbrev pub by_chooser : Option ChooserRefusal → Option Refusal
by_chooser None = None
by_chooser (Some e) = Some (Chooser e)

-- fewer than q checks are kept, or the chooser refuses
abbrev pub propose_refusal : ℕ → ℕ → Row → Meaning → Option Refusal
propose_refusal q node row M =
    refuse (nat_lt row.checked q) TooFewChecks (by_chooser (proposal_refusal (M.proposals row.stage) row.stage node))

-- a proposal: the row before and after it, and the chooser's meaning before and after it
abbrev pub PutsForward : ℕ → ℕ → Row → Meaning → Result (Unit {0}) Refusal → Row → Meaning → Type 0
PutsForward q node row M (Ok u) after N =
    (propose_refusal q node row M ≡ None) × Appended M row.stage (proposal_of node (proposed_sets q row)) N
    × (after ≡ with_proposed row)
PutsForward q node row M (Err e) after N = (propose_refusal q node row M ≡ Some e) × (after ≡ row) × (N ≡ M)
