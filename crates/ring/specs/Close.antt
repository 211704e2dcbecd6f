-- What the steps of a closing node make of a world and of the chooser's meaning.
use Rattle.std.specs.Prelude.{◌≡◌, ℕ, Some, None, Ok, Err, Option, Result}
use Rattle.chooser.specs.Meaning.{Meaning, Appended, proposal_of, asked}
use Rattle.chooser.specs.declared.refusal.Refusal.{Refusal as ChooserRefusal}
use Rattle.rows.specs.Causes.{answer, unless}
use Rattle.rows.specs.Proposals.{proposed_sets, propose_refusal}
use Rattle.rows.specs.Rows.{with_proposed}
use Rattle.rows.specs.Settlements.{settled_row, settled_sheets, settle_refusal, decided_of}
use Rattle.rows.specs.declared.refusal.Refusal.{Refusal}
use Rattle.ring.specs.World.{World, quorum_of, row_of, with_row}
use Rattle.ring.specs.declared.step.Step.{Step}
use Rattle.ring.specs.declared.step.Step.TheVariants.{Acknowledged, Closed, Proposed, Settled}

-- ---- proposing: 18, 20

-- the node has proposed
abbrev pub proposed_by : World → ℕ → World
proposed_by w node = record {
  ring = with_row node (with_proposed (row_of w node)) w.ring;
  tray = w.tray;
  book = w.book;
  sheets = w.sheets;
}

-- the step of a closing node that has not proposed
abbrev pub Proposing : World → Meaning → ℕ → Result Step Refusal → World → Meaning → Type 0
Proposing w M node (Ok Proposed) v N =
    (propose_refusal (quorum_of w.ring.size) node (row_of w node) M ≡ None)
    × Appended M (row_of w node).stage (proposal_of node (proposed_sets (quorum_of w.ring.size) (row_of w node))) N
    × (v ≡ proposed_by w node)
Proposing w M node (Ok Acknowledged) v N = ⊥
Proposing w M node (Ok (Closed a b)) v N = ⊥
Proposing w M node (Ok Settled) v N = ⊥
Proposing w M node (Err e) v N =
    (propose_refusal (quorum_of w.ring.size) node (row_of w node) M ≡ Some e) × (v ≡ w) × (N ≡ M)

-- ---- settling: 20, 19

-- what the chooser answers when the node asks for the decision of its stage
abbrev pub decision_for : World → Meaning → ℕ → Result (Option (ℕ × ℕ)) ChooserRefusal
decision_for w M node = asked (row_of w node).stage (M.decision (row_of w node).stage)

-- the node has delivered the decided sets, and is in its next stage
abbrev pub settled_by : World → ℕ → ℕ × ℕ → World
settled_by w node decided = record {
  ring = with_row node (settled_row decided (row_of w node)) w.ring;
  tray = w.tray;
  book = w.book;
  sheets = settled_sheets decided (row_of w node) node w.sheets;
}

-- the step of a closing node that has proposed
abbrev pub Settling : World → Meaning → ℕ → Result Step Refusal → World → Meaning → Type 0
Settling w M node r v N =
    (r ≡ answer (settle_refusal (decision_for w M node)) Settled)
    × (v ≡ unless (settle_refusal (decision_for w M node)) (settled_by w node (decided_of (decision_for w M node))) w)
    × (N ≡ M)
