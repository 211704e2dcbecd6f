-- What proposing and settling make of a closing node, of its sheet and of the chooser.
use Rattle.std.specs.Prelude.{◌≡◌, ℕ, not, Some, None, Ok, Err, Option, Result}
use Rattle.chooser.specs.Meaning.{Meaning, Appended, proposal_of, asked}
use Rattle.chooser.specs.declared.refusal.Refusal.{Refusal as ChooserRefusal}
use Rattle.rows.specs.Causes.{refuse, first, outcome, unless}
use Rattle.rows.specs.Proposals.{proposed_sets, propose_refusal}
use Rattle.rows.specs.Receipts.{is_proposed}
use Rattle.rows.specs.Rows.{with_proposed}
use Rattle.rows.specs.Settlements.{settled_row, settled_sheets, settle_refusal, decided_of}
use Rattle.rows.specs.declared.refusal.Refusal.{Refusal}
use Rattle.rows.specs.declared.refusal.Refusal.TheVariants.{Undecided}
use Rattle.node.specs.Tables.{Lent, table_refusal}
use Rattle.node.specs.Members.{with_row, with_sheet}
use Rattle.node.specs.declared.member.Member.{Member}

-- ---- proposing: 4, 18, 20

abbrev pub node_propose_refusal : Lent → Member → Meaning → Option Refusal
node_propose_refusal t m M = first (table_refusal m.size.n t) (propose_refusal m.size.q m.number m.row M)

-- Proposing: the answer, the node and the chooser's meaning after it. It leaves the tables.
abbrev pub Proposes : Lent → Member → Meaning → Result (Unit {0}) Refusal → Member → Meaning → Type 0
Proposes t m M (Ok u) k N =
    (node_propose_refusal t m M ≡ None)
    × Appended M m.row.stage (proposal_of m.number (proposed_sets m.size.q m.row)) N
    × (k ≡ with_row (with_proposed m.row) m)
Proposes t m M (Err e) k N = (node_propose_refusal t m M ≡ Some e) × (k ≡ m) × (N ≡ M)

-- ---- settling: 4, 19 where it has not proposed, 20, 19

-- what the chooser answers when the node asks for the decision of its stage
abbrev pub decision_for : Member → Meaning → Result (Option (ℕ × ℕ)) ChooserRefusal
decision_for m M = asked m.row.stage (M.decision m.row.stage)

abbrev pub node_settle_refusal : Lent → Member → Meaning → Option Refusal
node_settle_refusal t m M =
    first (table_refusal m.size.n t)
    (refuse (not (is_proposed m.row.phase)) Undecided (settle_refusal (decision_for m M)))

-- Settling: the answer, the tables and the node after it. The chooser is only asked.
abbrev pub Settles : Lent → Member → Meaning → Result (Unit {0}) Refusal → Lent → Member → Type 0
Settles t m M r u k =
    (r ≡ outcome (node_settle_refusal t m M))
    × (u ≡ unless (node_settle_refusal t m M)
    (with_sheet (settled_sheets (decided_of (decision_for m M)) m.row 0 t.sheet) t) t)
    × (k ≡ unless (node_settle_refusal t m M) (with_row (settled_row (decided_of (decision_for m M)) m.row) m) m)
