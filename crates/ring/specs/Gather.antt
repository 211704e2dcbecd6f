-- What the step of a gathering node makes of a world.
use Rattle.std.specs.Prelude.{◌≡◌, ℕ, ◌+◌, Bool, true, false, Some, None, Ok, Err, Option, Result}
use Rattle.record.specs.declared.command.Command.{Command}
use Rattle.rows.specs.Causes.{refuse}
use Rattle.rows.specs.Conflicts.{conflicted, clash}
use Rattle.rows.specs.Letters.{acknowledgement, check_letter, letter_of, sent, no_room}
use Rattle.rows.specs.Masks.{within}
use Rattle.rows.specs.Rows.{undelivered, with_pending, with_closed}
use Rattle.rows.specs.declared.letter.Letter.{Letter}
use Rattle.rows.specs.declared.refusal.Refusal.{Refusal}
use Rattle.rows.specs.declared.refusal.Refusal.TheVariants.{NothingNew, TrayFull}
use Rattle.rows.specs.declared.row.Row.{Row}
use Rattle.ring.specs.World.{World, nodes_of, row_of, with_row, with_used}
use Rattle.ring.specs.declared.step.Step.{Step}
use Rattle.ring.specs.declared.step.Step.TheVariants.{Acknowledged, Closed, Proposed, Settled}

-- 17, 12
abbrev pub gather_refusal : World → ℕ → Option Refusal
gather_refusal w node =
    refuse (within (undelivered (row_of w node)) (row_of w node).pending) NothingNew
    (refuse (no_room w.tray w.ring.used (nodes_of w.ring.size)) TrayFull None)

-- the node sends a letter to all, and has another row
abbrev pub sending : World → ℕ → Letter → Row → World
sending w node l row = record {
  ring = with_row node row (with_used (w.ring.used + nodes_of w.ring.size) w.ring);
  tray = sent w.tray w.ring.used l (nodes_of w.ring.size);
  book = w.book;
  sheets = w.sheets;
}

-- it acknowledges what it has not delivered, which is then pending
abbrev pub acknowledged : World → ℕ → World
acknowledged w node =
    sending w node (letter_of node acknowledgement (row_of w node).stage (undelivered (row_of w node)))
    (with_pending (undelivered (row_of w node)) (row_of w node))

-- it sends what is pending as a check, and is closing
abbrev pub closed : World → ℕ → World
closed w node =
    sending w node (letter_of node check_letter (row_of w node).stage (row_of w node).pending)
    (with_closed (row_of w node))

-- A gathering step: its answer and the world after it. Only which two conflicting messages a closing names is left open.
abbrev pub Gathers : (Command → Command → Bool) → World → ℕ → Result Step Refusal → World → Type 0
Gathers conflicts w node (Ok Acknowledged) v =
    (gather_refusal w node ≡ None) × (conflicted conflicts w.book (undelivered (row_of w node)) ≡ false)
    × (v ≡ acknowledged w node)
Gathers conflicts w node (Ok (Closed a b)) v =
    (gather_refusal w node ≡ None) × (conflicted conflicts w.book (undelivered (row_of w node)) ≡ true)
    × (clash conflicts w.book (undelivered (row_of w node)) a b ≡ true) × (v ≡ closed w node)
Gathers conflicts w node (Ok Proposed) v = ⊥
Gathers conflicts w node (Ok Settled) v = ⊥
Gathers conflicts w node (Err e) v = (gather_refusal w node ≡ Some e) × (v ≡ w)
