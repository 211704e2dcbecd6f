-- What acknowledging and closing make of a gathering node and of its tables.
use Rattle.std.specs.Prelude.{◌≡◌, ℕ, Bool, true, not, ◌||◌, Some, None, Ok, Err, Option, Result}
use Rattle.record.specs.declared.command.Command.{Command}
use Rattle.rows.specs.Causes.{refuse, first, outcome, unless}
use Rattle.rows.specs.Conflicts.{conflicted, clash}
use Rattle.rows.specs.Letters.{acknowledgement, check_letter, letter_of}
use Rattle.rows.specs.Masks.{within}
use Rattle.rows.specs.Rows.{undelivered, with_pending, with_closed}
use Rattle.rows.specs.declared.refusal.Refusal.{Refusal}
use Rattle.rows.specs.declared.refusal.Refusal.TheVariants.{NothingNew}
use Rattle.node.specs.Tables.{Lent, table_refusal}
use Rattle.node.specs.Members.{with_row, sending}
use Rattle.node.specs.declared.member.Member.{Member}

-- it has acknowledged all that it has not delivered
abbrev pub nothing_new : Member → Bool
nothing_new m = within (undelivered m.row) m.row.pending

-- two messages that it has not delivered conflict
abbrev pub has_conflict : (Command → Command → Bool) → Lent → Member → Bool
has_conflict conflicts t m = conflicted conflicts t.book (undelivered m.row)

-- 4, 17: to acknowledge, nothing may conflict
abbrev pub acknowledge_refusal : (Command → Command → Bool) → Lent → Member → Option Refusal
acknowledge_refusal conflicts t m =
    first (table_refusal m.size.n t) (refuse (nothing_new m || has_conflict conflicts t m) NothingNew None)

-- 4, 17: to close, something must
abbrev pub close_refusal : (Command → Command → Bool) → Lent → Member → Option Refusal
close_refusal conflicts t m =
    first (table_refusal m.size.n t) (refuse (nothing_new m || not (has_conflict conflicts t m)) NothingNew None)

-- Acknowledging: what is not delivered goes to all, and is then pending.
abbrev pub Acknowledges : (Command → Command → Bool) → Lent → Member → Result (Unit {0}) Refusal → Lent → Member → Type 0
Acknowledges conflicts t m r u k =
    (r ≡ outcome (acknowledge_refusal conflicts t m))
    × (u ≡ unless (acknowledge_refusal conflicts t m)
    (sending m (letter_of m.number acknowledgement m.row.stage (undelivered m.row)) t) t)
    × (k ≡ unless (acknowledge_refusal conflicts t m) (with_row (with_pending (undelivered m.row) m.row) m) m)

-- Closing: what is pending goes to all as a check, and the answer names two messages that conflict. Only which two is
-- left open.
abbrev pub Closes : (Command → Command → Bool) → Lent → Member → Result (ℕ × ℕ) Refusal → Lent → Member → Type 0
Closes conflicts t m (Ok p) u k =
    (close_refusal conflicts t m ≡ None) × (clash conflicts t.book (undelivered m.row) p.0 p.1 ≡ true)
    × (u ≡ sending m (letter_of m.number check_letter m.row.stage m.row.pending) t)
    × (k ≡ with_row (with_closed m.row) m)
Closes conflicts t m (Err e) u k = (close_refusal conflicts t m ≡ Some e) × (u ≡ t) × (k ≡ m)
