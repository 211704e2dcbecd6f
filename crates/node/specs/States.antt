-- The calls that make a node or use it up, and what is told of it.
use Rattle.std.specs.Prelude.{◌≡◌, ℕ, Bool, false, List, length, take, Some, None, Ok, Err, Option, Result, ◌==◌, nat_le, nat_lt}
use Rattle.std.specs.Prelude.{count_ones}
use Rattle.record.specs.declared.command.Command.{Command}
use Rattle.chooser.specs.Meaning.{Meaning}
use Rattle.rows.specs.Causes.{refuse}
use Rattle.rows.specs.Rows.{new_row, on_sheet}
use Rattle.rows.specs.declared.refusal.Refusal.{Refusal}
use Rattle.rows.specs.declared.refusal.Refusal.TheVariants.{WrongTableSize, NeedAboveQuorum, NoSuchNode}
use Rattle.rows.specs.declared.size.RingSize.{RingSize}
use Rattle.node.specs.Tables.{Lent}
use Rattle.node.specs.Gathers.{Closes}
use Rattle.node.specs.Decides.{Settles}
use Rattle.node.specs.declared.member.Member.{Member}
use Rattle.node.specs.declared.gathering_node.Gathering.{Gathering}
use Rattle.node.specs.declared.closing_node.Closing.{Closing}
use Rattle.node.specs.declared.handover.Closed.{Closed}
use Rattle.node.specs.declared.handover.Refused.{Refused}
use Rattle.node.specs.declared.handover.Retired.{Retired}

-- ---- the first node

-- 8, 5
abbrev pub first_refusal : RingSize → ℕ → ℕ → Option Refusal
first_refusal z number need = refuse (nat_le z.n number) NoSuchNode (refuse (nat_lt z.q need) NeedAboveQuorum None)

-- a node at the start of a ring
abbrev pub new_member : RingSize → ℕ → Member
new_member z number = record { number = number; size = z; row = new_row }

-- making it, by a chooser of that need
abbrev pub Begins : RingSize → ℕ → ℕ → Result Gathering Refusal → Type 0
Begins z number need (Ok g) = (first_refusal z number need ≡ None) × (g.member ≡ new_member z number)
Begins z number need (Err e) = first_refusal z number need ≡ Some e

-- ---- from state to state; a refusal gives the node back as it was

-- closing makes a closing node of a gathering one
abbrev pub ClosesTo : (Command → Command → Bool) → Lent → Member → Result Closed (Refused Gathering) → Lent → Type 0
ClosesTo conflicts t m (Ok c) u = Closes conflicts t m (Ok c.pair) u c.node.member
ClosesTo conflicts t m (Err x) u = Closes conflicts t m (Err x.refusal) u x.node.member

-- settling makes the next gathering node of a closing one
abbrev pub SettlesTo : Lent → Member → Meaning → Result Gathering (Refused Closing) → Lent → Type 0
SettlesTo t m M (Ok g) u = Settles t m M (Ok tt) u g.member
SettlesTo t m M (Err x) u = Settles t m M (Err x.refusal) u x.node.member

-- ---- what is told

-- how many places of its sheet are used: as many as it delivered messages
abbrev pub sheet_length : Member → ℕ
sheet_length m = count_ones (on_sheet m.row)

-- the used part of a sheet of 64 bytes, or 4; f tells the list behind the answer
abbrev pub Shows : {P : Type 0} → (P → List ℕ) → Member → List ℕ → Result P Refusal → Type 0
Shows f m sheet (Ok s) = (length sheet ≡ 64) × (f s ≡ take (sheet_length m) sheet)
Shows f m sheet (Err e) = ((length sheet == 64) ≡ false) × (e ≡ WrongTableSize)

-- what is left of a node that was ended: its stage, and how long its sheet is
abbrev pub Leaves : Member → Retired → Type 0
Leaves m left = (left.stage ≡ m.row.stage) × (left.sheet_length ≡ sheet_length m)
