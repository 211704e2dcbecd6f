-- The entries of a schedule.
use Rattle.std.specs.Prelude.{ℕ, ◌+◌, cond, List, length, take, drop, Ok, Err, Result, nat_le}
use Rattle.std.specs.Borrow.{Bor}
use Rattle.record.specs.declared.command.Command.{Command}
use Rattle.schedule.specs.declared.entry.Entry.{Entry}
use Rattle.schedule.specs.declared.entry.Entry.TheVariants.{Broadcast, Receive, Step, Crash, Lose}
use Rattle.schedule.specs.declared.fault.EntryFault.{EntryFault}
use Rattle.schedule.specs.declared.fault.EntryFault.TheVariants.{InNumber, InCommand, BodyTooLong}
use Rattle.schedule.specs.declared.kind.EntryKind.{EntryKind}
use Rattle.schedule.specs.declared.kind.EntryKind.TheVariants as kinds
use Rattle.schedule.specs.Numbers.{number_at}
use Rattle.schedule.specs.Chains.{through, and_then}
use Rattle.schedule.specs.Commands.{command_at}
use Rattle.schedule.specs.Kinds.{kind_at, entry_kind}

-- what an entry says; a body is the list of its bytes
pub data Act : Type 0 where
  broadcast : ℕ → Command → List ℕ → Act
  receive : ℕ → Act
  step : ℕ → Act
  crash : ℕ → Act
  lose : ℕ → Act

-- what an entry of the code says
abbrev pub act_of : Entry → Act
act_of (Broadcast node c body) = broadcast node c body.now
act_of (Receive place) = receive place
act_of (Step node) = step node
act_of (Crash node) = crash node
act_of (Lose place) = lose place

-- an act of one number
abbrev pub single_at : ℕ → (ℕ → Act) → List ℕ → ℕ → Result (Act × ℕ) EntryFault
single_at limit make bytes p = through InNumber (number_at limit bytes p) (λ v. Ok (make v.0, v.1))

-- the body of n bytes at p, and the command that it holds
abbrev pub body_at : ℕ → List ℕ → ℕ → Result ((Command × List ℕ) × ℕ) EntryFault
body_at n bytes p =
    cond (nat_le (p + n) (length bytes))
    (through InCommand (command_at (take (p + n) bytes) p) (λ c. Ok ((c, take n (drop p bytes)), p + n)))
    (Err (BodyTooLong p))

-- node, length and body of a broadcast
abbrev pub broadcast_at : List ℕ → ℕ → Result (Act × ℕ) EntryFault
broadcast_at bytes p =
    through InNumber (number_at 255 bytes p) (λ node.
    through InNumber (number_at 65535 bytes node.1) (λ n.
    and_then (body_at n.0 bytes n.1) (λ b. Ok (broadcast node.0 b.0.0 b.0.1, b.1))))

-- what follows a kind of entry, from p on
abbrev pub act_at : EntryKind → List ℕ → ℕ → Result (Act × ℕ) EntryFault
act_at kinds.Broadcast bytes p = broadcast_at bytes p
act_at kinds.Receive bytes p = single_at 65535 receive bytes p
act_at kinds.Step bytes p = single_at 255 step bytes p
act_at kinds.Crash bytes p = single_at 255 crash bytes p
act_at kinds.Lose bytes p = single_at 65535 lose bytes p

-- the entry at p, with the place after it
abbrev pub entry_at : List ℕ → ℕ → Result (Act × ℕ) EntryFault
entry_at bytes p = and_then (kind_at entry_kind bytes p) (λ k. act_at k.0 bytes k.1)

-- a command and its body, with the place at which they left the reader
abbrev pub part_at : {E : Type 0} → Result (Command × Bor (List ℕ)) E → ℕ → Result ((Command × List ℕ) × ℕ) E
part_at (Ok x) q = Ok ((x.0, x.1.now), q)
part_at (Err f) q = Err f

-- what an entry that was read says, with the place at which it left the reader
abbrev pub read_as : {E : Type 0} → Result Entry E → ℕ → Result (Act × ℕ) E
read_as (Ok e) q = Ok (act_of e, q)
read_as (Err f) q = Err f
