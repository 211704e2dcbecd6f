-- What a broadcast makes of a world.
use Rattle.std.specs.Prelude.{◌≡◌, ℕ, ◌+◌, ◌^◌, not, None, Option, Result, nat_le, slice_set}
use Rattle.record.specs.Kind.{Kind}
use Rattle.record.specs.declared.command.Command.{Command}
use Rattle.rows.specs.Causes.{refuse, first, answer, unless}
use Rattle.rows.specs.Letters.{data_letter, letter_of, sent, no_room}
use Rattle.rows.specs.declared.refusal.Refusal.{Refusal}
use Rattle.rows.specs.declared.refusal.Refusal.TheVariants.{UnlawfulCommand, BookFull, TrayFull}
use Rattle.ring.specs.World.{World, nodes_of, table_refusal, live_refusal}
use Rattle.ring.specs.declared.ring.Ring.{Ring}

-- 4, 7, 8, 9, 10, 11, 12
abbrev pub broadcast_refusal : Kind → World → ℕ → Command → Option Refusal
broadcast_refusal K w node c =
    first (table_refusal w)
    (first (live_refusal w.ring node)
    (refuse (not (K.taking.lawful c)) UnlawfulCommand
    (refuse (nat_le 64 w.ring.messages) BookFull
    (refuse (no_room w.tray w.ring.used (nodes_of w.ring.size)) TrayFull None))))

-- the ring has one message more, broadcast by that node, and a sending more
abbrev pub broadcast_ring : Ring → ℕ → Ring
broadcast_ring r node = record {
  size = r.size;
  messages = r.messages + 1;
  broadcasters = slice_set r.broadcasters r.messages node;
  used = r.used + nodes_of r.size;
  nodes = r.nodes;
}

-- data of the next message, as its broadcaster or a relaying node sends it
abbrev pub broadcast_by : World → ℕ → Command → World
broadcast_by w node c = record {
  ring = broadcast_ring w.ring node;
  tray = sent w.tray w.ring.used (letter_of node data_letter 0 (2 ^ w.ring.messages)) (nodes_of w.ring.size);
  book = slice_set w.book w.ring.messages c;
  sheets = w.sheets;
}

-- A broadcast: its answer, the message's number, and the world after it.
abbrev pub Broadcasts : Kind → World → ℕ → Command → Result ℕ Refusal → World → Type 0
Broadcasts K w node c r v =
    (r ≡ answer (broadcast_refusal K w node c) w.ring.messages)
    × (v ≡ unless (broadcast_refusal K w node c) (broadcast_by w node c) w)
