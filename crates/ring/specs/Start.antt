-- Rings before and at their start, and what a start makes of a world.
use Rattle.std.specs.Prelude.{◌≡◌, ℕ, Bool, false, not, length, replicate, Some, None, Option, Result, ◌==◌}
use Rattle.std.specs.Prelude.{nat_lt}
use Rattle.std.specs.List.{list_any, range_with_len}
use Rattle.chooser.specs.Meaning.{Meaning}
use Rattle.rows.specs.Causes.{refuse, first, outcome, unless}
use Rattle.rows.specs.Conflicts.{no_command}
use Rattle.rows.specs.Letters.{no_letter}
use Rattle.rows.specs.Rows.{new_row}
use Rattle.rows.specs.declared.refusal.Refusal.{Refusal}
use Rattle.rows.specs.declared.refusal.Refusal.TheVariants.{NeedAboveQuorum, ChooserInUse}
use Rattle.rows.specs.declared.size.RingSize.{RingSize}
use Rattle.ring.specs.World.{World, table_refusal}
use Rattle.ring.specs.declared.ring.Node.{Node}
use Rattle.ring.specs.declared.ring.Ring.{Ring}

-- a node that lives, at the start
abbrev pub new_node : Node
new_node = record { row = new_row; crashed = false }

-- a ring without messages, letters and crashes
abbrev pub empty_ring : Option RingSize → Ring
empty_ring size = record {
  size = size;
  messages = 0;
  broadcasters = replicate 64 0;
  used = 0;
  nodes = replicate 7 new_node;
}

-- never started
abbrev pub idle_ring : Ring
idle_ring = empty_ring None

-- just started
abbrev pub new_ring : RingSize → Ring
new_ring z = empty_ring (Some z)

-- whether the stage has a proposal
abbrev pub is_used : Meaning → ℕ → Bool
is_used M s = not (length (M.proposals s) == 0)

-- whether one of the stages 1 to k has one
unfoldable pub in_use : Meaning → ℕ → Bool
in_use M k = list_any (is_used M) (range_with_len 1 k)

-- 4, 5, 6
abbrev pub start_refusal : RingSize → World → Meaning → Option Refusal
start_refusal z w M =
    first (table_refusal w)
    (refuse (nat_lt z.q M.need) NeedAboveQuorum
    (refuse (in_use M 32) ChooserInUse None))

-- the tables are empty, and the ring has just started
abbrev pub started : RingSize → World → World
started z w = record {
  ring = new_ring z;
  tray = replicate (length w.tray) no_letter;
  book = replicate (length w.book) no_command;
  sheets = replicate (length w.sheets) 0;
}

-- A start: its answer, and the world after it. The chooser is only asked.
abbrev pub Starts : RingSize → World → Meaning → Result (Unit {0}) Refusal → World → Type 0
Starts z w M r v = (r ≡ outcome (start_refusal z w M)) × (v ≡ unless (start_refusal z w M) (started z w) w)
