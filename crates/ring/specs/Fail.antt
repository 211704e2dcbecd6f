-- What a crash makes of a ring, and a loss of a world.
use Rattle.std.specs.Prelude.{◌≡◌, ℕ, true, not, ◌&&◌, None, Option, Result, slice_set}
use Rattle.rows.specs.Causes.{refuse, first, outcome, unless}
use Rattle.rows.specs.Letters.{lost, marked}
use Rattle.rows.specs.declared.refusal.Refusal.{Refusal}
use Rattle.rows.specs.declared.refusal.Refusal.TheVariants.{NobodyCrashed}
use Rattle.ring.specs.World.{World, node_of, has_crashed, letter_at, live_refusal, letter_refusal}
use Rattle.ring.specs.declared.ring.Ring.{Ring}

-- the ring with the node crashed, which keeps its row
abbrev pub crashed_by : Ring → ℕ → Ring
crashed_by r node = record {
  size = r.size;
  messages = r.messages;
  broadcasters = r.broadcasters;
  used = r.used;
  nodes = slice_set r.nodes node (record { row = (node_of r node).row; crashed = true });
}

-- A crash, refused by 7, 8, 9: its answer, and the ring after it. It is lent no table.
abbrev pub Crashes : Ring → ℕ → Result (Unit {0}) Refusal → Ring → Type 0
Crashes r node a s = (a ≡ outcome (live_refusal r node)) × (s ≡ unless (live_refusal r node) (crashed_by r node) r)

-- 4, 7, 13, 14, 15, 21
abbrev pub lose_refusal : World → ℕ → Option Refusal
lose_refusal w place =
    first (letter_refusal w place)
    (refuse (not (has_crashed w.ring (letter_at w place).sender) && not (has_crashed w.ring (letter_at w place).receiver))
    NobodyCrashed None)

-- the letter is marked as lost
abbrev pub lost_at : World → ℕ → World
lost_at w place = record {
  ring = w.ring;
  tray = slice_set w.tray place (marked lost (letter_at w place));
  book = w.book;
  sheets = w.sheets;
}

-- A loss: its answer, and the world after it.
abbrev pub Loses : World → ℕ → Result (Unit {0}) Refusal → World → Type 0
Loses w place r v = (r ≡ outcome (lose_refusal w place)) × (v ≡ unless (lose_refusal w place) (lost_at w place) w)
