-- The world of a ring: all that a call may change. And the causes that several calls share.
use Rattle.std.specs.Prelude.{◌≡◌, ℕ, Bool, true, false, not, ◌||◌, List, length, Some, None, Ok, Err, Option, Result, ◌==◌}
use Rattle.std.specs.Prelude.{nat_le, nat_lt, slice_index_or, slice_set}
use Rattle.record.specs.declared.command.Command.{Command}
use Rattle.rows.specs.Causes.{refuse, first}
use Rattle.rows.specs.Letters.{no_letter, spoilt, travelling}
use Rattle.rows.specs.Rows.{no_row}
use Rattle.rows.specs.declared.letter.Letter.{Letter}
use Rattle.rows.specs.declared.refusal.Refusal.{Refusal}
use Rattle.rows.specs.declared.refusal.Refusal.TheVariants.{WrongTableSize, NotStarted, NoSuchNode, NodeCrashed, PlaceUnused}
use Rattle.rows.specs.declared.refusal.Refusal.TheVariants.{NotTravelling, SpoiltLetter}
use Rattle.rows.specs.declared.row.Row.{Row}
use Rattle.rows.specs.declared.size.RingSize.{RingSize}
use Rattle.ring.specs.declared.ring.Node.{Node}
use Rattle.ring.specs.declared.ring.Ring.{Ring}

-- The ring and the tables that are lent to its calls: the tray holds all letters ever sent, the book the command of
-- each message, the sheets 64 bytes for each of seven nodes.
pub record World : Type 0 where
  pub ring : Ring
  pub tray : List Letter
  pub book : List Command
  pub sheets : List ℕ

abbrev pub world : Ring → List Letter → List Command → List ℕ → World
world r tray book sheets = record { ring = r; tray = tray; book = book; sheets = sheets }

-- ---- what a world has

-- the number of nodes, the quorum, and whether there are none because the ring was never started
abbrev pub nodes_of : Option RingSize → ℕ
nodes_of None = 0
nodes_of (Some z) = z.n

abbrev pub quorum_of : Option RingSize → ℕ
quorum_of None = 0
quorum_of (Some z) = z.q

abbrev pub unstarted : Option RingSize → Bool
unstarted None = true
unstarted (Some z) = false

-- what stands beyond the last node of a ring
abbrev pub no_node : Node
no_node = record { row = no_row; crashed = false }

-- what a ring keeps of a node
abbrev pub node_of : Ring → ℕ → Node
node_of r node = slice_index_or r.nodes node no_node

-- the row of a node
abbrev pub row_of : World → ℕ → Row
row_of w node = (node_of w.ring node).row

-- whether a node has crashed
abbrev pub has_crashed : Ring → ℕ → Bool
has_crashed r node = (node_of r node).crashed

-- the letter at a place
abbrev pub letter_at : World → ℕ → Letter
letter_at w place = slice_index_or w.tray place no_letter

-- ---- setters

-- the ring with another row of a node, which has crashed if it had
abbrev pub with_row : ℕ → Row → Ring → Ring
with_row node row r = record {
  size = r.size;
  messages = r.messages;
  broadcasters = r.broadcasters;
  used = r.used;
  nodes = slice_set r.nodes node (record { row = row; crashed = has_crashed r node });
}

-- the ring with so many places of the tray used
abbrev pub with_used : ℕ → Ring → Ring
with_used used r = record {
  size = r.size;
  messages = r.messages;
  broadcasters = r.broadcasters;
  used = used;
  nodes = r.nodes;
}

-- ---- causes

-- the sizes that tables may not have: a tray of 1 to 4,096 letters, a book of 64 commands, sheets of 448 bytes
abbrev pub wrong_sizes : ℕ → ℕ → ℕ → Bool
wrong_sizes tray book sheets = (tray == 0 || nat_lt 4096 tray) || (not (book == 64) || not (sheets == 448))

-- a table has the wrong size
abbrev pub table_refusal : World → Option Refusal
table_refusal w = refuse (wrong_sizes (length w.tray) (length w.book) (length w.sheets)) WrongTableSize None

-- the ring was never started, or has no such node
abbrev pub node_refusal : Ring → ℕ → Option Refusal
node_refusal r node =
    refuse (unstarted r.size) NotStarted
    (refuse (nat_le (nodes_of r.size) node) NoSuchNode None)

-- or that node has crashed
abbrev pub live_refusal : Ring → ℕ → Option Refusal
live_refusal r node = first (node_refusal r node) (refuse (has_crashed r node) NodeCrashed None)

-- the causes that a receipt and a loss share
abbrev pub letter_refusal : World → ℕ → Option Refusal
letter_refusal w place =
    first (table_refusal w)
    (refuse (unstarted w.ring.size) NotStarted
    (refuse (nat_le w.ring.used place || nat_le (length w.tray) place) PlaceUnused
    (refuse (not ((letter_at w place).mark == travelling)) NotTravelling
    (refuse (spoilt (nodes_of w.ring.size) w.ring.messages (letter_at w place)) SpoiltLetter None))))

-- ---- what the tests for these causes answer

abbrev pub Fits : ℕ → ℕ → ℕ → Result (Unit {0}) Refusal → Type 0
Fits tray book sheets (Ok u) = wrong_sizes tray book sheets ≡ false
Fits tray book sheets (Err e) = (wrong_sizes tray book sheets ≡ true) × (e ≡ WrongTableSize)

abbrev pub Named : Ring → ℕ → Result RingSize Refusal → Type 0
Named r node (Ok z) = (node_refusal r node ≡ None) × (r.size ≡ Some z)
Named r node (Err e) = node_refusal r node ≡ Some e

abbrev pub Alive : Ring → ℕ → Result RingSize Refusal → Type 0
Alive r node (Ok z) = (live_refusal r node ≡ None) × (r.size ≡ Some z)
Alive r node (Err e) = live_refusal r node ≡ Some e

abbrev pub Examined : World → ℕ → Result (RingSize × Letter) Refusal → Type 0
Examined w place (Ok x) = (letter_refusal w place ≡ None) × (w.ring.size ≡ Some x.0) × (letter_at w place ≡ x.1)
Examined w place (Err e) = letter_refusal w place ≡ Some e
