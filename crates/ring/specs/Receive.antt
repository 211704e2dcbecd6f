-- What a receipt makes of a world.
use Rattle.std.specs.Prelude.{◌≡◌, ℕ, ◌+◌, Bool, true, false, cond, ◌&&◌, List, None, Ok, Err, Option, Result, nat_lt}
use Rattle.std.specs.Prelude.{slice_set}
use Rattle.rows.specs.Causes.{refuse, first, outcome, unless}
use Rattle.rows.specs.Letters.{data_letter, taken, marked, letter_of, sent, no_room}
use Rattle.rows.specs.Receipts.{relays, taken_row, taken_sheets}
use Rattle.rows.specs.declared.letter.Letter.{Letter}
use Rattle.rows.specs.declared.refusal.Refusal.{Refusal}
use Rattle.rows.specs.declared.refusal.Refusal.TheVariants.{NodeCrashed, LaterStage, TrayFull}
use Rattle.ring.specs.World.{World, nodes_of, quorum_of, node_of, row_of, has_crashed, letter_at, with_row, with_used}
use Rattle.ring.specs.World.{letter_refusal}
use Rattle.ring.specs.declared.ring.Ring.{Ring}

-- whether the receiver of the letter has to relay it
abbrev pub must_relay : Ring → Letter → Bool
must_relay r l = relays r.broadcasters (node_of r l.receiver).row l

-- it has to, and there are too few places
abbrev pub cannot_relay : Ring → List Letter → Letter → Bool
cannot_relay r tray l = must_relay r l && no_room tray r.used (nodes_of r.size)

-- 4, 7, 13, 14, 15, 9, 16, 12
abbrev pub receive_refusal : World → ℕ → Option Refusal
receive_refusal w place =
    first (letter_refusal w place)
    (refuse (has_crashed w.ring (letter_at w place).receiver) NodeCrashed
    (refuse (nat_lt (row_of w (letter_at w place).receiver).stage (letter_at w place).stage) LaterStage
    (refuse (cannot_relay w.ring w.tray (letter_at w place)) TrayFull None)))

-- the tray and its used places after the letter was relayed, where it has to be
abbrev pub relayed_tray : Ring → List Letter → Letter → List Letter
relayed_tray r tray l =
    cond (must_relay r l)
    (sent tray r.used (letter_of l.receiver data_letter 0 l.set) (nodes_of r.size))
    tray

abbrev pub relayed_used : Ring → Letter → ℕ
relayed_used r l = cond (must_relay r l) (r.used + nodes_of r.size) r.used

-- a relaying of the letter where it has to be, or the refusal of that
abbrev pub Relays : Ring → List Letter → Letter → Result (Unit {0}) Refusal → Ring → List Letter → Type 0
Relays r tray l (Ok u) after written =
    (cannot_relay r tray l ≡ false) × (after ≡ with_used (relayed_used r l) r) × (written ≡ relayed_tray r tray l)
Relays r tray l (Err e) after written =
    (cannot_relay r tray l ≡ true) × (e ≡ TrayFull) × (after ≡ r) × (written ≡ tray)

-- the letter l at that place is relayed where it has to be, marked as taken, and taken by its receiver
abbrev pub received_letter : World → ℕ → Letter → World
received_letter w place l = record {
  ring = with_row l.receiver
      (taken_row (nodes_of w.ring.size) (quorum_of w.ring.size) l (row_of w l.receiver))
      (with_used (relayed_used w.ring l) w.ring);
  tray = slice_set (relayed_tray w.ring w.tray l) place (marked taken l);
  book = w.book;
  sheets = taken_sheets (nodes_of w.ring.size) (quorum_of w.ring.size) l (row_of w l.receiver) l.receiver
      w.sheets;
}

-- the same of the letter that stands at the place
abbrev pub received : World → ℕ → World
received w place = received_letter w place (letter_at w place)

-- A receipt: its answer, and the world after it.
abbrev pub Receives : World → ℕ → Result (Unit {0}) Refusal → World → Type 0
Receives w place r v = (r ≡ outcome (receive_refusal w place)) × (v ≡ unless (receive_refusal w place) (received w place) w)
