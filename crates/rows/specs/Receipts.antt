-- What a letter does to its receiver's row and sheet.
use Rattle.std.specs.Prelude.{ℕ, zero, suc, Bool, true, false, cond, not, ◌&&◌, ◌||◌, List, ◌==◌, bit_or, count_ones, nat_le}
use Rattle.std.specs.Prelude.{nat_lt, slice_index, slice_index_or, slice_set}
use Rattle.rows.specs.Letters.{data_letter, acknowledgement, check_letter}
use Rattle.rows.specs.Masks.{has, added, minus, within, those, any, members, put}
use Rattle.rows.specs.Rows.{no_check, on_sheet, sheet_end, with_received, with_heard, with_check}
use Rattle.rows.specs.declared.letter.Letter.{Letter}
use Rattle.rows.specs.declared.row.Check.{Check}
use Rattle.rows.specs.declared.row.Phase.{Phase}
use Rattle.rows.specs.declared.row.Phase.TheVariants.{Gathering, Closing, Waiting, Ahead}
use Rattle.rows.specs.declared.row.Row.{Row}

-- ---- data

-- the message joins the received set
abbrev pub after_data : Letter → Row → Row
after_data l row = with_received (bit_or row.received l.set) row

-- a message of the set was broadcast by another node than this
abbrev pub from_another : List ℕ → ℕ → ℕ → Bool
from_another broadcasters node x = any (λ m. has x m && not (slice_index broadcasters m == node)) 64

-- data is relayed by a node that did not broadcast the message and to which it is new
abbrev pub relays : List ℕ → Row → Letter → Bool
relays broadcasters row l =
    (l.kind == data_letter) && (not (within l.set row.received) && from_another broadcasters l.receiver l.set)

-- ---- acknowledgements

-- for each message below m in the set x: the sender is among those heard
unfoldable pub heard_from : List ℕ → ℕ → ℕ → ℕ → List ℕ
heard_from heard sender x zero = heard
heard_from heard sender x (suc m) =
    cond (has x m) (slice_set (heard_from heard sender x m) m (added (slice_index (heard_from heard sender x m) m) sender))
    (heard_from heard sender x m)

-- whom the row has heard, once this acknowledgement is heard too
abbrev pub heard_also : Letter → Row → List ℕ
heard_also l row = heard_from row.heard l.sender l.set 64

-- the message m is heard from at least q nodes
abbrev pub is_reached : List ℕ → ℕ → ℕ → Bool
is_reached heard q m = nat_le q (count_ones (slice_index heard m))

-- all such messages
abbrev pub reached : List ℕ → ℕ → ℕ
reached heard q = those (is_reached heard q) 64

-- those of them that are not yet on the sheet
abbrev pub newly : ℕ → Letter → Row → ℕ
newly q l row = minus (reached (heard_also l row) q) (on_sheet row)

-- they are delivered early
abbrev pub after_hearing : ℕ → Letter → Row → Row
after_hearing q l row = with_heard (heard_also l row) (bit_or row.early (newly q l row)) row

-- whether the node gathers
abbrev pub is_gathering : Phase → Bool
is_gathering Gathering = true
is_gathering Closing = false
is_gathering Waiting = false
is_gathering Ahead = true

-- whether the node has proposed in this stage
abbrev pub is_proposed : Phase → Bool
is_proposed Gathering = false
is_proposed Closing = false
is_proposed Waiting = true
is_proposed Ahead = true

-- an acknowledgement counts while its receiver gathers, if it is of the receiver's stage and of a node of the ring
abbrev pub counts : ℕ → Letter → Row → Bool
counts n l row =
    (is_gathering row.phase && l.kind == acknowledgement) && (l.stage == row.stage && nat_lt l.sender n)

-- ---- checks

-- whether one of the first k checks is from the sender
unfoldable pub from_sender : List Check → ℕ → ℕ → Bool
from_sender checks s zero = false
from_sender checks s (suc k) = from_sender checks s k || (slice_index_or checks k no_check).sender == s

-- a check is kept while there are fewer than q, and none from this sender
abbrev pub is_kept : ℕ → Letter → Row → Bool
is_kept q l row = nat_lt row.checked q && not (from_sender row.checks l.sender row.checked)

-- the row after a check
abbrev pub after_check : ℕ → Letter → Row → Row
after_check q l row = cond (is_kept q l row) (with_check (record { sender = l.sender; set = l.set }) row) row

-- a check of the receiver's stage
abbrev pub is_check : Letter → Row → Bool
is_check l row = l.kind == check_letter && l.stage == row.stage

-- ---- any letter, in a ring of n nodes with quorum q

-- the row after it; a letter of an earlier stage, or an acknowledgement to a closing node, does nothing
abbrev pub taken_row : ℕ → ℕ → Letter → Row → Row
taken_row n q l row =
    cond (l.kind == data_letter) (after_data l row)
    (cond (counts n l row) (after_hearing q l row)
    (cond (is_check l row) (after_check q l row) row))

-- the sheets after it, of which the receiver's begins at place 64 at
abbrev pub taken_sheets : ℕ → ℕ → Letter → Row → ℕ → List ℕ → List ℕ
taken_sheets n q l row at sheets =
    cond (counts n l row) (put sheets (sheet_end at row) (members (newly q l row) 64)) sheets
