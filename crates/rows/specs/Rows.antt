-- A node's row: its parts, a setter for each of them, and the sets that a node works out.
use Rattle.std.specs.Prelude.{ℕ, ◌+◌, ◌*◌, List, [], set, replicate, bit_or, count_ones}
use Rattle.rows.specs.Masks.{minus}
use Rattle.rows.specs.declared.row.Check.{Check}
use Rattle.rows.specs.declared.row.Phase.{Phase}
use Rattle.rows.specs.declared.row.Phase.TheVariants.{Gathering, Closing, Waiting, Ahead}
use Rattle.rows.specs.declared.row.Row.{Row}

-- an unused place among the checks
abbrev pub no_check : Check
no_check = record { sender = 0; set = 0 }

-- what stands beyond the last row
abbrev pub no_row : Row
no_row = record {
  stage = 0;
  received = 0;
  delivered = 0;
  pending = 0;
  early = 0;
  heard = [];
  checks = [];
  checked = 0;
  phase = Gathering;
}

-- ---- the sets that a node works out

-- what it received and has not delivered in an earlier stage
abbrev pub undelivered : Row → ℕ
undelivered row = minus row.received row.delivered

-- the messages on its sheet
abbrev pub on_sheet : Row → ℕ
on_sheet row = bit_or row.delivered row.early

-- the first unused place of its sheet, which begins at place 64 at
abbrev pub sheet_end : ℕ → Row → ℕ
sheet_end at row = 64 * at + count_ones (on_sheet row)

-- ---- rows

-- at the beginning of a stage: nothing acknowledged, heard or kept, and nothing proposed
abbrev pub at_stage : ℕ → ℕ → ℕ → Row
at_stage stage received delivered = record {
  stage = stage;
  received = received;
  delivered = delivered;
  pending = 0;
  early = 0;
  heard = replicate 64 0;
  checks = replicate 7 no_check;
  checked = 0;
  phase = Gathering;
}

-- at the start
abbrev pub new_row : Row
new_row = at_stage 1 0 0

-- with another received set
abbrev pub with_received : ℕ → Row → Row
with_received x row = record {
  stage = row.stage;
  received = x;
  delivered = row.delivered;
  pending = row.pending;
  early = row.early;
  heard = row.heard;
  checks = row.checks;
  checked = row.checked;
  phase = row.phase;
}

-- with another pending set
abbrev pub with_pending : ℕ → Row → Row
with_pending x row = record {
  stage = row.stage;
  received = row.received;
  delivered = row.delivered;
  pending = x;
  early = row.early;
  heard = row.heard;
  checks = row.checks;
  checked = row.checked;
  phase = row.phase;
}

-- with other nodes heard, and another early set
abbrev pub with_heard : List ℕ → ℕ → Row → Row
with_heard heard early row = record {
  stage = row.stage;
  received = row.received;
  delivered = row.delivered;
  pending = row.pending;
  early = early;
  heard = heard;
  checks = row.checks;
  checked = row.checked;
  phase = row.phase;
}

-- with one check more
abbrev pub with_check : Check → Row → Row
with_check c row = record {
  stage = row.stage;
  received = row.received;
  delivered = row.delivered;
  pending = row.pending;
  early = row.early;
  heard = row.heard;
  checks = set row.checks row.checked c;
  checked = row.checked + 1;
  phase = row.phase;
}

-- in another phase
abbrev pub with_phase : Phase → Row → Row
with_phase phase row = record {
  stage = row.stage;
  received = row.received;
  delivered = row.delivered;
  pending = row.pending;
  early = row.early;
  heard = row.heard;
  checks = row.checks;
  checked = row.checked;
  phase = phase;
}

-- what closing makes of a phase: nothing forgets a proposal
abbrev pub closed_phase : Phase → Phase
closed_phase Gathering = Closing
closed_phase Closing = Closing
closed_phase Waiting = Waiting
closed_phase Ahead = Waiting

-- what proposing makes of a phase: whoever gathers goes on gathering
abbrev pub proposed_phase : Phase → Phase
proposed_phase Gathering = Ahead
proposed_phase Closing = Waiting
proposed_phase Waiting = Waiting
proposed_phase Ahead = Ahead

-- having closed the stage
abbrev pub with_closed : Row → Row
with_closed row = with_phase (closed_phase row.phase) row

-- having proposed
abbrev pub with_proposed : Row → Row
with_proposed row = with_phase (proposed_phase row.phase) row
