-- A setter for each part of a node, or for parts that change together: all other parts stay.
use Rattle.std.specs.Prelude.{ℕ, true, false, cond, List, ◌++◌, ◌==◌}
use Rattle.protocol.specs.Sets.{Set, none, only, ◌∪◌}
use Rattle.protocol.specs.Lists.{ascending}
use Rattle.protocol.specs.Ring.{Node}

-- the node with another received set
abbrev pub with_received : Set → Node → Node
with_received R N = record {
  stage = N.stage;
  received = R;
  delivered = N.delivered;
  pending = N.pending;
  early = N.early;
  heard = N.heard;
  kept = N.kept;
  check = N.check;
  closing = N.closing;
  proposed = N.proposed;
  sheet = N.sheet;
}

-- the node with another pending set
abbrev pub with_pending : Set → Node → Node
with_pending P N = record {
  stage = N.stage;
  received = N.received;
  delivered = N.delivered;
  pending = P;
  early = N.early;
  heard = N.heard;
  kept = N.kept;
  check = N.check;
  closing = N.closing;
  proposed = N.proposed;
  sheet = N.sheet;
}

-- the node that has heard other nodes
abbrev pub with_heard : (ℕ → Set) → Node → Node
with_heard H N = record {
  stage = N.stage;
  received = N.received;
  delivered = N.delivered;
  pending = N.pending;
  early = N.early;
  heard = H;
  kept = N.kept;
  check = N.check;
  closing = N.closing;
  proposed = N.proposed;
  sheet = N.sheet;
}

-- the node that delivers the messages of a set early, the lowest first
abbrev pub with_early : Set → Node → Node
with_early E N = record {
  stage = N.stage;
  received = N.received;
  delivered = N.delivered;
  pending = N.pending;
  early = N.early ∪ E;
  heard = N.heard;
  kept = N.kept;
  check = N.check;
  closing = N.closing;
  proposed = N.proposed;
  sheet = N.sheet ++ ascending 64 E;
}

-- the node that keeps a check of node x, of the set S
abbrev pub with_check : ℕ → Set → Node → Node
with_check x S N = record {
  stage = N.stage;
  received = N.received;
  delivered = N.delivered;
  pending = N.pending;
  early = N.early;
  heard = N.heard;
  kept = N.kept ∪ only x;
  check = λ y. cond (y == x) S (N.check y);
  closing = N.closing;
  proposed = N.proposed;
  sheet = N.sheet;
}

-- the node that is closing its stage
abbrev pub with_closing : Node → Node
with_closing N = record {
  stage = N.stage;
  received = N.received;
  delivered = N.delivered;
  pending = N.pending;
  early = N.early;
  heard = N.heard;
  kept = N.kept;
  check = N.check;
  closing = true;
  proposed = N.proposed;
  sheet = N.sheet;
}

-- the node that has proposed
abbrev pub with_proposed : Node → Node
with_proposed N = record {
  stage = N.stage;
  received = N.received;
  delivered = N.delivered;
  pending = N.pending;
  early = N.early;
  heard = N.heard;
  kept = N.kept;
  check = N.check;
  closing = N.closing;
  proposed = true;
  sheet = N.sheet;
}

-- the node that has delivered a set, with its new sheet
abbrev pub with_delivered : Set → List ℕ → Node → Node
with_delivered G l N = record {
  stage = N.stage;
  received = N.received;
  delivered = G;
  pending = N.pending;
  early = N.early;
  heard = N.heard;
  kept = N.kept;
  check = N.check;
  closing = N.closing;
  proposed = N.proposed;
  sheet = l;
}

-- the node at the beginning of stage j: it keeps what it received and delivered, and its sheet
abbrev pub with_stage : ℕ → Node → Node
with_stage j N = record {
  stage = j;
  received = N.received;
  delivered = N.delivered;
  pending = none;
  early = none;
  heard = λ m. none;
  kept = none;
  check = λ x. none;
  closing = false;
  proposed = false;
  sheet = N.sheet;
}
