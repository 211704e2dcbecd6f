-- What a node works out, and what it becomes by each call, as a chain of setters.
use Rattle.std.specs.Prelude.{ℕ, suc, ◌/◌, false, not, ◌&&◌, ◌||◌, [], ◌++◌, ◌==◌, nat_le, nat_lt}
use Rattle.protocol.specs.Sets.{Set, count, none, only, ◌∖◌, ◌∪◌}
use Rattle.protocol.specs.Lists.{ascending}
use Rattle.protocol.specs.Ring.{Size, Node}
use Rattle.protocol.specs.Setters.{with_received, with_pending, with_heard, with_early, with_delivered, with_stage}

-- ---- the sets that a node works out

-- what it has to deliver: what it received and has not delivered in a finished stage
abbrev pub undelivered : Node → Set
undelivered N = N.received ∖ N.delivered

-- for each message whom it has heard, once an acknowledgement of S from x is heard too
abbrev pub heard_also : Node → ℕ → Set → ℕ → Set
heard_also N x S m = λ y. N.heard m y || (y == x && S m)

-- what it then has heard from an acknowledging quorum and has not delivered yet, early or in a finished stage
abbrev pub newly : Size → Node → ℕ → Set → Set
newly z N x S = λ m. nat_le z.ack (count z.n (heard_also N x S m)) && (not (N.delivered m) && not (N.early m))

-- the messages in more than half of chk checks, of those that it keeps
abbrev pub tally : Size → Node → Set
tally z N = λ m. nat_lt (z.chk / 2) (count z.n (λ x. N.kept x && N.check x m))

-- what a decision adds to its sheet first: the nonconflicting messages that it has not delivered yet
abbrev pub settled_first : Node → Set → Set
settled_first N NC = NC ∖ N.delivered ∖ N.early

-- and then: the conflicting messages that it has not delivered yet and that are not among the nonconflicting ones
abbrev pub settled_then : Node → Set → Set → Set
settled_then N NC C = C ∖ N.delivered ∖ N.early ∖ NC

-- ---- the node after each call

-- at the start of a run
abbrev pub fresh : Node
fresh = record {
  stage = 1;
  received = none;
  delivered = none;
  pending = none;
  early = none;
  heard = λ m. none;
  kept = none;
  check = λ x. none;
  closing = false;
  proposed = false;
  sheet = [];
}

-- after data of the message m
abbrev pub after_data : ℕ → Node → Node
after_data m N = with_received (N.received ∪ only m) N

-- after an acknowledgement of S by x
abbrev pub after_hearing : Size → ℕ → Set → Node → Node
after_hearing z x S N = with_early (newly z N x S) (with_heard (heard_also N x S) N)

-- after it acknowledged
abbrev pub after_acknowledging : Node → Node
after_acknowledging N = with_pending (undelivered N) N

-- after it settled its stage by the decision (NC, C)
abbrev pub after_settling : Set → Set → Node → Node
after_settling NC C N =
    with_stage (suc N.stage)
    (with_delivered (N.delivered ∪ N.early ∪ NC ∪ C)
    (N.sheet ++ ascending 64 (settled_first N NC) ++ ascending 64 (settled_then N NC C)) N)
