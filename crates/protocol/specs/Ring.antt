-- A ring of nodes that broadcast messages to one another: its size, its letters, its nodes and its whole state.
-- Messages, nodes, stages and the places of letters are numbers; stages count from 1, the others from 0.
use Rattle.std.specs.Prelude.{ℕ, ◌+◌, ◌*◌, ◌<◌, ◌≤◌, Bool, List}
use Rattle.protocol.specs.Sets.{Set}

-- How many nodes there are and how large the quorums are. It never changes in a run.
pub record Size : Type 0 where
  -- the number of nodes
  pub n : ℕ
  -- so many acknowledgements deliver a message early
  pub ack : ℕ
  -- so many checks let a closing node propose
  pub chk : ℕ
  -- so many proposals make the chooser decide a stage
  pub need : ℕ
  -- neither quorum is larger than the ring
  pub ack_le : ack ≤ n
  pub chk_le : chk ≤ n
  -- an acknowledging quorum meets more than half of every quorum of checks
  pub meet : 2 * n < 2 * ack + chk
  -- no stage is decided before someone proposed, and all that send the checks of a stage are enough to decide it
  pub need_pos : 1 ≤ need
  pub need_le : need ≤ chk
  -- a ring has at most seven nodes
  pub n_le : n ≤ 7

-- the kind of data, which carries one message
abbrev pub data_letter : ℕ
data_letter = 1

-- the kind of acknowledgements, each of a set that its sender keeps pending
abbrev pub acknowledgement : ℕ
acknowledgement = 2

-- the kind of checks, each of the whole set that its sender kept pending when it closed its stage
abbrev pub check_letter : ℕ
check_letter = 3

-- the mark of a letter that is still under way
abbrev pub travelling : ℕ
travelling = 1

-- the mark of a letter that its receiver took
abbrev pub taken : ℕ
taken = 2

-- the mark of a letter that is lost with a crash
abbrev pub lost : ℕ
lost = 3

-- A letter from one node to one node, of a stage (data has stage 0), with a set of messages.
pub record Letter : Type 0 where
  pub sender : ℕ
  pub receiver : ℕ
  pub kind : ℕ
  pub mark : ℕ
  pub stage : ℕ
  pub set : Set

-- What a node knows. It gathers until it sees two conflicting messages, and then closes its stage.
pub record Node : Type 0 where
  pub stage : ℕ
  -- every message that reached it
  pub received : Set
  -- the messages of its finished stages
  pub delivered : Set
  -- what it acknowledged in this stage
  pub pending : Set
  -- what it delivered in this stage ahead of any decision
  pub early : Set
  -- for each message, the nodes whose acknowledgement of this stage it heard
  pub heard : ℕ → Set
  -- the nodes whose check of this stage it keeps, and the set of each
  pub kept : Set
  pub check : ℕ → Set
  -- whether it is closing its stage, and whether it has proposed in it
  pub closing : Bool
  pub proposed : Bool
  -- all that it delivered, in order
  pub sheet : List ℕ

-- The whole state: the book of messages, the letters, the nodes and the chooser.
pub record State : Type 0 where
  -- how many messages were broadcast, which of them conflict, and who broadcast each
  pub messages : ℕ
  pub conflict : ℕ → ℕ → Bool
  pub broadcaster : ℕ → ℕ
  -- how many letters were sent, and the letter at each place
  pub sent : ℕ
  pub letter : ℕ → Letter
  pub node : ℕ → Node
  -- the nodes that have not crashed
  pub live : Set
  -- the chooser: the nodes that proposed in a stage, and the proposal of each, as two sets
  pub proposers : ℕ → Set
  pub proposal_nonconflicting : ℕ → ℕ → Set
  pub proposal_conflicting : ℕ → ℕ → Set
  -- the stages that are decided, and the decision of each
  pub decided : Set
  pub nonconflicting : ℕ → Set
  pub conflicting : ℕ → Set
