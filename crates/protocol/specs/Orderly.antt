-- What every call of a run keeps to, from the state s to the state t: what lasts, and who may do what.
use Rattle.std.specs.Prelude.{◌≡◌, ℕ, suc, ◌<◌, ◌≤◌, true, false, ◌⊎◌, List, ◌++◌, ◌≢◌}
use Rattle.protocol.specs.Sets.{Set, ◌∈◌, ◌∉◌}
use Rattle.protocol.specs.Lists.{fold}
use Rattle.protocol.specs.Ring.{Size, State, Node, Letter, data_letter, travelling}
use Rattle.protocol.specs.Nodes.{undelivered}
use Rattle.protocol.specs.Runs.{Run, Call}
use Rattle.protocol.specs.Promises.{sheet}

-- node r delivers the messages of l: they come behind what stands on its sheet, and who has played that plays on with them
pub record Delivers (s t : State) (r : ℕ) (l : List ℕ) : Type 0 where
  pub grows : sheet t r ≡ sheet s r ++ l
  pub plays_on : (after : List ℕ → ℕ → List ℕ) (q : List ℕ) → fold after q (sheet t r) ≡ fold after (fold after q (sheet s r)) l

-- What was delivered stays: each node delivers some messages more, or none.
abbrev pub SheetsGrow : Size → State → State → Type 0
SheetsGrow z s t = (r : ℕ) → r < z.n → (l : List ℕ) × Delivers s t r l

-- A letter that is taken or lost stays so.
abbrev pub EndedLettersStay : State → State → Type 0
EndedLettersStay s t = (i : ℕ) → i < s.sent → ((s.letter i).mark ≢ travelling) → t.letter i ≡ s.letter i

-- A stage that is decided stays so, by the same decision.
pub record DecisionsStay (s t : State) : Type 0 where
  pub decided : (j : ℕ) → j ∈ s.decided → j ∈ t.decided
  pub nonconflicting : (j : ℕ) → j ∈ s.decided → t.nonconflicting j ≡ s.nonconflicting j
  pub conflicting : (j : ℕ) → j ∈ s.decided → t.conflicting j ≡ s.conflicting j

-- the call sends the letter L
abbrev pub SentNow : State → State → Letter → Type 0
SentNow s t L = (i : ℕ) × (s.sent ≤ i) × (i < t.sent) × (t.letter i ≡ L)

-- A crashed node stays crashed, changes no more and sends nothing.
pub record CrashedNodesRest (z : Size) (s t : State) : Type 0 where
  pub crashed : (r : ℕ) → r ∉ s.live → r ∉ t.live
  pub same : (r : ℕ) → r < z.n → r ∉ s.live → t.node r ≡ s.node r
  pub silent : (L : Letter) → SentNow s t L → L.sender ∈ s.live

-- A closing node delivers nothing before it goes on to the next stage, and sends no acknowledgement and no check.
pub record ClosingNodesWait (z : Size) (s t : State) : Type 0 where
  pub same : (r : ℕ) → r < z.n → (s.node r).closing ≡ true → (t.node r).stage ≡ (s.node r).stage → sheet t r ≡ sheet s r
  pub silent : (L : Letter) → SentNow s t L → (L.kind ≢ data_letter) → (s.node L.sender).closing ≡ false

-- node r goes on to the next stage as N: it has proposed in its stage, which is decided, and begins anew
pub record GoesOn (s : State) (r : ℕ) (N : Node) : Type 0 where
  pub next : N.stage ≡ suc (s.node r).stage
  pub proposed : r ∈ s.proposers (s.node r).stage
  pub decided : (s.node r).stage ∈ s.decided
  pub gathers : N.closing ≡ false
  pub not_proposed : N.proposed ≡ false
  pub none_pending : (m : ℕ) → m ∉ N.pending
  pub none_early : (m : ℕ) → m ∉ N.early
  pub none_heard : (m x : ℕ) → x ∉ N.heard m
  pub none_kept : (x : ℕ) → x ∉ N.kept

-- A node stays in its stage, or goes on to the next.
abbrev pub StagesInTurn : Size → State → State → Type 0
StagesInTurn z s t = (r : ℕ) → r < z.n → ((t.node r).stage ≡ (s.node r).stage) ⊎ GoesOn s r (t.node r)

-- the proposal (M, D) of a node that is N holds all that it has to deliver, and no message in both parts
pub record InTwoParts (N : Node) (M D : Set) : Type 0 where
  pub all : (m : ℕ) → m ∈ undelivered N → (m ∈ M) ⊎ (m ∈ D)
  pub apart : (m : ℕ) → m ∈ M → m ∉ D

-- A node proposes in its own stage, and in two parts.
pub record ProposalsInTwoParts (s t : State) : Type 0 where
  pub own : (j r : ℕ) → r ∉ s.proposers j → r ∈ t.proposers j → j ≡ (s.node r).stage
  pub parts : (j r : ℕ) → r ∉ s.proposers j → r ∈ t.proposers j
      → InTwoParts (s.node r) (t.proposal_nonconflicting j r) (t.proposal_conflicting j r)

-- A node sends data of a message only as it broadcasts the message, or as it first receives another node's.
pub record DataSentOnce (s t : State) : Type 0 where
  pub new : (L : Letter) (m : ℕ) → SentNow s t L → L.kind ≡ data_letter → m ∈ L.set → m ∉ (s.node L.sender).received
  pub of_others : (L : Letter) (m : ℕ) → SentNow s t L → L.kind ≡ data_letter → m ∈ L.set
      → (m ≡ s.messages) ⊎ (s.broadcaster m ≢ L.sender)

-- a call that keeps to all of this
pub record Orderly (z : Size) (s t : State) : Type 0 where
  pub sheets_grow : SheetsGrow z s t
  pub ended_letters_stay : EndedLettersStay s t
  pub decisions_stay : DecisionsStay s t
  pub crashed_nodes_rest : CrashedNodesRest z s t
  pub closing_nodes_wait : ClosingNodesWait z s t
  pub stages_in_turn : StagesInTurn z s t
  pub proposals_in_two_parts : ProposalsInTwoParts s t
  pub data_sent_once : DataSentOnce s t

-- Each call of a run is orderly.
abbrev pub CallsAreOrderly : Type 0
CallsAreOrderly = (z : Size) (s t u : State) → Run z s t → Call z t u → Orderly z t u
