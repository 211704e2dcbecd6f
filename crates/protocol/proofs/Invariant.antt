-- The invariant of a run: what holds of the book, of the letters, of the chooser and of each node after every call.
-- What is said of a node is cut into records over just the parts that it speaks of, so that a call has to show again
-- only the records whose parts it changes.
use Rattle.std.proofs.Common.{◌≡◌, ℕ, ◌<◌, ◌≤◌, Bool, true, false, ◌⊎◌, List}
use Rattle.protocol.specs.Sets.{Set, ◌∈◌, ◌∉◌, count, ◌∪◌}
use Rattle.protocol.specs.Lists.{Mem, Once, Before}
use Rattle.protocol.specs.Ring.{Size, State, Node, Letter, data_letter, acknowledgement, check_letter, travelling, taken}
use Rattle.protocol.specs.Ring.{lost}
use Rattle.protocol.specs.Calls.{Chosen}
use Rattle.protocol.specs.Promises.{Unspoilt}
use Rattle.protocol.proofs.Facts.{Posted, Told, Acknowledged, Checked, past, Settled, Tallied, Cause, Precedes, Copy}

-- ---- a node

-- its stage j and its delivered set G: all earlier stages are decided, and G is just their decisions
pub record StageOk (s : State) (j : ℕ) (G : Set) : Type 0 where
  pub first : 1 ≤ j
  pub settled : Settled s j
  pub delivered_is : (m : ℕ) → G m ≡ past s j m

-- its received set R and its pending set P: it told all of R, and acknowledged all of P, which is new and free of conflict
pub record PendingOk (s : State) (r j : ℕ) (R G P : Set) : Type 0 where
  pub received_known : (m : ℕ) → m ∈ R → m < s.messages
  pub received_told : (m : ℕ) → m ∈ R → Told s r m
  pub pending_received : (m : ℕ) → m ∈ P → m ∈ R
  pub pending_new : (m : ℕ) → m ∈ P → m ∉ G
  pub pending_free : (a b : ℕ) → a ∈ P → b ∈ P → s.conflict a b ≡ false
  pub pending_sent : (m : ℕ) → m ∈ P → Acknowledged s r j m

-- whom it heard and what it delivered early: what a quorum acknowledged; while it gathers, all of that
pub record EarlyOk (z : Size) (s : State) (j : ℕ) (G E : Set) (H : ℕ → Set) (closing : Bool) : Type 0 where
  pub heard_from : (m x : ℕ) → x < z.n → x ∈ H m → Acknowledged s x j m
  pub early_heard : (m : ℕ) → m ∈ E → z.ack ≤ count z.n (H m)
  pub early_new : (m : ℕ) → m ∈ E → m ∉ G
  pub heard_early : (m : ℕ) → closing ≡ false → z.ack ≤ count z.n (H m) → (m ∈ G) ⊎ (m ∈ E)

-- the checks that it keeps were sent, and are not more than it needs
pub record ChecksOk (z : Size) (s : State) (j : ℕ) (K : Set) (T : ℕ → Set) : Type 0 where
  pub kept_from : (x : ℕ) → x < z.n → x ∈ K → Checked s x j (T x)
  pub kept_few : count z.n K ≤ z.chk

-- it sent a check in every stage that it closed, and proposed where its flag says so and in no stage to come
pub record ClosingOk (s : State) (r j : ℕ) (closing proposed : Bool) : Type 0 where
  pub closed : (i : ℕ) → 1 ≤ i → (i < j) ⊎ ((i ≡ j) × (closing ≡ true)) → (l : ℕ) × Posted s l check_letter r i
  pub proposed_when : (i : ℕ) → r ∈ s.proposers i → (i < j) ⊎ ((i ≡ j) × (closing ≡ true) × (proposed ≡ true))
  pub proposed_stands : proposed ≡ true → r ∈ s.proposers j

-- its sheet has the delivered and the early messages, each once, and orders conflicting ones as the decisions do
pub record SheetOk (s : State) (G E : Set) (l : List ℕ) : Type 0 where
  pub once : Once l
  pub has : (m : ℕ) → Mem m l → (m ∈ G) ⊎ (m ∈ E)
  pub has_delivered : (m : ℕ) → m ∈ G → Mem m l
  pub has_early : (m : ℕ) → m ∈ E → Mem m l
  pub known : (m : ℕ) → Mem m l → m < s.messages
  pub ordered : (a b : ℕ) → s.conflict a b ≡ true → Before l a b → Precedes s a b

-- a letter that it sent: an acknowledgement of its stage lies within its pending set, and a check of its stage is that set
pub record SentOk (s : State) (j : ℕ) (R P : Set) (closing : Bool) (L : Letter) : Type 0 where
  pub ack_stage : L.kind ≡ acknowledgement → L.stage ≤ j
  pub ack_pending : (m : ℕ) → L.kind ≡ acknowledgement → L.stage ≡ j → m ∈ L.set → m ∈ P
  pub check_stage : L.kind ≡ check_letter → (L.stage < j) ⊎ ((L.stage ≡ j) × (closing ≡ true) × (L.set ≡ P))
  pub check_cause : L.kind ≡ check_letter → Cause s L.stage R
  pub check_settled : L.kind ≡ check_letter → Settled s L.stage

-- a letter that it took: it has made use of it, unless the letter is of an earlier stage
pub record TakenOk (z : Size) (j : ℕ) (R : Set) (H : ℕ → Set) (K : Set) (closing : Bool) (L : Letter) : Type 0 where
  pub stage_le : L.stage ≤ j
  pub data_in : (m : ℕ) → L.kind ≡ data_letter → m ∈ L.set → m ∈ R
  pub ack_in : (m : ℕ) → L.kind ≡ acknowledgement → L.stage ≡ j → closing ≡ false → m ∈ L.set → L.sender ∈ H m
  pub check_in : L.kind ≡ check_letter → L.stage ≡ j → (L.sender ∈ K) ⊎ (z.chk ≤ count z.n K)

-- the two, of a whole node
abbrev pub SentBy : State → Node → Letter → Type 0
SentBy s N L = SentOk s N.stage N.received N.pending N.closing L

-- a letter that the node took
abbrev pub TakenBy : Size → Node → Letter → Type 0
TakenBy z N L = TakenOk z N.stage N.received N.heard N.kept N.closing L

-- node r, which is N
pub record NodeOk (z : Size) (s : State) (r : ℕ) (N : Node) : Type 0 where
  pub stage : StageOk s N.stage N.delivered
  pub pending : PendingOk s r N.stage N.received N.delivered N.pending
  pub early : EarlyOk z s N.stage N.delivered N.early N.heard N.closing
  pub checks : ChecksOk z s N.stage N.kept N.check
  pub closing : ClosingOk s r N.stage N.closing N.proposed
  pub sheet : SheetOk s N.delivered N.early N.sheet
  pub sent_letters : (i : ℕ) → i < s.sent → (s.letter i).sender ≡ r → SentBy s N (s.letter i)
  pub taken_letters : (i : ℕ) → i < s.sent → (s.letter i).receiver ≡ r → (s.letter i).mark ≡ taken → TakenBy z N (s.letter i)

-- ---- the letters

-- a letter gone astray: its sender or its receiver has crashed
abbrev pub Astray : State → Letter → Type 0
Astray s L = (L.sender ∉ s.live) ⊎ (L.receiver ∉ s.live)

-- a letter by itself: it is unspoilt, a check is free of conflict, and only a letter gone astray is lost
pub record LetterOk (z : Size) (s : State) (L : Letter) : Type 0 where
  pub unspoilt : Unspoilt z s L
  pub check_free : (a b : ℕ) → L.kind ≡ check_letter → a ∈ L.set → b ∈ L.set → s.conflict a b ≡ false
  pub marks : (L.mark ≡ travelling) ⊎ ((L.mark ≡ taken) ⊎ (L.mark ≡ lost))
  pub lost_astray : L.mark ≡ lost → Astray s L

-- two letters of one sender and one stage: its check has all that it acknowledged, and that is free of conflict
pub record PairOk (s : State) (A B : Letter) : Type 0 where
  pub ack_check : (m : ℕ) → A.sender ≡ B.sender → A.stage ≡ B.stage → A.kind ≡ acknowledgement → B.kind ≡ check_letter
      → m ∈ A.set → m ∈ B.set
  pub ack_free : (a b : ℕ) → A.sender ≡ B.sender → A.stage ≡ B.stage → A.kind ≡ acknowledgement
      → B.kind ≡ acknowledgement → a ∈ A.set → b ∈ B.set → s.conflict a b ≡ false

-- all letters, and a copy of each for every node
pub record PostOk (z : Size) (s : State) : Type 0 where
  pub each : (i : ℕ) → i < s.sent → LetterOk z s (s.letter i)
  pub pairs : (i l : ℕ) → i < s.sent → l < s.sent → PairOk s (s.letter i) (s.letter l)
  pub copies : (i y : ℕ) → i < s.sent → y < z.n → Copy s i y

-- ---- the book and the chooser

-- every message was told by the node that broadcast it
pub record BookOk (z : Size) (s : State) : Type 0 where
  pub messages_le : s.messages ≤ 64
  pub both_sides : (a b : ℕ) → s.conflict a b ≡ s.conflict b a
  pub not_itself : (a : ℕ) → s.conflict a a ≡ false
  pub told : (m : ℕ) → m < s.messages → Told s (s.broadcaster m) m

-- the proposal (M, D) of stage j: M is tallied, and the two hold two new messages that conflict
pub record ProposalOk (z : Size) (s : State) (j : ℕ) (M D : Set) : Type 0 where
  pub tallied : Tallied z s j M
  pub settled : Settled s j
  pub cause : Cause s j (M ∪ D)
  pub known : (m : ℕ) → m ∈ (M ∪ D) → m < s.messages

-- every proposal is a node's and is such, every decision is one of them, and enough of them make a decision
pub record ChooserOk (z : Size) (s : State) : Type 0 where
  pub proposer_in : (j r : ℕ) → r ∈ s.proposers j → r < z.n
  pub proposal : (j r : ℕ) → r < z.n → r ∈ s.proposers j
      → ProposalOk z s j (s.proposal_nonconflicting j r) (s.proposal_conflicting j r)
  pub chosen : (j : ℕ) → j ∈ s.decided → Chosen z s j
  pub decides : (j : ℕ) → z.need ≤ count z.n (s.proposers j) → j ∈ s.decided

-- ---- all of it

-- the invariant
pub record Ok (z : Size) (s : State) : Type 0 where
  pub book : BookOk z s
  pub post : PostOk z s
  pub chooser : ChooserOk z s
  pub nodes : (r : ℕ) → r < z.n → NodeOk z s r (s.node r)
