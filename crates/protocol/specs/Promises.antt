-- What every run of a ring promises of the state that it comes to.
use Rattle.std.specs.Prelude.{◌≡◌, ℕ, ◌+◌, ◌*◌, ◌<◌, ◌≤◌, Bool, true, false, ◌⊎◌, List, ◌≢◌}
use Rattle.protocol.specs.Sets.{◌∈◌, ◌∉◌, count, only}
use Rattle.protocol.specs.Lists.{Mem, Once, Before, fold}
use Rattle.protocol.specs.Ring.{Size, State, Letter, data_letter, acknowledgement, check_letter, travelling}
use Rattle.protocol.specs.Runs.{Run}

-- the sheet of node r
abbrev pub sheet : State → ℕ → List ℕ
sheet s r = (s.node r).sheet

-- ---- the sheets

-- Two conflicting messages that stand on two sheets stand in the same order on both, whether the nodes live or not.
abbrev pub ConflictsInOneOrder : Size → State → Type 0
ConflictsInOneOrder z s =
    (r x a b : ℕ) → r < z.n → x < z.n → s.conflict a b ≡ true
    → Mem a (sheet s x) → Mem b (sheet s x) → Before (sheet s r) a b → Before (sheet s x) a b

-- No message stands on a sheet twice.
abbrev pub DeliveredOnce : Size → State → Type 0
DeliveredOnce z s = (r : ℕ) → r < z.n → Once (sheet s r)

-- Every message on a sheet was broadcast.
abbrev pub DeliveredIsBroadcast : Size → State → Type 0
DeliveredIsBroadcast z s = (r m : ℕ) → r < z.n → Mem m (sheet s r) → m < s.messages

-- A machine that takes messages, and in which messages that do not conflict commute wherever its state is one that fits.
-- Its laws are asked of all numbers, also of those that no broadcast message has.
pub record Machine (conflict : ℕ → ℕ → Bool) : Type 0 where
  pub after : List ℕ → ℕ → List ℕ
  pub fits : List ℕ → Bool
  pub keeps : (q : List ℕ) (x : ℕ) → fits q ≡ true → fits (after q x) ≡ true
  pub commute : (q : List ℕ) (x y : ℕ) → fits q ≡ true → conflict x y ≡ false → after (after q x) y ≡ after (after q y) x

-- Two sheets with the same messages bring such a machine to the same state.
abbrev pub SameSheetsSameResult : Size → State → Type 0
SameSheetsSameResult z s =
    (K : Machine s.conflict) (r x : ℕ) → r < z.n → x < z.n
    → ((m : ℕ) → Mem m (sheet s r) → Mem m (sheet s x)) → ((m : ℕ) → Mem m (sheet s x) → Mem m (sheet s r))
    → (q : List ℕ) → K.fits q ≡ true → fold K.after q (sheet s r) ≡ fold K.after q (sheet s x)

-- ---- rest

-- Enough nodes live, and no live node can receive a letter or take a step.
pub record Quiet (z : Size) (s : State) : Type 0 where
  pub enough_ack : z.ack ≤ count z.n s.live
  pub enough_chk : z.chk ≤ count z.n s.live
  -- a letter that still travels to a live node is of a later stage than that node
  pub no_receipt : (i : ℕ) → i < s.sent → (s.letter i).mark ≡ travelling → (s.letter i).receiver ∈ s.live
      → (s.node (s.letter i).receiver).stage < (s.letter i).stage
  -- a gathering node has acknowledged all that it has to deliver
  pub no_gathering : (r m : ℕ) → r < z.n → r ∈ s.live → (s.node r).closing ≡ false
      → m ∈ (s.node r).received → m ∉ (s.node r).delivered → m ∈ (s.node r).pending
  -- a closing node that has not proposed keeps too few checks, or the chooser would refuse it
  pub no_proposal : (r : ℕ) → r < z.n → r ∈ s.live → (s.node r).closing ≡ true → (s.node r).proposed ≡ false
      → (count z.n (s.node r).kept < z.chk) ⊎ ((32 < (s.node r).stage) ⊎ (r ∈ s.proposers (s.node r).stage))
  -- a closing node that has proposed finds its stage undecided, or the chooser would refuse it
  pub no_settling : (r : ℕ) → r < z.n → r ∈ s.live → (s.node r).closing ≡ true → (s.node r).proposed ≡ true
      → ((s.node r).stage ∉ s.decided) ⊎ (32 < (s.node r).stage)

-- When a ring is quiet, every live node has delivered what any node delivered.
abbrev pub DeliveredEverywhere : Size → State → Type 0
DeliveredEverywhere z s = (x r m : ℕ) → x < z.n → r < z.n → r ∈ s.live → Mem m (sheet s x) → Mem m (sheet s r)

-- When a ring is quiet, every live node has delivered what any live node broadcast.
abbrev pub BroadcastIsDelivered : Size → State → Type 0
BroadcastIsDelivered z s = (m r : ℕ) → m < s.messages → s.broadcaster m ∈ s.live → r < z.n → r ∈ s.live → Mem m (sheet s r)

-- ---- stages

-- the decision of stage j has the message m, in one of its two parts
abbrev pub DecisionHas : State → ℕ → ℕ → Type 0
DecisionHas s j m = (m ∈ s.nonconflicting j) ⊎ (m ∈ s.conflicting j)

-- stage j put the message m into the delivered set of node r: its decision has m, and no decision of an earlier stage has
pub record PutBy (s : State) (j r m : ℕ) : Type 0 where
  pub broadcast : m < s.messages
  pub has : DecisionHas s j m
  pub new : (i : ℕ) → i < j → DecisionHas s i m → ⊥
  pub delivered : m ∈ (s.node r).delivered

-- stage j is decided, and put two different messages into the delivered set of node r
pub record PutsTwo (s : State) (j r : ℕ) : Type 0 where
  pub decided : j ∈ s.decided
  pub a : ℕ
  pub b : ℕ
  pub different : a ≡ b → ⊥
  pub one : PutBy s j r a
  pub other : PutBy s j r b

-- Every finished stage of a node put two different messages into its delivered set that no earlier decision has.
abbrev pub StagesPutTwo : Size → State → Type 0
StagesPutTwo z s = (r j : ℕ) → r < z.n → 1 ≤ j → j < (s.node r).stage → PutsTwo s j r

-- Every finished stage put at least two messages into the delivered set.
abbrev pub TwoMessagesAStage : Size → State → Type 0
TwoMessagesAStage z s = (r : ℕ) → r < z.n → 2 * (s.node r).stage ≤ count s.messages (s.node r).delivered + 2

-- So a stage is at most one more than half the messages.
abbrev pub FewStages : Size → State → Type 0
FewStages z s = (r : ℕ) → r < z.n → 2 * (s.node r).stage ≤ s.messages + 2

-- And a stage that is being closed is at most half the messages.
abbrev pub FewStagesClosing : Size → State → Type 0
FewStagesClosing z s = (r : ℕ) → r < z.n → (s.node r).closing ≡ true → 2 * (s.node r).stage ≤ s.messages

-- ---- the chooser: no proposal or question to a chooser of 32 stages is refused in a run

-- a chooser of the stages 1 to 32 and the nodes 0 to 6 has stage j and node r
pub record ChooserHas (j r : ℕ) : Type 0 where
  pub stage_low : 1 ≤ j
  pub stage_high : j ≤ 32
  pub node_high : r ≤ 6

-- A chooser of 32 stages has the stage of every node that may ask it.
abbrev pub ChooserHasTheStage : Size → State → Type 0
ChooserHasTheStage z s = (r : ℕ) → r < z.n → (s.node r).closing ≡ true → (s.node r).stage ≤ 32

-- And such a chooser has the stage and the number of every node that may ask it: only a closing node does.
abbrev pub ChooserHasTheNode : Size → State → Type 0
ChooserHasTheNode z s = (r : ℕ) → r < z.n → (s.node r).closing ≡ true → ChooserHas (s.node r).stage r

-- And it refuses no proposal as a second one: who has not proposed in its stage is not among its proposers.
abbrev pub ChooserAwaitsTheProposal : Size → State → Type 0
ChooserAwaitsTheProposal z s = (r : ℕ) → r < z.n → (s.node r).proposed ≡ false → r ∉ s.proposers (s.node r).stage

-- ---- letters

-- A letter as a call sends it: of a known kind, between nodes of the ring, with messages that were broadcast,
-- and data has stage 0 and one message.
pub record Unspoilt (z : Size) (s : State) (L : Letter) : Type 0 where
  pub kinds : (L.kind ≡ data_letter) ⊎ ((L.kind ≡ acknowledgement) ⊎ (L.kind ≡ check_letter))
  pub sender_in : L.sender < z.n
  pub receiver_in : L.receiver < z.n
  pub known : (m : ℕ) → m ∈ L.set → m < s.messages
  pub data_stage : L.kind ≡ data_letter → L.stage ≡ 0
  pub data_one : L.kind ≡ data_letter → (m : ℕ) × (L.set ≡ only m)
  pub later : (L.kind ≢ data_letter) → 1 ≤ L.stage

-- No letter of a run is spoilt.
abbrev pub NoLetterSpoilt : Size → State → Type 0
NoLetterSpoilt z s = (i : ℕ) → i < s.sent → Unspoilt z s (s.letter i)

-- ---- runs without a conflict

-- No two messages of the run conflict.
abbrev pub FreeOfConflict : State → Type 0
FreeOfConflict s = (a b : ℕ) → a < s.messages → b < s.messages → s.conflict a b ≡ false

-- No node ever closed a stage, and the chooser got no proposal.
pub record NeverClosed (z : Size) (s : State) : Type 0 where
  pub no_check : (i : ℕ) → i < s.sent → (s.letter i).kind ≢ check_letter
  pub gathering : (r : ℕ) → r < z.n → (s.node r).closing ≡ false
  pub first_stage : (r : ℕ) → r < z.n → (s.node r).stage ≡ 1
  pub no_proposal : (j r : ℕ) → r ∉ s.proposers j

-- ---- all of it

-- a state that keeps every promise
pub record Sound (z : Size) (s : State) : Type 0 where
  pub one_order : ConflictsInOneOrder z s
  pub once : DeliveredOnce z s
  pub broadcast : DeliveredIsBroadcast z s
  pub same_result : SameSheetsSameResult z s
  pub everywhere : Quiet z s → DeliveredEverywhere z s
  pub delivered : Quiet z s → BroadcastIsDelivered z s
  pub stages_put_two : StagesPutTwo z s
  pub two_a_stage : TwoMessagesAStage z s
  pub few_stages : FewStages z s
  pub few_stages_closing : FewStagesClosing z s
  pub has_the_stage : ChooserHasTheStage z s
  pub has_the_node : ChooserHasTheNode z s
  pub awaits_the_proposal : ChooserAwaitsTheProposal z s
  pub unspoilt : NoLetterSpoilt z s
  pub never_closed : FreeOfConflict s → NeverClosed z s

-- The theorem: whatever calls a run makes, it comes to a sound state.
abbrev pub RunsAreSound : Type 0
RunsAreSound = (z : Size) (s t : State) → Run z s t → Sound z t
