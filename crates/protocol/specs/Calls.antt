-- The calls that bring a ring from a state s to a state t, each by its conditions and by what it changes.
use Rattle.std.specs.Prelude.{◌≡◌, ℕ, suc, ◌+◌, ◌<◌, ◌≤◌, true, false, ◌⊎◌, ◌≢◌}
use Rattle.protocol.specs.Sets.{Set, ◌∈◌, ◌∉◌, count, only, ◌∖◌}
use Rattle.protocol.specs.Ring.{Size, State, Node, Letter, data_letter, acknowledgement, check_letter, travelling, taken}
use Rattle.protocol.specs.Ring.{lost}
use Rattle.protocol.specs.Setters.{with_check, with_closing, with_proposed}
use Rattle.protocol.specs.Nodes.{after_data, after_hearing, after_acknowledging, after_settling, undelivered, tally}

-- ---- what a call may leave as it is

-- no message is broadcast
pub record SameBook (s t : State) : Type 0 where
  pub messages : t.messages ≡ s.messages
  pub conflict : t.conflict ≡ s.conflict
  pub broadcaster : t.broadcaster ≡ s.broadcaster

-- nothing is proposed and nothing decided
pub record SameChooser (s t : State) : Type 0 where
  pub proposers : t.proposers ≡ s.proposers
  pub proposal_nonconflicting : t.proposal_nonconflicting ≡ s.proposal_nonconflicting
  pub proposal_conflicting : t.proposal_conflicting ≡ s.proposal_conflicting
  pub decided : t.decided ≡ s.decided
  pub nonconflicting : t.nonconflicting ≡ s.nonconflicting
  pub conflicting : t.conflicting ≡ s.conflicting

-- no letter that was sent before changes
abbrev pub SameLetters : State → State → Type 0
SameLetters s t = (i : ℕ) → i < s.sent → t.letter i ≡ s.letter i

-- no letter is sent
abbrev pub NoneSent : State → State → Type 0
NoneSent s t = t.sent ≡ s.sent

-- no node changes
abbrev pub SameNodes : Size → State → State → Type 0
SameNodes z s t = (x : ℕ) → x < z.n → t.node x ≡ s.node x

-- no node crashes
abbrev pub SameLive : State → State → Type 0
SameLive s t = t.live ≡ s.live

-- ---- what a call may change

-- a letter as it is sent
abbrev pub new_letter : ℕ → ℕ → ℕ → ℕ → Set → Letter
new_letter x y kind j S = record { sender = x; receiver = y; kind = kind; mark = travelling; stage = j; set = S }

-- the letter with another mark
abbrev pub marked : Letter → ℕ → Letter
marked L v = record { sender = L.sender; receiver = L.receiver; kind = L.kind; mark = v; stage = L.stage; set = L.set }

-- the letter at place i gets the mark v, and no other letter changes
pub record Marks (s t : State) (i v : ℕ) : Type 0 where
  pub here : t.letter i ≡ marked (s.letter i) v
  pub others : (l : ℕ) → l < s.sent → (l ≢ i) → t.letter l ≡ s.letter l

-- x sends a letter to each node, itself too: they stand at the next n places
pub record Sends (z : Size) (s t : State) (x kind j : ℕ) (S : Set) : Type 0 where
  pub places : t.sent ≡ s.sent + z.n
  pub new : (y : ℕ) → y < z.n → t.letter (s.sent + y) ≡ new_letter x y kind j S

-- node r becomes N, and no other node changes
pub record Becomes (z : Size) (s t : State) (r : ℕ) (N : Node) : Type 0 where
  pub here : t.node r ≡ N
  pub others : (x : ℕ) → x < z.n → (x ≢ r) → t.node x ≡ s.node x

-- the decision of stage l is a proposal that some node made in it
pub record Chosen (z : Size) (s : State) (l : ℕ) : Type 0 where
  pub by : ℕ
  pub in_ring : by < z.n
  pub made : by ∈ s.proposers l
  pub nonconflicting : s.nonconflicting l ≡ s.proposal_nonconflicting l by
  pub conflicting : s.conflicting l ≡ s.proposal_conflicting l by

-- r proposes (M, D) in stage j. The chooser keeps what it had; it decides a stage once enough nodes proposed in it,
-- or before, and always by one of the proposals made.
pub record HandsIn (z : Size) (s t : State) (r j : ℕ) (M D : Set) : Type 0 where
  pub first : r ∉ s.proposers j
  pub stands : r ∈ t.proposers j
  pub nonconflicting_is : t.proposal_nonconflicting j r ≡ M
  pub conflicting_is : t.proposal_conflicting j r ≡ D
  pub kept : (l x : ℕ) → x ∈ s.proposers l → x ∈ t.proposers l
  pub nonconflicting_kept : (l x : ℕ) → x ∈ s.proposers l → t.proposal_nonconflicting l x ≡ s.proposal_nonconflicting l x
  pub conflicting_kept : (l x : ℕ) → x ∈ s.proposers l → t.proposal_conflicting l x ≡ s.proposal_conflicting l x
  pub no_other : (l x : ℕ) → x ∈ t.proposers l → (x ∈ s.proposers l) ⊎ ((l ≡ j) × (x ≡ r))
  pub decisions_kept : (l : ℕ) → l ∈ s.decided → l ∈ t.decided
  pub first_kept : (l : ℕ) → (l ∈ s.decided) ⊎ (l ≢ j) → t.nonconflicting l ≡ s.nonconflicting l
  pub second_kept : (l : ℕ) → (l ∈ s.decided) ⊎ (l ≢ j) → t.conflicting l ≡ s.conflicting l
  pub chosen : (l : ℕ) → l ∈ t.decided → Chosen z t l
  pub decides : (l : ℕ) → z.need ≤ count z.n (t.proposers l) → l ∈ t.decided

-- ---- broadcasting

-- r broadcasts the next message. Whether it conflicts with the earlier ones is told now, and never changes.
pub record Broadcasts (z : Size) (s t : State) (r : ℕ) : Type 0 where
  pub in_ring : r < z.n
  pub alive : r ∈ s.live
  pub room : s.messages < 64
  pub messages : t.messages ≡ suc s.messages
  pub broadcaster : t.broadcaster s.messages ≡ r
  pub broadcaster_kept : (m : ℕ) → m < s.messages → t.broadcaster m ≡ s.broadcaster m
  pub conflict_kept : (a b : ℕ) → a < s.messages → b < s.messages → t.conflict a b ≡ s.conflict a b
  pub both_sides : (a b : ℕ) → t.conflict a b ≡ t.conflict b a
  pub not_itself : (a : ℕ) → t.conflict a a ≡ false
  pub sends : Sends z s t r data_letter 0 (only s.messages)
  pub letters : SameLetters s t
  pub nodes : SameNodes z s t
  pub chooser : SameChooser s t
  pub live : SameLive s t

-- ---- receiving

-- the node that the letter at place i is for
abbrev pub taker : State → ℕ → Node
taker s i = s.node (s.letter i).receiver

-- the letter at place i travels to a live node, is not of a later stage than that node, and is taken
pub record Takes (s t : State) (i : ℕ) : Type 0 where
  pub place : i < s.sent
  pub travels : (s.letter i).mark ≡ travelling
  pub alive : (s.letter i).receiver ∈ s.live
  pub not_ahead : (s.letter i).stage ≤ (taker s i).stage
  pub marks : Marks s t i taken
  pub book : SameBook s t
  pub chooser : SameChooser s t
  pub live : SameLive s t

-- data of a message that the receiver has: nothing else changes
pub record ReceivesKnown (z : Size) (s t : State) (i m : ℕ) : Type 0 where
  pub takes : Takes s t i
  pub kind : (s.letter i).kind ≡ data_letter
  pub message : (s.letter i).set ≡ only m
  pub known : m ∈ (taker s i).received
  pub silent : NoneSent s t
  pub nodes : SameNodes z s t

-- data of a new message that is the receiver's own: it need not relay it
pub record ReceivesOwn (z : Size) (s t : State) (i m : ℕ) : Type 0 where
  pub takes : Takes s t i
  pub kind : (s.letter i).kind ≡ data_letter
  pub message : (s.letter i).set ≡ only m
  pub new : m ∉ (taker s i).received
  pub own : s.broadcaster m ≡ (s.letter i).receiver
  pub silent : NoneSent s t
  pub becomes : Becomes z s t (s.letter i).receiver (after_data m (taker s i))

-- data of a new message of another node: the receiver sends it on to all
pub record Relays (z : Size) (s t : State) (i m : ℕ) : Type 0 where
  pub takes : Takes s t i
  pub kind : (s.letter i).kind ≡ data_letter
  pub message : (s.letter i).set ≡ only m
  pub new : m ∉ (taker s i).received
  pub not_own : s.broadcaster m ≡ (s.letter i).receiver → ⊥
  pub sends : Sends z s t (s.letter i).receiver data_letter 0 (only m)
  pub becomes : Becomes z s t (s.letter i).receiver (after_data m (taker s i))

-- an acknowledgement of the receiver's stage, while it gathers: it delivers what now has a quorum
pub record Hears (z : Size) (s t : State) (i : ℕ) : Type 0 where
  pub takes : Takes s t i
  pub kind : (s.letter i).kind ≡ acknowledgement
  pub stage : (s.letter i).stage ≡ (taker s i).stage
  pub gathering : (taker s i).closing ≡ false
  pub silent : NoneSent s t
  pub becomes : Becomes z s t (s.letter i).receiver (after_hearing z (s.letter i).sender (s.letter i).set (taker s i))

-- an acknowledgement of an earlier stage, or one that comes while the receiver closes: nothing else changes
pub record PassesAcknowledgement (z : Size) (s t : State) (i : ℕ) : Type 0 where
  pub takes : Takes s t i
  pub kind : (s.letter i).kind ≡ acknowledgement
  pub late : ((s.letter i).stage < (taker s i).stage) ⊎ ((taker s i).closing ≡ true)
  pub silent : NoneSent s t
  pub nodes : SameNodes z s t

-- a check of the receiver's stage, from a node of which it keeps none, while it keeps too few: it keeps it
pub record KeepsCheck (z : Size) (s t : State) (i : ℕ) : Type 0 where
  pub takes : Takes s t i
  pub kind : (s.letter i).kind ≡ check_letter
  pub stage : (s.letter i).stage ≡ (taker s i).stage
  pub few : count z.n (taker s i).kept < z.chk
  pub new : (s.letter i).sender ∉ (taker s i).kept
  pub silent : NoneSent s t
  pub becomes : Becomes z s t (s.letter i).receiver (with_check (s.letter i).sender (s.letter i).set (taker s i))

-- any other check: nothing else changes
pub record PassesCheck (z : Size) (s t : State) (i : ℕ) : Type 0 where
  pub takes : Takes s t i
  pub kind : (s.letter i).kind ≡ check_letter
  pub late : ((s.letter i).stage < (taker s i).stage) ⊎
      ((z.chk ≤ count z.n (taker s i).kept) ⊎ ((s.letter i).sender ∈ (taker s i).kept))
  pub silent : NoneSent s t
  pub nodes : SameNodes z s t

-- ---- stepping

-- a live node acts of its own accord
pub record Steps (z : Size) (s t : State) (r : ℕ) : Type 0 where
  pub in_ring : r < z.n
  pub alive : r ∈ s.live
  pub letters : SameLetters s t
  pub book : SameBook s t
  pub live : SameLive s t

-- a gathering node acknowledges to all what it has to deliver, where no two of that conflict
pub record Acknowledges (z : Size) (s t : State) (r : ℕ) : Type 0 where
  pub steps : Steps z s t r
  pub gathering : (s.node r).closing ≡ false
  pub free : (a b : ℕ) → a ∈ undelivered (s.node r) → b ∈ undelivered (s.node r) → s.conflict a b ≡ false
  pub sends : Sends z s t r acknowledgement (s.node r).stage (undelivered (s.node r))
  pub becomes : Becomes z s t r (after_acknowledging (s.node r))
  pub chooser : SameChooser s t

-- a gathering node that has two conflicting messages a and b to deliver sends its pending set as a check, and closes its stage
pub record Closes (z : Size) (s t : State) (r a b : ℕ) : Type 0 where
  pub steps : Steps z s t r
  pub gathering : (s.node r).closing ≡ false
  pub conflict : s.conflict a b ≡ true
  pub one : a ∈ undelivered (s.node r)
  pub other : b ∈ undelivered (s.node r)
  pub sends : Sends z s t r check_letter (s.node r).stage (s.node r).pending
  pub becomes : Becomes z s t r (with_closing (s.node r))
  pub chooser : SameChooser s t

-- a closing node that keeps enough checks proposes: as nonconflicting what more than half of them have, as conflicting
-- what else it has to deliver
pub record Proposes (z : Size) (s t : State) (r : ℕ) : Type 0 where
  pub steps : Steps z s t r
  pub closing : (s.node r).closing ≡ true
  pub not_yet : (s.node r).proposed ≡ false
  pub enough : z.chk ≤ count z.n (s.node r).kept
  pub hands_in : HandsIn z s t r (s.node r).stage (tally z (s.node r)) (undelivered (s.node r) ∖ tally z (s.node r))
  pub becomes : Becomes z s t r (with_proposed (s.node r))
  pub silent : NoneSent s t

-- a closing node that has proposed and whose stage is decided delivers the decision, and goes on to the next stage
pub record Settles (z : Size) (s t : State) (r : ℕ) : Type 0 where
  pub steps : Steps z s t r
  pub closing : (s.node r).closing ≡ true
  pub proposed : (s.node r).proposed ≡ true
  pub decided : (s.node r).stage ∈ s.decided
  pub becomes : Becomes z s t r
      (after_settling (s.nonconflicting (s.node r).stage) (s.conflicting (s.node r).stage) (s.node r))
  pub chooser : SameChooser s t
  pub silent : NoneSent s t

-- ---- failing

-- the live node r crashes
pub record Crashes (z : Size) (s t : State) (r : ℕ) : Type 0 where
  pub in_ring : r < z.n
  pub alive : r ∈ s.live
  pub live : t.live ≡ s.live ∖ only r
  pub letters : SameLetters s t
  pub silent : NoneSent s t
  pub book : SameBook s t
  pub chooser : SameChooser s t
  pub nodes : SameNodes z s t

-- a travelling letter of a crashed sender or to a crashed receiver is lost
pub record Loses (z : Size) (s t : State) (i : ℕ) : Type 0 where
  pub place : i < s.sent
  pub travels : (s.letter i).mark ≡ travelling
  pub crashed : ((s.letter i).sender ∉ s.live) ⊎ ((s.letter i).receiver ∉ s.live)
  pub marks : Marks s t i lost
  pub silent : NoneSent s t
  pub book : SameBook s t
  pub chooser : SameChooser s t
  pub nodes : SameNodes z s t
  pub live : SameLive s t
