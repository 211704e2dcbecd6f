-- What can be done in a state that a run comes to: so a ring in which nothing can be done is quiet.
use Rattle.std.specs.Prelude.{◌≡◌, ℕ, suc, ◌<◌, ◌≤◌, true, false, ◌⊎◌, ◌≢◌}
use Rattle.protocol.specs.Sets.{◌∈◌, ◌∉◌, count}
use Rattle.protocol.specs.Ring.{Size, State, travelling, taken, lost}
use Rattle.protocol.specs.Nodes.{undelivered}
use Rattle.protocol.specs.Runs.{Run, Call}
use Rattle.protocol.specs.Promises.{Quiet}

-- some call leads from s to a state in which P holds
abbrev pub Can : Size → State → (State → Type 0) → Type 0
Can z s P = (t : State) × Call z s t × P t

-- x is a live node of the ring
abbrev pub Alive : Size → State → ℕ → Type 0
Alive z s x = (x < z.n) × (x ∈ s.live)

-- A live node can broadcast as long as there are fewer than 64 messages.
abbrev pub CanBroadcast : Size → State → Type 0
CanBroadcast z s = (r : ℕ) → Alive z s r → s.messages < 64 → Can z s (λ t. t.messages ≡ suc s.messages)

-- A letter that travels to a live node and is not of a later stage than that node can be received.
abbrev pub CanReceive : Size → State → Type 0
CanReceive z s =
    (i : ℕ) → i < s.sent → (s.letter i).mark ≡ travelling → (s.letter i).receiver ∈ s.live
    → (s.letter i).stage ≤ (s.node (s.letter i).receiver).stage → Can z s (λ t. (t.letter i).mark ≡ taken)

-- A gathering live node can acknowledge all that it has to deliver, or close its stage.
abbrev pub CanGather : Size → State → Type 0
CanGather z s =
    (r : ℕ) → Alive z s r → (s.node r).closing ≡ false
    → Can z s (λ t. ((m : ℕ) → m ∈ undelivered (s.node r) → m ∈ (t.node r).pending) ⊎ ((t.node r).closing ≡ true))

-- A closing live node that has not proposed, and keeps enough checks, can propose.
abbrev pub CanPropose : Size → State → Type 0
CanPropose z s =
    (r : ℕ) → Alive z s r → (s.node r).closing ≡ true → (s.node r).proposed ≡ false → z.chk ≤ count z.n (s.node r).kept
    → Can z s (λ t. (t.node r).proposed ≡ true)

-- A closing live node that has proposed, and whose stage is decided, can go on to the next stage.
abbrev pub CanSettle : Size → State → Type 0
CanSettle z s =
    (r : ℕ) → Alive z s r → (s.node r).closing ≡ true → (s.node r).proposed ≡ true → (s.node r).stage ∈ s.decided
    → Can z s (λ t. (t.node r).stage ≡ suc (s.node r).stage)

-- A live node can crash.
abbrev pub CanCrash : Size → State → Type 0
CanCrash z s = (r : ℕ) → Alive z s r → Can z s (λ t. r ∉ t.live)

-- A travelling letter of a crashed sender, or to a crashed receiver, can be lost.
abbrev pub CanLose : Size → State → Type 0
CanLose z s =
    (i : ℕ) → i < s.sent → (s.letter i).mark ≡ travelling → ((s.letter i).sender ∉ s.live) ⊎ ((s.letter i).receiver ∉ s.live)
    → Can z s (λ t. (t.letter i).mark ≡ lost)

-- a state in which all of this can be done
pub record CanGoOn (z : Size) (s : State) : Type 0 where
  pub can_broadcast : CanBroadcast z s
  pub can_receive : CanReceive z s
  pub can_gather : CanGather z s
  pub can_propose : CanPropose z s
  pub can_settle : CanSettle z s
  pub can_crash : CanCrash z s
  pub can_lose : CanLose z s

-- Every run can go on.
abbrev pub RunsCanGoOn : Type 0
RunsCanGoOn = (z : Size) (s t : State) → Run z s t → CanGoOn z t

-- Enough nodes live, and no call takes a letter, or makes a node acknowledge something new, close its stage, propose or go on.
pub record AtRest (z : Size) (s : State) : Type 0 where
  pub enough_ack : z.ack ≤ count z.n s.live
  pub enough_chk : z.chk ≤ count z.n s.live
  pub no_receipt : (t : State) (i : ℕ) → Call z s t → i < s.sent → (s.letter i).mark ≡ travelling → (t.letter i).mark ≢ taken
  pub no_acknowledgement : (t : State) (r m : ℕ) → Call z s t → r < z.n → m ∉ (s.node r).pending → m ∉ (t.node r).pending
  pub no_closing : (t : State) (r : ℕ) → Call z s t → r < z.n → (s.node r).closing ≡ false → (t.node r).closing ≡ false
  pub no_proposal : (t : State) (r : ℕ) → Call z s t → r < z.n → (s.node r).proposed ≡ false → (t.node r).proposed ≡ false
  pub no_settling : (t : State) (r : ℕ) → Call z s t → r < z.n → (t.node r).stage ≢ suc (s.node r).stage

-- A ring that a run comes to is quiet just if it is at rest.
abbrev pub QuietIsRest : Type 0
QuietIsRest = (z : Size) (s t : State) → Run z s t → (Quiet z t → AtRest z t) × (AtRest z t → Quiet z t)
