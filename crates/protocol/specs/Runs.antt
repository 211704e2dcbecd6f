-- Runs of a ring: a start, and then any list of calls, refused ones included.
use Rattle.std.specs.Prelude.{◌≡◌, ℕ, ◌<◌, false}
use Rattle.protocol.specs.Sets.{◌∈◌, ◌∉◌}
use Rattle.protocol.specs.Ring.{Size, State}
use Rattle.protocol.specs.Nodes.{fresh}
use Rattle.protocol.specs.Calls.{Broadcasts, ReceivesKnown, ReceivesOwn, Relays, Hears, PassesAcknowledgement}
use Rattle.protocol.specs.Calls.{KeepsCheck, PassesCheck, Acknowledges, Closes, Proposes, Settles, Crashes, Loses}

-- before any call: no message, no letter, fresh nodes that all live, and a chooser that nobody asked, with nothing for
-- stage 0, which is never used
pub record Start (z : Size) (s : State) : Type 0 where
  pub messages : s.messages ≡ 0
  pub sent : s.sent ≡ 0
  pub nodes : (r : ℕ) → r < z.n → s.node r ≡ fresh
  pub live : (r : ℕ) → r < z.n → r ∈ s.live
  pub proposers : (j r : ℕ) → r ∉ s.proposers j
  pub decided : (j : ℕ) → j ∉ s.decided
  pub nonconflicting : (m : ℕ) → m ∉ s.nonconflicting 0
  pub conflicting : (m : ℕ) → m ∉ s.conflicting 0
  pub both_sides : (a b : ℕ) → s.conflict a b ≡ s.conflict b a
  pub not_itself : (a : ℕ) → s.conflict a a ≡ false

-- one call, accepted or refused
pub data Call (z : Size) (s t : State) : Type 0 where
  broadcasts : (r : ℕ) → Broadcasts z s t r → Call z s t
  receives_known : (i m : ℕ) → ReceivesKnown z s t i m → Call z s t
  receives_own : (i m : ℕ) → ReceivesOwn z s t i m → Call z s t
  relays : (i m : ℕ) → Relays z s t i m → Call z s t
  hears : (i : ℕ) → Hears z s t i → Call z s t
  passes_acknowledgement : (i : ℕ) → PassesAcknowledgement z s t i → Call z s t
  keeps_check : (i : ℕ) → KeepsCheck z s t i → Call z s t
  passes_check : (i : ℕ) → PassesCheck z s t i → Call z s t
  acknowledges : (r : ℕ) → Acknowledges z s t r → Call z s t
  closes : (r a b : ℕ) → Closes z s t r a b → Call z s t
  proposes : (r : ℕ) → Proposes z s t r → Call z s t
  settles : (r : ℕ) → Settles z s t r → Call z s t
  crashes : (r : ℕ) → Crashes z s t r → Call z s t
  loses : (i : ℕ) → Loses z s t i → Call z s t
  -- a refused call changes nothing
  refused : t ≡ s → Call z s t

-- any list of calls, from the start s to the state t
pub data Run (z : Size) (s : State) : State → Type 0 where
  starts : Start z s → Run z s s
  goes_on : {t u : State} → Run z s t → Call z t u → Run z s u
