-- Days that there are, so that no promise and no definition is empty. Their rings keep a kitty and ask First-come.
use Rattle.std.specs.Prelude.{◌≡◌, ℕ, ◌<◌, Bool, true, false, ◌&&◌, [], ◌∷◌, pos, Some, Ok, is_ok}
use Rattle.record.specs.Kind.{Kind, Laws}
use Rattle.record.specs.Kitty.{kitty_kind}
use Rattle.record.specs.declared.command.Command.{Command}
use Rattle.chooser.specs.FirstCome.{first_come}
use Rattle.chooser.specs.Meaning.{Meaning}
use Rattle.chooser.specs.declared.log.Log.{Log}
use Rattle.rows.specs.Letters.{lost}
use Rattle.rows.specs.declared.size.RingSize.{RingSize}
use Rattle.ring.specs.World.{World, row_of, letter_at}
use Rattle.ring.specs.Start.{Starts}
use Rattle.ring.specs.Show.{sheet_of}
use Rattle.ring.specs.CatchUp.{CatchesUp}
use Rattle.ring.specs.Day.{Day, begins, broadcasts, receives, steps, crashes, loses}
use Rattle.ring.specs.History.{Accepted, broadcast_on, crashed_on}
use Rattle.ring.specs.Promises.{conflict, lives, Quiet}

-- every call of a day was accepted
abbrev pub all_accepted : {K : Kind} {w₀ : World} {M₀ : Meaning} {w : World} {M : Meaning} → Day K w₀ M₀ w M → Bool
all_accepted begins = true
all_accepted (broadcasts w M node c r v d h) = is_ok r && all_accepted d
all_accepted (receives w M place r v d h) = is_ok r && all_accepted d
all_accepted (steps w M node r v N d h sound) = is_ok r && all_accepted d
all_accepted (crashes w M node r s d h) = is_ok r && all_accepted d
all_accepted (loses w M place r v d h) = is_ok r && all_accepted d

-- A day of a ring of n nodes: its start is accepted, from some world and with some log of proposals, and its calls, all
-- of them accepted, lead from there to the world w and the log g. The kitty keeps the laws of records, as the promises ask.
pub record DayOf (n : ℕ) (w : World) (g : Log) : Type 0 where
  pub size : RingSize
  pub nodes : size.n ≡ n
  pub laws : Laws kitty_kind
  pub before : World
  pub start : World
  pub log : Log
  pub starts : Starts size before (first_come log) (Ok tt) start
  pub day : Day kitty_kind start (first_come log) w (first_come g)
  pub accepted : all_accepted day ≡ true

-- A node delivers a message early: the message is on its sheet, and the node is still in its first stage. A ring of one.
pub record DeliversEarly (w : World) (g : Log) : Type 0 where
  pub day : DayOf 1 w g
  pub delivers : sheet_of w 0 ≡ 0 ∷ []
  pub same_stage : (row_of w 0).stage ≡ 1

-- A node closes a stage over two conflicting messages and settles it by the decision, in which 3 is the set of both. A
-- ring of one.
pub record SettlesByDecision (w : World) (g : Log) : Type 0 where
  pub day : DayOf 1 w g
  pub in_conflict : conflict kitty_kind w 0 1 ≡ true
  pub decision : (first_come g).decision 1 ≡ Some (0, 3)
  pub delivers : sheet_of w 0 ≡ 0 ∷ 1 ∷ []
  pub next_stage : (row_of w 0).stage ≡ 2

-- A message is delivered, and then nothing is left to do: every receipt and every step would be refused. A ring of one.
pub record ComesToRest (w : World) (g : Log) : Type 0 where
  pub day : DayOf 1 w g
  pub delivered : sheet_of w 0 ≡ 0 ∷ []
  pub quiet : Quiet kitty_kind day.size w (first_come g)

-- pays x into the kitty
abbrev pub payment : ℕ → Command
payment x = record { verb = 1; subject = 0; day = 0; amount = pos x }

-- the accepted broadcast by a node of a command, as message m
abbrev pub broadcast_of : ℕ → Command → ℕ → Accepted
broadcast_of node c m = record { node = node; command = c; answered = m }

-- Node 0 pays 50, node 3 crashes, and a letter to it is lost. The other three deliver the payment, at the world w, where
-- a kitty that plays node 2's sheet then tells 50. Node 1 pays 30, and they deliver that too, at the world v: the kitty
-- plays on from its mark and tells 80, and nothing is left to do. A ring of four with quorum 3.
pub record OutlivesACrash (w v : World) (g : Log) : Type 0 where
  pub day : DayOf 4 w g
  pub quorum : day.size.q ≡ 3
  pub pays : broadcast_on day.day ≡ broadcast_of 0 (payment 50) 0 ∷ []
  pub crashes : crashed_on day.day ≡ 3 ∷ []
  pub lost : (letter_at w 3).mark ≡ lost
  pub delivers_one : (r : ℕ) → r < 3 → sheet_of w r ≡ 0 ∷ []
  pub plays : CatchesUp kitty_kind w 2 0 (Ok 1) (0 ∷ []) (50 ∷ [])
  pub longer : Day kitty_kind w (first_come g) v (first_come g)
  pub accepted : all_accepted longer ≡ true
  pub pays_more : broadcast_on longer ≡ broadcast_of 1 (payment 30) 1 ∷ []
  pub no_conflict : conflict kitty_kind v 0 1 ≡ false
  pub plays_on : CatchesUp kitty_kind v 2 1 (Ok 2) (50 ∷ []) (80 ∷ [])
  pub delivers : (r : ℕ) → r < 3 → (lives v r ≡ true) × (sheet_of v r ≡ 0 ∷ 1 ∷ [])
  pub dead : lives v 3 ≡ false
  pub quiet : Quiet kitty_kind day.size v (first_come g)

-- there is a day that delivers early
abbrev pub ADayDeliversEarly : Type 0
ADayDeliversEarly = (w : World) × (g : Log) × DeliversEarly w g

-- there is a day that settles by decision
abbrev pub ADaySettles : Type 0
ADaySettles = (w : World) × (g : Log) × SettlesByDecision w g

-- there is a day that comes to rest
abbrev pub ADayComesToRest : Type 0
ADayComesToRest = (w : World) × (g : Log) × ComesToRest w g

-- there is a day that outlives a crash
abbrev pub ADayOutlivesACrash : Type 0
ADayOutlivesACrash = (w v : World) × (g : Log) × OutlivesACrash w v g
