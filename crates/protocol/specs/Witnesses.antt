-- Runs that there are, so that no promise is empty.
use Rattle.std.specs.Prelude.{◌≡◌, ℕ, true, false, [], ◌∷◌}
use Rattle.protocol.specs.Sets.{◌∉◌}
use Rattle.protocol.specs.Ring.{Size, State, lost}
use Rattle.protocol.specs.Runs.{Run}
use Rattle.protocol.specs.Promises.{sheet, Quiet}

-- a run from s to t in a ring of n nodes
pub record RunOf (n : ℕ) (s t : State) : Type 0 where
  pub size : Size
  pub nodes : size.n ≡ n
  pub run : Run size s t

-- A node delivers a message early, and then nothing is left to do: a ring of one.
pub record DeliversEarly (s t : State) : Type 0 where
  pub run : RunOf 1 s t
  pub delivers : sheet t 0 ≡ 0 ∷ []
  pub same_stage : (t.node 0).stage ≡ 1
  pub quiet : Quiet run.size t

-- A node closes a stage over two conflicting messages and settles it by the decision: a ring of one.
pub record SettlesByDecision (s t : State) : Type 0 where
  pub run : RunOf 1 s t
  pub conflict : t.conflict 0 1 ≡ true
  pub delivers : sheet t 0 ≡ 0 ∷ 1 ∷ []
  pub next_stage : (t.node 0).stage ≡ 2

-- Two nodes deliver two messages that do not conflict in different orders: a ring of two.
pub record DeliversInTwoOrders (s t : State) : Type 0 where
  pub run : RunOf 2 s t
  pub conflict : t.conflict 0 1 ≡ false
  pub one_order : sheet t 0 ≡ 0 ∷ 1 ∷ []
  pub other_order : sheet t 1 ≡ 1 ∷ 0 ∷ []

-- A node crashes, and a letter to it is lost. Another node delivers a message early, at state t, and in a longer run settles
-- it and one that it conflicts with by the decision, at state u: a ring of four.
pub record OutlivesACrash (s t u : State) : Type 0 where
  pub run : RunOf 4 s t
  pub crashed : 3 ∉ t.live
  pub lost : (t.letter 3).mark ≡ lost
  pub early : sheet t 0 ≡ 0 ∷ []
  pub same_stage : (t.node 0).stage ≡ 1
  pub longer : Run run.size s u
  pub still_crashed : 3 ∉ u.live
  pub conflict : u.conflict 0 1 ≡ true
  pub delivers : sheet u 0 ≡ 0 ∷ 1 ∷ []
  pub next_stage : (u.node 0).stage ≡ 2

-- there is a run that delivers early
abbrev pub ARunDeliversEarly : Type 0
ARunDeliversEarly = (s t : State) × DeliversEarly s t

-- there is a run that settles by decision
abbrev pub ARunSettles : Type 0
ARunSettles = (s t : State) × SettlesByDecision s t

-- there is a run with two orders
abbrev pub ARunHasTwoOrders : Type 0
ARunHasTwoOrders = (s t : State) × DeliversInTwoOrders s t

-- there is a run that outlives a crash
abbrev pub ARunOutlivesACrash : Type 0
ARunOutlivesACrash = (s t u : State) × OutlivesACrash s t u
