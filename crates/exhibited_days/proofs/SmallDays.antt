-- Three days of a ring of one, written down call by call.
use Rattle.std.proofs.Common.{◌≡◌, true, List, [], ◌∷◌, set, replicate, pos, Ok, refl, arith}
use lib.Count.{ones}
use Rattle.record.specs.Kitty.{kitty_kind}
use Rattle.record.specs.declared.command.Command.{Command}
use Rattle.record.specs.KittyLaws.{kitty_laws}
use Rattle.chooser.specs.FirstCome.{first_come}
use Rattle.chooser.specs.Log.{Appends}
use Rattle.chooser.specs.Meaning.{Appended, proposal_of}
use Rattle.chooser.specs.Table.{no_stage}
use Rattle.chooser.specs.declared.log.Log.{Log}
use Rattle.chooser.specs.declared.log.stage.Stage.{Stage}
use Rattle.chooser.proofs.Rules.{ruled_proposes}
use Rattle.chooser.proofs.Tables.{none_there}
use Rattle.protocol.specs.Sets.{count}
use Rattle.rows.specs.Conflicts.{no_command}
use Rattle.rows.specs.Letters.{no_letter}
use Rattle.rows.specs.Masks.{those, any, members}
use Rattle.rows.specs.Receipts.{heard_from, from_sender}
use Rattle.rows.specs.declared.size.RingSize.{RingSize}
use Rattle.ring.specs.World.{World}
use Rattle.ring.specs.Start.{idle_ring, started, in_use, Starts}
use Rattle.ring.specs.Gather.{closed}
use Rattle.ring.specs.Close.{proposed_by, settled_by}
use Rattle.ring.specs.Step.{Steps}
use Rattle.ring.specs.Day.{Day, begins, steps}
use Rattle.ring.specs.declared.step.Step.{Step}
use Rattle.ring.specs.declared.step.Step.TheVariants.{Closed, Proposed, Settled}
use Rattle.exhibited_days.specs.Days.{all_accepted, DayOf, payment, ADayDeliversEarly, ADaySettles, ADayComesToRest}
use Rattle.exhibited_days.proofs.Calls.{Call, broadcast, receive, acknowledge, all_allowed, all_made, calls_day}
use Rattle.exhibited_days.proofs.NewLog.{new_log, first_come_sound}
use Rattle.exhibited_days.proofs.Rest.{quiet_so}

-- ---- the start of all three days

-- a ring of one
abbrev one : RingSize
one = record { n = 1; q = 1; low = omega arith; high = omega arith; within = omega arith; quorum = omega arith }

-- a ring that was never started, and a tray of eight places
abbrev idle : World
idle = record { ring = idle_ring; tray = replicate 8 no_letter; book = replicate 64 no_command; sheets = replicate 448 0 }

-- the world at the start
abbrev start : World
start = started one idle

-- the start is accepted
starts : Starts one idle (first_come new_log) (Ok tt) start
unfolding in_use
starts = (refl, refl)

-- a day from that start to a world and a log
abbrev Until : World → Log → Type 0
Until w g = Day kitty_kind start (first_come new_log) w (first_come g)

-- as the day of a ring of one
abbrev of_one : {w : World} {g : Log} (d : Until w g) → all_accepted d ≡ true → DayOf 1 w g
of_one d accepted = record {
  size = one;
  nodes = refl;
  laws = kitty_laws;
  before = idle;
  start = start;
  log = new_log;
  starts = starts;
  day = d;
  accepted = accepted;
}

module _ (w : World) (g : Log) where
  -- calls that nothing refuses
  abbrev calls : (cs : List Call) → all_allowed kitty_kind w cs ≡ true → Until w g → Until (all_made w cs) g
  calls cs allowed day =
      calls_day kitty_kind start (first_come new_log) (first_come g) (first_come_sound g) w cs allowed day

  -- a step of node 0
  abbrev step : (did : Step) (v : World) (h : Log) → Steps kitty_kind w (first_come g) 0 (Ok did) v (first_come h) →
      Until w g → Until v h
  step did v h done day = steps w (first_come g) 0 (Ok did) v (first_come h) day done (first_come_sound h)

-- ---- a node delivers early, and comes to rest: it broadcasts, receives, acknowledges and hears itself

abbrev early_calls : List Call
early_calls = broadcast 0 (payment 5) ∷ receive 0 ∷ acknowledge 0 ∷ receive 1 ∷ []

abbrev early : World
early = all_made start early_calls

-- the day
early_day : Until early new_log
unfolding ones any heard_from those
early_day = calls start new_log early_calls refl begins

-- what it shows
pub delivers_early : ADayDeliversEarly
unfolding ones any heard_from those members early_day
delivers_early = (early, new_log, record { day = of_one early_day refl; delivers = refl; same_stage = refl })

-- and in the end
pub comes_to_rest : ADayComesToRest
unfolding ones any heard_from those members count early_day
comes_to_rest = (
  early,
  new_log,
  record { day = of_one early_day refl; delivered = refl; quiet = quiet_so kitty_kind one early (first_come new_log) refl },
)

-- ---- a node settles by decision: it broadcasts two messages that conflict, receives both, closes, keeps its own check,
-- proposes both as conflicting, and settles

-- draws 3 from the kitty
abbrev draw : Command
draw = record { verb = 2; subject = 0; day = 0; amount = pos 3 }

abbrev settle_calls : List Call
settle_calls = broadcast 0 (payment 5) ∷ broadcast 0 draw ∷ receive 0 ∷ receive 1 ∷ []

abbrev settle₁ : World
settle₁ = all_made start settle_calls

abbrev settle₂ : World
settle₂ = closed settle₁ 0

abbrev settle₃ : World
settle₃ = all_made settle₂ (receive 2 ∷ [])

abbrev settle₄ : World
settle₄ = proposed_by settle₃ 0

abbrev settle₅ : World
settle₅ = settled_by settle₄ 0 (0, 3)

-- the first stage once node 0 has proposed
abbrev one_proposal : Stage
one_proposal = record {
  count = 1;
  proposals = set no_stage.proposals 0 (proposal_of 0 (0, 3));
  places = refl;
  within = omega arith;
  each_once = refl;
}

-- the log with that stage
abbrev longer_log : Log
longer_log = record { stages = set new_log.stages 0 one_proposal }

-- it has that proposal more
appends : Appends new_log 1 0 (0, 3) (Ok tt) longer_log
appends = (refl, refl, λ j other. none_there new_log.stages 1 one_proposal j (omega arith) other)

-- and so has First-come
appended : Appended (first_come new_log) 1 (proposal_of 0 (0, 3)) (first_come longer_log)
appended =
    (ruled_proposes 1 (λ s ps. 0) (omega arith) (omega arith) (λ s ps h. omega arith) new_log longer_log 1 0 (0, 3) (Ok tt)
    appends).1

infixl 40 ◌▸◌
-- a day, and calls after it
abbrev ◌▸◌ : {A B : Type 0} → A → (A → B) → B
day ▸ call = call day

-- the day
settle_day : Until settle₅ longer_log
unfolding ones any heard_from from_sender those
settle_day =
    begins
    ▸ calls start new_log settle_calls refl
    ▸ step settle₁ new_log (Closed 0 1) settle₂ new_log ((refl, refl, refl, refl), refl)
    ▸ calls settle₂ new_log (receive 2 ∷ []) refl
    ▸ step settle₃ new_log Proposed settle₄ longer_log (refl, appended, refl)
    ▸ step settle₄ longer_log Settled settle₅ longer_log (refl, refl, refl)

-- what it shows
pub settles_by_decision : ADaySettles
unfolding ones any from_sender members settle_day
settles_by_decision = (
  settle₅,
  longer_log,
  record { day = of_one settle_day refl; in_conflict = refl; decision = refl; delivers = refl; next_stage = refl },
)
