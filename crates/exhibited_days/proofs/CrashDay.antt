-- The day that outlives a crash, written down call by call.
use Rattle.std.proofs.Common.{◌≡◌, ℕ, zero, suc, ◌+◌, ◌<◌, true, false, List, [], ◌∷◌, ◌++◌, replicate, Some, Ok, refl, arith}
use lib.Count.{ones}
use Rattle.record.specs.Kitty.{kitty_kind}
use Rattle.record.specs.KittyLaws.{kitty_laws}
use Rattle.chooser.specs.FirstCome.{first_come}
use Rattle.chooser.specs.Meaning.{Meaning}
use Rattle.protocol.specs.Sets.{count}
use Rattle.rows.specs.Conflicts.{no_command}
use Rattle.rows.specs.Letters.{data_letter, acknowledgement, travelling, taken, lost, no_letter, marked, letter_of, addressed}
use Rattle.rows.specs.Masks.{those, any, members}
use Rattle.rows.specs.Receipts.{heard_from}
use Rattle.rows.specs.Rows.{no_check, new_row}
use Rattle.rows.specs.declared.letter.Letter.{Letter}
use Rattle.rows.specs.declared.row.Phase.TheVariants.{Gathering}
use Rattle.rows.specs.declared.size.RingSize.{RingSize}
use Rattle.ring.specs.World.{World}
use Rattle.ring.specs.Start.{new_node, idle_ring, started, in_use, Starts}
use Rattle.ring.specs.Show.{sheet_of}
use Rattle.ring.specs.Promises.{lives}
use Rattle.ring.specs.Day.{Day, begins}
use Rattle.ring.specs.declared.ring.Node.{Node}
use Rattle.exhibited_days.specs.Days.{payment, ADayOutlivesACrash}
use Rattle.exhibited_days.proofs.Calls.{Call, broadcast, receive, acknowledge, crash, lose, all_allowed, calls_day}
use Rattle.exhibited_days.proofs.NewLog.{new_log, first_come_sound}
use Rattle.exhibited_days.proofs.Rest.{rests, quiet_so}

-- a ring of four, with quorum 3
abbrev four : RingSize
four = record { n = 4; q = 3; low = omega arith; high = omega arith; within = omega arith; quorum = omega arith }

-- a ring that was never started, and a tray of 48 places
abbrev idle : World
idle = record { ring = idle_ring; tray = replicate 48 no_letter; book = replicate 64 no_command; sheets = replicate 448 0 }

-- the world at the start
abbrev start : World
start = started four idle

-- nodes 0, 1 and 2 receive their letters of a sending from a place on
abbrev three_receive : ℕ → List Call
three_receive place = receive place ∷ receive (place + 1) ∷ receive (place + 2) ∷ []

-- From a place on, they receive the data of a message, and what two of them relay of it; acknowledge it; and receive
-- the acknowledgements. What is sent to node 3 travels on.
abbrev three_deliver : ℕ → List Call
three_deliver place =
    three_receive place ++ three_receive (place + 4) ++ three_receive (place + 8)
    ++ (acknowledge 0 ∷ acknowledge 1 ∷ acknowledge 2 ∷ [])
    ++ three_receive (place + 12) ++ three_receive (place + 16) ++ three_receive (place + 20)

-- node 0 pays 50, by letters 0 to 3; node 3 crashes, and letter 3 is lost
abbrev morning : List Call
morning = broadcast 0 (payment 50) ∷ crash 3 ∷ lose 3 ∷ three_deliver 0

-- node 1 pays 30, by letters 24 to 27
abbrev afternoon : List Call
afternoon = broadcast 1 (payment 30) ∷ three_deliver 24

-- ---- the worlds that they lead to

-- a sending that nodes 0, 1 and 2 took, and what became of its copy for node 3
abbrev sending : Letter → ℕ → List Letter
sending l mark =
    marked taken (addressed l 0) ∷ marked taken (addressed l 1) ∷ marked taken (addressed l 2) ∷ marked mark (addressed l 3) ∷ []

-- the letters of a message: its data as nodes a, b and c sent it, of which b and c relayed it, and the acknowledgements of
-- what was then pending
abbrev letters : (a b c message pending mark : ℕ) → List Letter
letters a b c message pending mark =
    sending (letter_of a data_letter 0 message) mark
    ++ sending (letter_of b data_letter 0 message) travelling
    ++ sending (letter_of c data_letter 0 message) travelling
    ++ sending (letter_of 0 acknowledgement 1 pending) travelling
    ++ sending (letter_of 1 acknowledgement 1 pending) travelling
    ++ sending (letter_of 2 acknowledgement 1 pending) travelling

-- a node that received, acknowledged and delivered early the messages of a set
abbrev node_with : ℕ → List ℕ → Node
node_with x heard = record {
  row = record {
    stage = 1;
    received = x;
    delivered = 0;
    pending = x;
    early = x;
    heard = heard;
    checks = replicate 7 no_check;
    checked = 0;
    phase = Gathering;
  };
  crashed = false;
}

-- three such nodes, and node 3, which crashed as it was new
abbrev three_with : Node → List Node
three_with a = a ∷ a ∷ a ∷ record { row = new_row; crashed = true } ∷ replicate 3 new_node

-- message 0, which is the set 1, is heard from nodes 0, 1 and 2, which are the set 7
abbrev noon : World
noon = record {
  ring = record {
    size = Some four;
    messages = 1;
    broadcasters = replicate 64 0;
    used = 24;
    nodes = three_with (node_with 1 (7 ∷ replicate 63 0));
  };
  tray = letters 0 1 2 1 1 lost ++ replicate 24 no_letter;
  book = payment 50 ∷ replicate 63 no_command;
  sheets = replicate 448 0;
}

-- and so is message 1; both are the set 3
abbrev evening : World
evening = record {
  ring = record {
    size = Some four;
    messages = 2;
    broadcasters = 0 ∷ 1 ∷ replicate 62 0;
    used = 48;
    nodes = three_with (node_with 3 (7 ∷ 7 ∷ replicate 62 0));
  };
  tray = letters 0 1 2 1 1 lost ++ letters 1 0 2 2 3 travelling;
  book = payment 50 ∷ payment 30 ∷ replicate 62 no_command;
  sheets = (0 ∷ 1 ∷ replicate 62 0) ++ (0 ∷ 1 ∷ replicate 62 0) ++ (0 ∷ 1 ∷ replicate 62 0) ++ replicate 256 0;
}

-- ---- the day

-- First-come as it begins, and as it stays: nobody proposes that day
abbrev chooser : Meaning
chooser = first_come new_log

-- nothing refuses the calls
morning_allowed : all_allowed kitty_kind start morning ≡ true
unfolding ones any heard_from those members
morning_allowed = refl

afternoon_allowed : all_allowed kitty_kind noon afternoon ≡ true
unfolding ones any heard_from those members
afternoon_allowed = refl

-- so they are a day, in two parts
morning_day : Day kitty_kind start chooser noon chooser
unfolding ones any heard_from those members
morning_day = calls_day kitty_kind start chooser chooser (first_come_sound new_log) start morning morning_allowed begins

afternoon_day : Day kitty_kind noon chooser evening chooser
unfolding ones any heard_from those members
afternoon_day = calls_day kitty_kind noon chooser chooser (first_come_sound new_log) noon afternoon afternoon_allowed begins

-- the start is accepted
starts : Starts four idle chooser (Ok tt) start
unfolding in_use
starts = (refl, refl)

-- at noon nodes 0, 1 and 2 have delivered the first message
one_delivered : (r : ℕ) → r < 3 → sheet_of noon r ≡ 0 ∷ []
unfolding ones
one_delivered zero l = refl
one_delivered (suc zero) l = refl
one_delivered (suc (suc zero)) l = refl
one_delivered (suc (suc (suc r))) l = absurd (omega arith)

-- in the evening they live, and have delivered both
three_delivered : (r : ℕ) → r < 3 → (lives evening r ≡ true) × (sheet_of evening r ≡ 0 ∷ 1 ∷ [])
unfolding ones
three_delivered zero l = (refl, refl)
three_delivered (suc zero) l = (refl, refl)
three_delivered (suc (suc zero)) l = (refl, refl)
three_delivered (suc (suc (suc r))) l = absurd (omega arith)

-- nothing is left to do
evening_rests : rests four evening ≡ true
unfolding ones count
evening_rests = refl

-- what it shows
pub outlives_a_crash : ADayOutlivesACrash
unfolding ones morning_day afternoon_day
outlives_a_crash = (
  noon,
  evening,
  new_log,
  record {
    day = record {
      size = four;
      nodes = refl;
      laws = kitty_laws;
      before = idle;
      start = start;
      log = new_log;
      starts = starts;
      day = morning_day;
      accepted = refl;
    };
    quorum = refl;
    pays = refl;
    crashes = refl;
    lost = refl;
    delivers_one = one_delivered;
    plays = (refl, refl);
    longer = afternoon_day;
    accepted = refl;
    pays_more = refl;
    no_conflict = refl;
    plays_on = (refl, refl);
    delivers = three_delivered;
    dead = refl;
    quiet = quiet_so kitty_kind four evening chooser evening_rests;
  },
)
