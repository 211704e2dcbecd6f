-- A run that outlives a crash, written down call by call, as those of Witnesses.
use Rattle.std.proofs.Common.{◌≡◌, ℕ, true, false, ◌&&◌, eqb, refl, arith}
use Rattle.std.proofs.lemmas.Bool.{and_parts, eqb-true}
use Rattle.protocol.specs.Sets.{count}
use Rattle.protocol.specs.Lists.{ascending}
use Rattle.protocol.specs.Ring.{Size, State}
use Rattle.protocol.specs.Runs.{Run, starts}
use Rattle.protocol.specs.Witnesses.{ARunOutlivesACrash}
use Rattle.protocol.proofs.Playing.{beginning, begins, own_data, plays_own, relayed, plays_relay, heard_one, plays_hear}
use Rattle.protocol.proofs.Playing.{kept_one, plays_keep}
use Rattle.protocol.proofs.PlayingSteps.{broadcast_by, plays_broadcast, acknowledged, plays_acknowledge, closed}
use Rattle.protocol.proofs.PlayingSteps.{plays_close, settled, plays_settle}
use Rattle.protocol.proofs.PlayingProposals.{proposed_by, plays_first}
use Rattle.protocol.proofs.PlayingFailures.{crashed, plays_crash, lost_one, plays_loss}
use Rattle.protocol.proofs.Witnesses.{◌▸◌, always, always_sides, always_itself}

-- a ring of four, with quorums of three
abbrev four : Size
four = record {
  n = 4;
  ack = 3;
  chk = 3;
  need = 1;
  ack_le = omega arith;
  chk_le = omega arith;
  meet = omega arith;
  need_pos = omega arith;
  need_le = omega arith;
  n_le = omega arith;
}

-- Node 3 crashes, and the data that node 0 broadcast to it, letter 3, is lost. Nodes 0, 1 and 2 receive message 0; the
-- relays are letters 4 to 11.
abbrev crash₁ : State
crash₁ = broadcast_by four 0 (beginning always)

abbrev crash₂ : State
crash₂ = crashed 3 crash₁

abbrev crash₃ : State
crash₃ = lost_one 3 crash₂

abbrev crash₄ : State
crash₄ = own_data 0 0 crash₃

abbrev crash₅ : State
crash₅ = relayed four 1 0 crash₄

abbrev crash₆ : State
crash₆ = relayed four 2 0 crash₅

-- they acknowledge it, by letters 12 to 23
abbrev crash₇ : State
crash₇ = acknowledged four 0 crash₆

abbrev crash₈ : State
crash₈ = acknowledged four 1 crash₇

abbrev crash₉ : State
crash₉ = acknowledged four 2 crash₈

-- node 0 hears all three, and delivers it
abbrev crash₁₀ : State
crash₁₀ = heard_one four 12 crash₉

abbrev crash₁₁ : State
crash₁₁ = heard_one four 16 crash₁₀

abbrev crash₁₂ : State
crash₁₂ = heard_one four 20 crash₁₁

-- node 0 broadcasts message 1 by letters 24 to 27; the relays are letters 28 to 35
abbrev crash₁₃ : State
crash₁₃ = broadcast_by four 0 crash₁₂

abbrev crash₁₄ : State
crash₁₄ = own_data 24 1 crash₁₃

abbrev crash₁₅ : State
crash₁₅ = relayed four 25 1 crash₁₄

abbrev crash₁₆ : State
crash₁₆ = relayed four 26 1 crash₁₅

-- it conflicts, so they close their stage; the checks are letters 36 to 47
abbrev crash₁₇ : State
crash₁₇ = closed four 0 crash₁₆

abbrev crash₁₈ : State
crash₁₈ = closed four 1 crash₁₇

abbrev crash₁₉ : State
crash₁₉ = closed four 2 crash₁₈

-- node 0 keeps all three, proposes and settles
abbrev crash₂₀ : State
crash₂₀ = kept_one 36 crash₁₉

abbrev crash₂₁ : State
crash₂₁ = kept_one 40 crash₂₀

abbrev crash₂₂ : State
crash₂₂ = kept_one 44 crash₂₁

abbrev crash₂₃ : State
crash₂₃ = proposed_by four 0 crash₂₂

abbrev crash₂₄ : State
crash₂₄ = settled 0 crash₂₃

-- message 0 does not conflict with itself
just_zero : (a b : ℕ) → (eqb a 0 && true) ≡ true → (eqb b 0 && true) ≡ true → always a b ≡ false
just_zero a b p q = grind (arith, eqb-true a 0 (and_parts (eqb a 0) true p).0, eqb-true b 0 (and_parts (eqb b 0) true q).0)

-- the run until the message is delivered
early_run : Run four (beginning always) crash₁₂
unfolding count
early_run =
    starts (begins four always always_sides always_itself)
    ▸ plays_broadcast four (beginning always) 0 refl always_sides always_itself
    ▸ plays_crash four crash₁ 3 refl
    ▸ plays_loss four crash₂ 3 refl
    ▸ plays_own four crash₃ 0 0 refl refl
    ▸ plays_relay four crash₄ 1 0 refl refl
    ▸ plays_relay four crash₅ 2 0 refl refl
    ▸ plays_acknowledge four crash₆ 0 refl just_zero
    ▸ plays_acknowledge four crash₇ 1 refl just_zero
    ▸ plays_acknowledge four crash₈ 2 refl just_zero
    ▸ plays_hear four crash₉ 12 refl
    ▸ plays_hear four crash₁₀ 16 refl
    ▸ plays_hear four crash₁₁ 20 refl

-- and until the stage is settled
crash_run : Run four (beginning always) crash₂₄
unfolding count
crash_run =
    early_run
    ▸ plays_broadcast four crash₁₂ 0 refl always_sides always_itself
    ▸ plays_own four crash₁₃ 24 1 refl refl
    ▸ plays_relay four crash₁₄ 25 1 refl refl
    ▸ plays_relay four crash₁₅ 26 1 refl refl
    ▸ plays_close four crash₁₆ 0 0 1 refl
    ▸ plays_close four crash₁₇ 1 0 1 refl
    ▸ plays_close four crash₁₈ 2 0 1 refl
    ▸ plays_keep four crash₁₉ 36 refl
    ▸ plays_keep four crash₂₀ 40 refl
    ▸ plays_keep four crash₂₁ 44 refl
    ▸ plays_first four crash₂₂ 0 refl (λ j x. refl) (λ j. refl)
    ▸ plays_settle four crash₂₃ 0 refl

-- what it shows
pub outlives_a_crash : ARunOutlivesACrash
unfolding count ascending
outlives_a_crash = (
  beginning always,
  crash₁₂,
  crash₂₄,
  record {
    run = record { size = four; nodes = refl; run = early_run };
    crashed = refl;
    lost = refl;
    early = refl;
    same_stage = refl;
    longer = crash_run;
    still_crashed = refl;
    conflict = refl;
    delivers = refl;
    next_stage = refl;
  },
)
