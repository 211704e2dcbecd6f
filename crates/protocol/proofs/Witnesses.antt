-- Three runs, written down call by call.
use Rattle.std.proofs.Common.{◌≡◌, ℕ, zero, suc, ◌<◌, Bool, true, false, not, eqb, refl, ap, arith}
use Rattle.std.proofs.lemmas.Bool.{eq-eqb, eqb-true, false≢true}
use Rattle.protocol.specs.Sets.{◌∈◌, count}
use Rattle.protocol.specs.Lists.{ascending}
use Rattle.protocol.specs.Ring.{Size, State, travelling}
use Rattle.protocol.specs.Runs.{Run, Call, starts, goes_on}
use Rattle.protocol.specs.Promises.{Quiet}
use Rattle.protocol.specs.Witnesses.{ARunDeliversEarly, ARunSettles, ARunHasTwoOrders}
use Rattle.protocol.proofs.Playing.{beginning, begins, own_data, plays_own, relayed, plays_relay, heard_one, plays_hear}
use Rattle.protocol.proofs.Playing.{kept_one, plays_keep}
use Rattle.protocol.proofs.PlayingSteps.{broadcast_by, plays_broadcast, acknowledged, plays_acknowledge, closed}
use Rattle.protocol.proofs.PlayingSteps.{plays_close, settled, plays_settle}
use Rattle.protocol.proofs.PlayingProposals.{proposed_by, plays_first}

infixl 40 ◌▸◌
-- a run, and one call more
abbrev pub ◌▸◌ : {z : Size} {s t u : State} → Run z s t → Call z t u → Run z s u
d ▸ c = goes_on d c

-- a ring of one, and a ring of two
abbrev one : Size
one = record {
  n = 1;
  ack = 1;
  chk = 1;
  need = 1;
  ack_le = omega arith;
  chk_le = omega arith;
  meet = omega arith;
  need_pos = omega arith;
  need_le = omega arith;
  n_le = omega arith;
}

-- two nodes: both acknowledge, one check is enough
abbrev two : Size
two = record {
  n = 2;
  ack = 2;
  chk = 1;
  need = 1;
  ack_le = omega arith;
  chk_le = omega arith;
  meet = omega arith;
  need_pos = omega arith;
  need_le = omega arith;
  n_le = omega arith;
}

-- no messages conflict
abbrev never : ℕ → ℕ → Bool
never a b = false

-- all different messages conflict
abbrev pub always : ℕ → ℕ → Bool
always a b = not (eqb a b)

-- from both sides
pub always_sides : (a b : ℕ) → always a b ≡ always b a
always_sides a b = grind (arith, eqb-true a b, eqb-true b a, eq-eqb a b, eq-eqb b a)

-- but no message with itself
pub always_itself : (a : ℕ) → always a a ≡ false
always_itself a = ap not (eq-eqb a a refl)

-- ---- a node delivers early: it broadcasts, receives, acknowledges and hears itself

abbrev early₁ : State
early₁ = broadcast_by one 0 (beginning never)

abbrev early₂ : State
early₂ = own_data 0 0 early₁

abbrev early₃ : State
early₃ = acknowledged one 0 early₂

abbrev early₄ : State
early₄ = heard_one one 1 early₃

-- the run
early_run : Run one (beginning never) early₄
unfolding count
early_run =
    starts (begins one never (λ a b. refl) (λ a. refl))
    ▸ plays_broadcast one (beginning never) 0 refl (λ a b. refl) (λ a. refl)
    ▸ plays_own one early₁ 0 0 refl refl
    ▸ plays_acknowledge one early₂ 0 refl (λ a b p q. refl)
    ▸ plays_hear one early₃ 1 refl

-- afterwards both letters are taken and the node has acknowledged all that it received
early_quiet : Quiet one early₄
unfolding count
early_quiet = record {
  enough_ack = omega arith;
  enough_chk = omega arith;
  no_receipt = λ i l m v. absurd (both_taken i l m);
  no_gathering = λ r m l v c h k. pending r m l h;
  no_proposal = λ r l v c p. absurd (gathering r l c);
  no_settling = λ r l v c p. absurd (gathering r l c);
}
  where
    both_taken : (i : ℕ) → i < 2 → (early₄.letter i).mark ≡ travelling → ⊥
    both_taken zero l m = omega (arith, m)
    both_taken (suc zero) l m = omega (arith, m)
    both_taken (suc (suc i)) l m = omega arith

    pending : (r m : ℕ) → r < 1 → m ∈ (early₄.node r).received → m ∈ (early₄.node r).pending
    pending zero m l h = grind arith
    pending (suc r) m l h = absurd (omega arith)

    gathering : (r : ℕ) → r < 1 → (early₄.node r).closing ≡ true → ⊥
    gathering zero l c = false≢true c
    gathering (suc r) l c = omega arith

-- what it shows
pub delivers_early : ARunDeliversEarly
unfolding count ascending
delivers_early = (
  beginning never,
  early₄,
  record {
    run = record { size = one; nodes = refl; run = early_run };
    delivers = refl;
    same_stage = refl;
    quiet = early_quiet;
  },
)

-- ---- a node settles by decision: it broadcasts two messages that conflict, receives both, closes, keeps its own check,
-- proposes both as conflicting, and settles

abbrev settle₁ : State
settle₁ = broadcast_by one 0 (beginning always)

abbrev settle₂ : State
settle₂ = broadcast_by one 0 settle₁

abbrev settle₃ : State
settle₃ = own_data 0 0 settle₂

abbrev settle₄ : State
settle₄ = own_data 1 1 settle₃

abbrev settle₅ : State
settle₅ = closed one 0 settle₄

abbrev settle₆ : State
settle₆ = kept_one 2 settle₅

abbrev settle₇ : State
settle₇ = proposed_by one 0 settle₆

abbrev settle₈ : State
settle₈ = settled 0 settle₇

-- the run
settle_run : Run one (beginning always) settle₈
unfolding count
settle_run =
    starts (begins one always always_sides always_itself)
    ▸ plays_broadcast one (beginning always) 0 refl always_sides always_itself
    ▸ plays_broadcast one settle₁ 0 refl always_sides always_itself
    ▸ plays_own one settle₂ 0 0 refl refl
    ▸ plays_own one settle₃ 1 1 refl refl
    ▸ plays_close one settle₄ 0 0 1 refl
    ▸ plays_keep one settle₅ 2 refl
    ▸ plays_first one settle₆ 0 refl (λ j x. refl) (λ j. refl)
    ▸ plays_settle one settle₇ 0 refl

-- what it shows
pub settles_by_decision : ARunSettles
unfolding count ascending
settles_by_decision = (
  beginning always,
  settle₈,
  record {
    run = record { size = one; nodes = refl; run = settle_run };
    conflict = refl;
    delivers = refl;
    next_stage = refl;
  },
)

-- ---- two nodes deliver in two orders: each broadcasts a message, receives its own and acknowledges it, then receives and
-- relays the other's and acknowledges both. Each hears its own first acknowledgement, the other's second, its own second.
-- Letters 0 and 1 are data of message 0, 2 and 3 of message 1; 4 to 7 are the first acknowledgements.

abbrev orders₁ : State
orders₁ = broadcast_by two 0 (beginning never)

abbrev orders₂ : State
orders₂ = broadcast_by two 1 orders₁

abbrev orders₃ : State
orders₃ = own_data 0 0 orders₂

abbrev orders₄ : State
orders₄ = own_data 3 1 orders₃

abbrev orders₅ : State
orders₅ = acknowledged two 0 orders₄

abbrev orders₆ : State
orders₆ = acknowledged two 1 orders₅

-- letters 8 to 11 are the relays
abbrev orders₇ : State
orders₇ = relayed two 2 1 orders₆

abbrev orders₈ : State
orders₈ = relayed two 1 0 orders₇

-- letters 12 to 15 are the second acknowledgements
abbrev orders₉ : State
orders₉ = acknowledged two 0 orders₈

abbrev orders₁₀ : State
orders₁₀ = acknowledged two 1 orders₉

-- node 0 hears its own of message 0, node 1's of both, its own of both
abbrev orders₁₁ : State
orders₁₁ = heard_one two 4 orders₁₀

abbrev orders₁₂ : State
orders₁₂ = heard_one two 14 orders₁₁

abbrev orders₁₃ : State
orders₁₃ = heard_one two 12 orders₁₂

-- node 1 hears its own of message 1, node 0's of both, its own of both
abbrev orders₁₄ : State
orders₁₄ = heard_one two 7 orders₁₃

abbrev orders₁₅ : State
orders₁₅ = heard_one two 13 orders₁₄

abbrev orders₁₆ : State
orders₁₆ = heard_one two 15 orders₁₅

-- the run
orders_run : Run two (beginning never) orders₁₆
unfolding count
orders_run =
    starts (begins two never (λ a b. refl) (λ a. refl))
    ▸ plays_broadcast two (beginning never) 0 refl (λ a b. refl) (λ a. refl)
    ▸ plays_broadcast two orders₁ 1 refl (λ a b. refl) (λ a. refl)
    ▸ plays_own two orders₂ 0 0 refl refl
    ▸ plays_own two orders₃ 3 1 refl refl
    ▸ plays_acknowledge two orders₄ 0 refl (λ a b p q. refl)
    ▸ plays_acknowledge two orders₅ 1 refl (λ a b p q. refl)
    ▸ plays_relay two orders₆ 2 1 refl refl
    ▸ plays_relay two orders₇ 1 0 refl refl
    ▸ plays_acknowledge two orders₈ 0 refl (λ a b p q. refl)
    ▸ plays_acknowledge two orders₉ 1 refl (λ a b p q. refl)
    ▸ plays_hear two orders₁₀ 4 refl
    ▸ plays_hear two orders₁₁ 14 refl
    ▸ plays_hear two orders₁₂ 12 refl
    ▸ plays_hear two orders₁₃ 7 refl
    ▸ plays_hear two orders₁₄ 13 refl
    ▸ plays_hear two orders₁₅ 15 refl

-- what it shows
pub delivers_in_two_orders : ARunHasTwoOrders
unfolding count ascending
delivers_in_two_orders = (
  beginning never,
  orders₁₆,
  record {
    run = record { size = two; nodes = refl; run = orders_run };
    conflict = refl;
    one_order = refl;
    other_order = refl;
  },
)
