-- A test of rest: by computing it, a ring is seen to be quiet.
use Rattle.std.proofs.Common.{◌≡◌, ℕ, zero, suc, ◌<◌, Bool, true, false, cond, not, ◌&&◌, leb, eqb, Some, None, Ok, Err}
use Rattle.std.proofs.Common.{Option, Result, sym, refl, ap, ◌∙◌, subst, inl, inr, arith}
use Rattle.std.proofs.lemmas.Bool.{and_parts, cases_eq, cases_Bool, both_ways, leb-true, leb-false, eq-eqb, not-true}
use Rattle.record.specs.Kind.{Kind}
use Rattle.chooser.specs.Meaning.{Meaning}
use Rattle.protocol.specs.Sets.{count}
use Rattle.rows.specs.Causes.{refuse, first, outcome}
use Rattle.rows.specs.Receipts.{is_gathering}
use Rattle.rows.specs.Refusals.{number_of}
use Rattle.rows.specs.declared.refusal.Refusal.{Refusal}
use Rattle.rows.specs.declared.refusal.Refusal.TheVariants.{WrongTableSize, NotStarted, NoSuchNode, PlaceUnused}
use Rattle.rows.specs.declared.row.Phase.{Phase}
use Rattle.rows.specs.declared.row.Phase.TheVariants.{Gathering, Closing, Waiting, Ahead}
use Rattle.rows.specs.declared.size.RingSize.{RingSize}
use Rattle.ring.specs.World.{World, nodes_of, row_of}
use Rattle.ring.specs.Receive.{receive_refusal}
use Rattle.ring.specs.Gather.{gather_refusal, Gathers}
use Rattle.ring.specs.Step.{stepper_refusal, ByPhase, ByCause}
use Rattle.ring.specs.Promises.{lives, TurnedDown, Quiet}
use Rattle.ring.specs.declared.step.Step.{Step}
use Rattle.ring.specs.declared.step.Step.TheVariants.{Acknowledged, Closed, Proposed, Settled}
use Rattle.ring.proofs.Causes.{not_some}

-- ---- the test

-- there is a cause, and not a full tray
abbrev turns_down : Option Refusal → Bool
turns_down None = false
turns_down (Some e) = not (eqb (number_of e) 12)

-- what turns down a step of a node that gathers
abbrev step_cause : World → ℕ → Option Refusal
step_cause w node = first (stepper_refusal w node) (cond (is_gathering (row_of w node).phase) (gather_refusal w node) None)

-- whether all numbers below k pass the test p
abbrev all_below : (ℕ → Bool) → ℕ → Bool
all_below p zero = true
all_below p (suc k) = p k && all_below p k

-- the test of a receipt
abbrev receipt_refused : World → ℕ → Bool
receipt_refused w place = turns_down (receive_refusal w place)

-- and of a step
abbrev step_refused : World → ℕ → Bool
step_refused w node = turns_down (step_cause w node)

-- enough nodes live, and the receipt at each used place and the step of each node are turned down
abbrev pub rests : RingSize → World → Bool
rests z w =
    leb z.q (count z.n (lives w))
    && (all_below (receipt_refused w) w.ring.used && all_below (step_refused w) (nodes_of w.ring.size))

-- ---- beyond the used places and the nodes

-- what passes at all numbers below k passes at each
at_each : (p : ℕ → Bool) (k i : ℕ) → i < k → all_below p k ≡ true → p i ≡ true
at_each p zero i l h = absurd (omega arith)
at_each p (suc k) i l h =
    let parts = and_parts (p k) (all_below p k) h in
    elim (cases_eq i k) [
      | inl e ↦ subst (λ (x : ℕ). p x ≡ true) (sym e) parts.0
      | inr d ↦ at_each p k i (omega arith) parts.1
    ]

-- and at every number, if it does from k on
everywhere : (p : ℕ → Bool) (k : ℕ) → all_below p k ≡ true → ((i : ℕ) → leb k i ≡ true → p i ≡ true) → (i : ℕ) → p i ≡ true
everywhere p k h beyond i =
    elim (cases_Bool (leb k i)) [ inl e ↦ beyond i e | inr e ↦ at_each p k i (leb-false k i e) h ]

-- behind the used places there is no letter, or an earlier cause
unused : (sizes idle : Bool) (rest : Option Refusal) →
    turns_down (first (first (refuse sizes WrongTableSize None) (refuse idle NotStarted (Some PlaceUnused))) rest) ≡ true
unused true idle rest = refl
unused false true rest = refl
unused false false rest = refl

-- behind the last node there is no node, or an earlier cause
nobody : (sizes idle : Bool) (other rest : Option Refusal) →
    turns_down (first (first (refuse sizes WrongTableSize None) (first (refuse idle NotStarted (Some NoSuchNode)) other)) rest)
    ≡ true
nobody true idle other rest = refl
nobody false true other rest = refl
nobody false false other rest = refl

module _ (w : World) where
  -- so every receipt is turned down
  receipts_refused : all_below (receipt_refused w) w.ring.used ≡ true → (place : ℕ) → receipt_refused w place ≡ true
  receipts_refused h place = everywhere (receipt_refused w) w.ring.used h (λ i l. rw l (unused _ _ _)) place

  -- and every step
  steps_refused : all_below (step_refused w) (nodes_of w.ring.size) ≡ true → (node : ℕ) → step_refused w node ≡ true
  steps_refused h node = everywhere (step_refused w) (nodes_of w.ring.size) h (λ i l. rw l (nobody _ _ _ _)) node

-- ---- what the answers are

-- a cause that turns a call down is not a full tray
no_full_tray : (e : Refusal) → turns_down (Some e) ≡ true → number_of e ≡ 12 → ⊥
no_full_tray e h full = both_ways (eqb (number_of e) 12) (not-true (eqb (number_of e) 12) h) (eq-eqb (number_of e) 12 full)

-- and an answer that gives it is such a refusal
answers_so : {X : Type 0} (e : Refusal) (a : Result X Refusal) → turns_down (Some e) ≡ true → a ≡ Err e → TurnedDown a
answers_so {X} e a h given = subst (λ (x : Result X Refusal). TurnedDown x) (sym given) (no_full_tray e h)

-- a receipt answers its cause
receipt_answers : (o : Option Refusal) (a : Result (Unit {0}) Refusal) → turns_down o ≡ true → a ≡ outcome o → TurnedDown a
receipt_answers None a h given = absurd (both_ways false refl h)
receipt_answers (Some e) a h given = answers_so e a h given

module _ (K : Kind) (w : World) (M : Meaning) (node : ℕ) (a : Result Step Refusal) (v : World) (N : Meaning) where
  -- and so does a gathering step
  gathering_answers : (o : Option Refusal) (a : Result Step Refusal) → gather_refusal w node ≡ o → turns_down o ≡ true →
      Gathers K.conflicts w node a v → TurnedDown a
  gathering_answers None a e h made = absurd (both_ways false refl h)
  gathering_answers (Some e) (Ok Acknowledged) cause h made = not_some e (sym cause ∙ made.0)
  gathering_answers (Some e) (Ok (Closed x y)) cause h made = not_some e (sym cause ∙ made.0)
  gathering_answers (Some e) (Ok Proposed) cause h made = absurd made
  gathering_answers (Some e) (Ok Settled) cause h made = absurd made
  gathering_answers (Some e) (Err x) cause h made =
      let same : e ≡ x = cc (cause, made.0) in λ full. no_full_tray e h (ap number_of same ∙ full)

  -- a step by the phase
  phase_answers : (p : Phase) → turns_down (cond (is_gathering p) (gather_refusal w node) None) ≡ true →
      ByPhase K p w M node a v N → TurnedDown a
  phase_answers Gathering h made = gathering_answers (gather_refusal w node) a refl h made.0
  phase_answers Closing h made = absurd (both_ways false refl h)
  phase_answers Waiting h made = absurd (both_ways false refl h)
  phase_answers Ahead h made = gathering_answers (gather_refusal w node) a refl h made.0

  -- and by the cause before that
  step_answers : (o : Option Refusal) →
      turns_down (first o (cond (is_gathering (row_of w node).phase) (gather_refusal w node) None)) ≡ true →
      ByCause o K w M node a v N → TurnedDown a
  step_answers None h made = phase_answers (row_of w node).phase h made
  step_answers (Some e) h made = answers_so e a h made.0

-- a ring that passes the test is quiet
pub quiet_so : (K : Kind) (z : RingSize) (w : World) (M : Meaning) → rests z w ≡ true → Quiet K z w M
quiet_so K z w M h =
    let p = and_parts (leb z.q (count z.n (lives w))) _ h in
    let q = and_parts (all_below (receipt_refused w) w.ring.used) _ p.1 in
    record {
      enough = leb-true z.q (count z.n (lives w)) p.0;
      no_receipt = λ place a v made. receipt_answers (receive_refusal w place) a (receipts_refused w q.0 place) made.0;
      no_step = λ node a v N made sound.
          step_answers K w M node a v N (stepper_refusal w node) (steps_refused w q.1 node) made;
    }
