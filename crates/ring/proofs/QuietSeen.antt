-- A quiet world is seen as a quiet state of the protocol.
use Rattle.std.proofs.Common.{◌≡◌, ℕ, ◌<◌, ◌≤◌, Bool, true, false, cond, not, ltb, leb, ◌⊎◌, Some, None, Ok, Err, Option, Result}
use Rattle.std.proofs.Common.{sym, refl, ap, ◌∙◌, subst, inl, inr, arith}
use Rattle.std.proofs.lemmas.Bool.{cases_Bool, both_ways, true≢false, false≢true, and_from, and_cases, not-true, not_from_false}
use Rattle.std.proofs.lemmas.Bool.{ltb-true, leb-false, le-leb, le-ltb}
use Rattle.record.specs.Kind.{Kind}
use Rattle.chooser.specs.Meaning.{Meaning, served, has_proposed, asked}
use Rattle.chooser.specs.declared.refusal.Refusal.TheVariants.{NoSuchStage, NoSuchNode, ProposedBefore}
use Rattle.protocol.specs.Sets.{◌∈◌, ◌∉◌, count}
use Rattle.protocol.specs.Promises.{Quiet as Seen-quiet}
use Rattle.rows.specs.Causes.{refuse, first, outcome, unless}
use Rattle.rows.specs.Letters.{travelling}
use Rattle.rows.specs.Masks.{has, within}
use Rattle.rows.specs.Proposals.{by_chooser}
use Rattle.rows.specs.Receipts.{from_sender, is_gathering, is_proposed}
use Rattle.rows.specs.Refusals.{number_of}
use Rattle.rows.specs.Rows.{undelivered}
use Rattle.rows.specs.Settlements.{settle_refusal}
use Rattle.rows.specs.declared.refusal.Refusal.{Refusal}
use Rattle.rows.specs.declared.refusal.Refusal.TheVariants.{TrayFull, LaterStage, NodeCrashed, NothingNew, TooFewChecks}
use Rattle.rows.specs.declared.row.Phase.{Phase}
use Rattle.rows.specs.declared.row.Phase.TheVariants.{Gathering, Closing, Waiting, Ahead}
use Rattle.rows.specs.declared.row.Row.{Row}
use Rattle.rows.specs.declared.size.RingSize.{RingSize}
use Rattle.ring.specs.World.{World, quorum_of, row_of, has_crashed, letter_at, letter_refusal}
use Rattle.ring.specs.Gather.{gather_refusal}
use Rattle.ring.specs.Receive.{receive_refusal, received}
use Rattle.ring.specs.Step.{stepper_refusal}
use Rattle.ring.specs.Promises.{lives, TurnedDown, Quiet}
use Rattle.ring.proofs.Allowed.{step_allowed, letter_allowed}
use Rattle.ring.proofs.Causes.{not_some}
use Rattle.ring.proofs.Changing.{quorum_is, bounds}
use Rattle.ring.proofs.KeptCount.{kept_count}
use Rattle.ring.proofs.Membership.{has_minus, minus_small, within_has}
use Rattle.ring.proofs.Seeing.{Joined, seen, size_of, stands}
use Rattle.ring.proofs.StepAnswers.{phase_refusal, step_refusal, refusal_of, answer_refusal, step_answers}

-- ---- what a refusal tells

-- there is a cause, and it is not a full tray
record Refused (o : Option Refusal) : Type 0 where
  cause : Refusal
  is : o ≡ Some cause
  room : number_of cause ≡ 12 → ⊥

-- an answer that is turned down has such a cause
turned_down : {X : Type 0} (a : Result X Refusal) → TurnedDown a → Refused (refusal_of a)
turned_down (Ok x) h = absurd h
turned_down (Err e) h = record { cause = e; is = refl; room = h }

-- without a cause nothing is refused
no_cause : {A : Type 0} → Refused None → A
no_cause h = not_some h.cause (sym h.is)

-- and a full tray is no such cause
no_full_tray : {A : Type 0} → Refused (Some TrayFull) → A
no_full_tray h = let full : TrayFull ≡ h.cause = cc h.is in absurd (h.room (ap number_of (sym full)))

-- where a cause does not apply, a later one does
past : (b : Bool) (e : Refusal) (rest : Option Refusal) → b ≡ false → Refused (refuse b e rest) → Refused rest
past true e rest f h = absurd (true≢false f)
past false e rest f h = h

-- and where none of several does
past_first : (a b : Option Refusal) → a ≡ None → Refused (first a b) → Refused b
past_first None b f h = h
past_first (Some e) b f h = not_some e f

-- before a full tray, the last cause is the one that applies
applies : (b full : Bool) (e : Refusal) → Refused (refuse b e (refuse full TrayFull None)) → b ≡ true
applies true full e h = refl
applies false true e h = no_full_tray h
applies false false e h = no_cause h

-- a proposal that is refused: the stage is not served, or the node has proposed
proposal_refused : (serves other again : Bool) → other ≡ false
    → Refused (by_chooser (cond serves (cond other (Some NoSuchNode) (cond again (Some ProposedBefore) None)) (Some NoSuchStage)))
    → (serves ≡ false) ⊎ (again ≡ true)
proposal_refused true true again f h = absurd (true≢false f)
proposal_refused true false true f h = inr refl
proposal_refused true false false f h = no_cause h
proposal_refused false other again f h = inl refl

-- a settling that is refused: the stage is not served, or is undecided
settling_refused : (stage : ℕ) (decision : Option (ℕ × ℕ)) → Refused (settle_refusal (asked stage decision))
    → (stands decision ≡ false) ⊎ (served stage ≡ false)
settling_refused stage None h = inl refl
settling_refused stage (Some sets) h = elim (cases_Bool (served stage)) [
  | inl t ↦ no_cause (subst (λ (b : Bool). Refused (settle_refusal (cond b (Ok (Some sets)) (Err NoSuchStage)))) t h)
  | inr f ↦ inr f
]

-- a stage that is not served lies beyond the last
beyond_stages : (stage : ℕ) → 1 ≤ stage → served stage ≡ false → 32 < stage
beyond_stages stage l h = elim (and_cases (leb 1 stage) (leb stage 32) h) [
  | inl f ↦ absurd (both_ways (leb 1 stage) f (le-leb 1 stage l))
  | inr f ↦ leb-false stage 32 f
]

-- ---- phases

-- of a node that is not closing, the step is refused as that of one that gathers
gathering : (w : World) (M : Meaning) (r : ℕ) (phase : Phase) → not (is_gathering phase) ≡ false
    → Refused (phase_refusal phase w M r) → Refused (gather_refusal w r)
gathering w M r Gathering h x = x
gathering w M r Closing h x = absurd (true≢false h)
gathering w M r Waiting h x = absurd (true≢false h)
gathering w M r Ahead h x = x

-- one that is, and has not proposed, closes
closing : (phase : Phase) → not (is_gathering phase) ≡ true → is_proposed phase ≡ false → phase ≡ Closing
closing Gathering h p = absurd (false≢true h)
closing Closing h p = refl
closing Waiting h p = absurd (true≢false p)
closing Ahead h p = absurd (false≢true h)

-- and one that is, and has, waits
waiting : (phase : Phase) → not (is_gathering phase) ≡ true → is_proposed phase ≡ true → phase ≡ Waiting
waiting Gathering h p = absurd (false≢true p)
waiting Closing h p = absurd (false≢true p)
waiting Waiting h p = refl
waiting Ahead h p = absurd (false≢true h)

module _ {K : Kind} {z : RingSize} {need : ℕ} {low : 1 ≤ need} {high : need ≤ z.q} {w : World} {M : Meaning}
    (j : Joined K z need low high w M) where
  -- ---- receipts

  -- a letter whose receipt is refused is of a later stage than its receiver
  later_stage : (i : ℕ) → i < w.ring.used → (letter_at w i).mark ≡ travelling → lives w (letter_at w i).receiver ≡ true
      → Refused (receive_refusal w i) → (row_of w (letter_at w i).receiver).stage < (letter_at w i).stage
  later_stage i l t v h =
      ltb-true _ _ (applies (ltb (row_of w (letter_at w i).receiver).stage (letter_at w i).stage) _ LaterStage
      (past (has_crashed w.ring (letter_at w i).receiver) NodeCrashed _ (not-true _ v)
      (past_first (letter_refusal w i) _ (letter_allowed j i l t) h)))

  -- ---- steps

  module _ (r : ℕ) (l : r < z.n) (v : lives w r ≡ true) (h : Refused (step_refusal w M r)) where
    -- the row of the node
    abbrev row : Row
    row = row_of w r

    -- the cause is one of its phase
    of_phase : Refused (phase_refusal row.phase w M r)
    of_phase = past_first (stepper_refusal w r) _ (step_allowed j.fine r l v) h

    -- whichever that is
    in_phase : (phase : Phase) → row.phase ≡ phase → Refused (phase_refusal phase w M r)
    in_phase phase p = subst (λ (x : Phase). Refused (phase_refusal x w M r)) p of_phase

    -- a gathering node has acknowledged all that it has to deliver
    nothing_new : (m : ℕ) → not (is_gathering row.phase) ≡ false → m ∈ has row.received
        → m ∉ has row.delivered → m ∈ has row.pending
    nothing_new m g i o =
        let b = bounds j r l in
        within_has (undelivered row) row.pending (minus_small row.received row.delivered b.received) b.pending
        (applies (within (undelivered row) row.pending) _ NothingNew
        (gathering w M r row.phase g of_phase)) m
        (has_minus row.received row.delivered m b.received b.delivered ∙ and_from _ _ i (not_from_false _ o))

    -- one that has not proposed keeps too few checks, or its stage is beyond the chooser's, or it has
    no_proposal : not (is_gathering row.phase) ≡ true → is_proposed row.phase ≡ false
        → (count z.n (λ x. from_sender row.checks x row.checked) < z.q)
        ⊎ ((32 < row.stage) ⊎ (has_proposed r (M.proposals row.stage) ≡ true))
    no_proposal c p = elim (cases_Bool (ltb row.checked (quorum_of w.ring.size))) [
      | inl t ↦ inl (omega (
        arith,
        ltb-true _ _ t,
        quorum_is j.fine,
        kept_count z.n row.checks row.checked (j.fine.rows r l).checks_apart,
      ))
      | inr f ↦ inr (elim (proposal_refused (served row.stage) (ltb 6 r) (has_proposed r (M.proposals row.stage))
          (le-ltb 6 r (omega (arith, l, z.high)))
          (past (ltb row.checked (quorum_of w.ring.size)) TooFewChecks _ f
          (in_phase Closing (closing row.phase c p)))) [
            | inl u ↦ inl (beyond_stages row.stage (j.ok.nodes r l).stage.first u)
            | inr again ↦ inr again
          ])
    ]

    -- one that has proposed finds its stage undecided, or beyond the chooser's
    no_settling : not (is_gathering row.phase) ≡ true → is_proposed row.phase ≡ true
        → (stands (M.decision row.stage) ≡ false) ⊎ (32 < row.stage)
    no_settling c p = elim (settling_refused row.stage (M.decision row.stage)
        (in_phase Waiting (waiting row.phase c p))) [
          | inl f ↦ inl f
          | inr u ↦ inr (beyond_stages row.stage (j.ok.nodes r l).stage.first u)
        ]

  -- ---- rest

  -- in a quiet world every receipt is refused
  receipt_refused : Quiet K z w M → (i : ℕ) → Refused (receive_refusal w i)
  receipt_refused q i =
      subst (λ (o : Option Refusal). Refused o) (answer_refusal (receive_refusal w i) tt)
      (turned_down (outcome (receive_refusal w i))
      (q.no_receipt i (outcome (receive_refusal w i)) (unless (receive_refusal w i) (received w i) w) (refl, refl)))

  -- and every step, as it has an answer
  step_refused : Quiet K z w M → (r : ℕ) → Refused (step_refusal w M r)
  step_refused q r =
      let a = step_answers K w M j.chooser.sound r in
      subst (λ (o : Option Refusal). Refused o) a.refused
      (turned_down a.answer (q.no_step r a.answer a.world a.meaning a.related a.sound))

  -- so what is seen is quiet
  pub quiet_seen : Quiet K z w M → Seen-quiet (size_of z need low high) (seen K w M)
  quiet_seen q = record {
    enough_ack = q.enough;
    enough_chk = q.enough;
    no_receipt = λ i l t v. later_stage i l t v (receipt_refused q i);
    no_gathering = λ r m l v g i o. nothing_new r l v (step_refused q r) m g i o;
    no_proposal = λ r l v c p. no_proposal r l v (step_refused q r) c p;
    no_settling = λ r l v c p. no_settling r l v (step_refused q r) c p;
  }
