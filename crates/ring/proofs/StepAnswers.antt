-- A step is never without an answer, and its answer is a refusal exactly where one of its causes applies.
use Rattle.std.proofs.Common.{◌≡◌, ℕ, ◌<◌, ◌≤◌, true, false, cond, eqb, ltb, leb, List, [], ◌∷◌, ◌++◌, length, get_or, Some}
use Rattle.std.proofs.Common.{None, Ok, Err, Option, Result, sym, refl, ap, ◌∙◌, subst, inl, inr, arith}
use Rattle.std.proofs.lemmas.List.{length_push, get_or_append_left}
use Rattle.std.proofs.lemmas.Bool.{cases_Bool, cases_lt, both_ways, eqb-true, eq-eqb, ne_eqb, le-leb, lt-leb, cond-true}
use Rattle.std.proofs.lemmas.Bool.{cond-false, cond_both}
use Rattle.record.specs.Kind.{Kind}
use Rattle.chooser.specs.Meaning.{Meaning, Sound, Appended, served, sets_of, no_proposal}
use Rattle.chooser.specs.Meaning.{proposal_of}
use Rattle.chooser.specs.declared.proposal.Proposal.{Proposal}
use Rattle.rows.specs.Causes.{first, answer, unless}
use Rattle.rows.specs.Conflicts.{clash, clashes_with, conflicted}
use Rattle.rows.specs.Proposals.{proposed_sets, propose_refusal}
use Rattle.rows.specs.Rows.{undelivered}
use Rattle.rows.specs.Settlements.{settle_refusal, decided_of}
use Rattle.rows.specs.declared.refusal.Refusal.{Refusal}
use Rattle.rows.specs.declared.row.Phase.{Phase}
use Rattle.rows.specs.declared.row.Phase.TheVariants.{Gathering, Closing, Waiting, Ahead}
use Rattle.rows.specs.declared.row.Row.{Row}
use Rattle.rows.proofs.Anys.{any_is}
use Rattle.ring.specs.World.{World, quorum_of, row_of}
use Rattle.ring.specs.Gather.{gather_refusal, acknowledged, closed}
use Rattle.ring.specs.Close.{proposed_by, decision_for, settled_by}
use Rattle.ring.specs.Step.{ByPhase, ByCause, stepper_refusal, Steps}
use Rattle.ring.specs.declared.step.Step.{Step}
use Rattle.ring.specs.declared.step.Step.TheVariants.{Acknowledged, Closed, Proposed, Settled}
use Rattle.ring.proofs.Causes.{refuse_none, proposal_none}

-- ---- the causes of a step

-- those of the phase
abbrev pub phase_refusal : Phase → World → Meaning → ℕ → Option Refusal
phase_refusal Gathering w M node = gather_refusal w node
phase_refusal Closing w M node = propose_refusal (quorum_of w.ring.size) node (row_of w node) M
phase_refusal Waiting w M node = settle_refusal (decision_for w M node)
phase_refusal Ahead w M node = gather_refusal w node

-- all of them
abbrev pub step_refusal : World → Meaning → ℕ → Option Refusal
step_refusal w M node = first (stepper_refusal w node) (phase_refusal (row_of w node).phase w M node)

-- ---- one proposal more

-- the proposals and the decision of a stage
abbrev Entry : Type 0
Entry = List Proposal × Option (ℕ × ℕ)

-- what soundness says of one stage
record StageSound (need stage : ℕ) (entry : Entry) : Type 0 where
  unserved : served stage ≡ false → entry.0 ≡ []
  waits : length entry.0 < need → entry.1 ≡ None
  stands : need ≤ length entry.0 → (k : ℕ) × (k < need) × (entry.1 ≡ Some (sets_of (get_or entry.0 k no_proposal)))

-- a sound meaning with the proposal appended
record Longer (M : Meaning) (stage : ℕ) (p : Proposal) : Type 0 where
  meaning : Meaning
  appended : Appended M stage p meaning
  sound : Sound meaning

module _ (M : Meaning) (sound : Sound M) (stage : ℕ) (serves : served stage ≡ true) (p : Proposal) where
  -- the proposals of the stage then
  abbrev proposals : List Proposal
  proposals = M.proposals stage ++ (p ∷ [])

  -- its decision then: the one that stands, or else the first proposal as soon as there are enough
  abbrev decision : Option (ℕ × ℕ)
  decision =
      cond (leb M.need (length (M.proposals stage))) (M.decision stage)
      (cond (leb M.need (length proposals)) (Some (sets_of (get_or proposals 0 no_proposal))) None)

  -- proposals and decision of every stage then
  abbrev entry : ℕ → Entry
  entry j = cond (eqb j stage) (proposals, decision) (M.proposals j, M.decision j)

  -- a stage that still has too few proposals is undecided
  still_waits : length proposals < M.need → decision ≡ None
  still_waits h =
      cond-false _ _ _ (lt-leb M.need (length (M.proposals stage)) (omega (arith, h, length_push (M.proposals stage) p)))
      ∙ cond-false _ _ _ (lt-leb M.need (length proposals) h)

  -- one that has enough is decided by one of those that were needed
  now_stands : M.need ≤ length proposals
      → (k : ℕ) × (k < M.need) × (decision ≡ Some (sets_of (get_or proposals k no_proposal)))
  now_stands h = elim (cases_lt (length (M.proposals stage)) M.need) [
    | inl l ↦ (
      0,
      sound.need_low,
      cond-false _ _ _ (lt-leb M.need (length (M.proposals stage)) l)
          ∙ cond-true _ _ _ (le-leb M.need (length proposals) h),
    )
    | inr l ↦ let d = sound.stands stage l in (
      d.0,
      d.1,
      cond-true _ _ _ (le-leb M.need (length (M.proposals stage)) l) ∙ d.2
          ∙ ap (λ (q : Proposal). Some (sets_of q))
          (sym (get_or_append_left (M.proposals stage) (p ∷ []) no_proposal d.0 (omega (arith, d.1, l)))),
    )
  ]

  -- a decision stays
  stays : (sets : ℕ × ℕ) → M.decision stage ≡ Some sets → decision ≡ Some sets
  stays sets h = elim (cases_lt (length (M.proposals stage)) M.need) [
    | inl l ↦ let none = sound.waits stage l in cc
    | inr l ↦ cond-true _ _ _ (le-leb M.need (length (M.proposals stage)) l) ∙ h
  ]

  -- so every stage is as soundness says
  stage_sound : (j : ℕ) → StageSound M.need j (entry j)
  stage_sound j = cond_both (eqb j stage) (proposals, decision) (M.proposals j, M.decision j) (StageSound M.need j)
      (λ e. record {
        unserved = λ u. absurd (both_ways (served stage) (subst (λ (i : ℕ). served i ≡ false) (eqb-true j stage e) u) serves);
        waits = still_waits;
        stands = now_stands;
      })
      (λ e. record { unserved = sound.unserved j; waits = sound.waits j; stands = sound.stands j })

  -- and the meaning is sound
  longer : Longer M stage p
  longer = record {
    meaning = record { need = M.need; proposals = λ j. (entry j).0; decision = λ j. (entry j).1 };
    appended = record {
      same_need = refl;
      here = ap (λ (x : Entry). x.0) (cond-true _ _ _ (eq-eqb stage stage refl));
      stays = λ sets h. ap (λ (x : Entry). x.1) (cond-true _ _ _ (eq-eqb stage stage refl)) ∙ stays sets h;
      elsewhere = λ j d. let e : entry j ≡ (M.proposals j, M.decision j) = cond-false _ _ _ (ne_eqb j stage d) in
          (ap (λ (x : Entry). x.0) e, ap (λ (x : Entry). x.1) e);
    };
    sound = record {
      need_low = sound.need_low;
      need_high = sound.need_high;
      unserved = λ j. (stage_sound j).unserved;
      waits = λ j. (stage_sound j).waits;
      stands = λ j. (stage_sound j).stands;
    };
  }

-- ---- the answers

-- the refusal that an answer is, or none
abbrev pub refusal_of : {X : Type 0} → Result X Refusal → Option Refusal
refusal_of (Ok x) = None
refusal_of (Err e) = Some e

-- an answer by a cause is a refusal for just that
pub answer_refusal : {X : Type 0} (o : Option Refusal) (x : X) → refusal_of (answer o x) ≡ o
answer_refusal None x = refl
answer_refusal (Some e) x = refl

-- an answer, a world and a sound meaning that are related, and the answer is a refusal for just the cause
pub record Answers (Related : Result Step Refusal → World → Meaning → Type 0) (cause : Option Refusal) : Type 0 where
  pub answer : Result Step Refusal
  pub world : World
  pub meaning : Meaning
  pub related : Related answer world meaning
  pub sound : Sound meaning
  pub refused : refusal_of answer ≡ cause

module _ (K : Kind) (w : World) (M : Meaning) (sound : Sound M) (node : ℕ) where
  -- the row of the node
  abbrev row : Row
  row = row_of w node

  -- the quorum
  abbrev quorum : ℕ
  quorum = quorum_of w.ring.size

  -- a gathering node acknowledges, or closes because of any two conflicting messages
  gathering_answers : (o : Option Refusal) → gather_refusal w node ≡ o
      → Answers (ByPhase K Gathering w M node) (gather_refusal w node)
  gathering_answers (Some e) h = record {
    answer = Err e;
    world = w;
    meaning = M;
    related = ((h, refl), refl);
    sound = sound;
    refused = sym h;
  }
  gathering_answers None h = elim (cases_Bool (conflicted K.conflicts w.book (undelivered row))) [
    | inl t ↦
        let a = (any_is (clashes_with K.conflicts w.book (undelivered row)) 64).0 t in
        let b = (any_is (clash K.conflicts w.book (undelivered row) a.0) 64).0 a.2 in
        record {
          answer = Ok (Closed a.0 b.0);
          world = closed w node;
          meaning = M;
          related = ((h, t, b.2, refl), refl);
          sound = sound;
          refused = sym h;
        }
    | inr f ↦ record {
      answer = Ok Acknowledged;
      world = acknowledged w node;
      meaning = M;
      related = ((h, f, refl), refl);
      sound = sound;
      refused = sym h;
    }
  ]

  -- a closing node that has not proposed proposes, to a chooser with its proposal appended
  proposing_answers : (o : Option Refusal) → propose_refusal quorum node row M ≡ o
      → Answers (ByPhase K Closing w M node) (propose_refusal quorum node row M)
  proposing_answers (Some e) h = record {
    answer = Err e;
    world = w;
    meaning = M;
    related = (h, refl, refl);
    sound = sound;
    refused = sym h;
  }
  proposing_answers None h =
      let enough = refuse_none (ltb row.checked quorum) _ _ h in
      let accepted = proposal_none (M.proposals row.stage) row.stage node enough.1 in
      let more = longer M sound row.stage accepted.0 (proposal_of node (proposed_sets quorum row)) in
      record {
        answer = Ok Proposed;
        world = proposed_by w node;
        meaning = more.meaning;
        related = (h, more.appended, refl);
        sound = more.sound;
        refused = sym h;
      }

  -- by the phase
  phase_answers : (phase : Phase) → Answers (ByPhase K phase w M node) (phase_refusal phase w M node)
  phase_answers Gathering = gathering_answers (gather_refusal w node) refl
  phase_answers Closing = proposing_answers (propose_refusal quorum node row M) refl
  phase_answers Waiting = record {
    answer = answer (settle_refusal (decision_for w M node)) Settled;
    world = unless (settle_refusal (decision_for w M node)) (settled_by w node (decided_of (decision_for w M node))) w;
    meaning = M;
    related = (refl, refl, refl);
    sound = sound;
    refused = answer_refusal (settle_refusal (decision_for w M node)) Settled;
  }
  phase_answers Ahead = gathering_answers (gather_refusal w node) refl

  -- by the cause that turns every step of the node down
  cause_answers : (o : Option Refusal) → Answers (ByCause o K w M node)
      (first o (phase_refusal row.phase w M node))
  cause_answers (Some e) = record {
    answer = Err e;
    world = w;
    meaning = M;
    related = (refl, refl, refl);
    sound = sound;
    refused = refl;
  }
  cause_answers None = phase_answers row.phase

  -- a step has an answer
  pub step_answers : Answers (Steps K w M node) (step_refusal w M node)
  step_answers = cause_answers (stepper_refusal w node)
