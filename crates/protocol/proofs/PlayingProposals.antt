-- Proposals as functions on states, as the receipts are in Playing: what the chooser makes of them is one way of many.
use Rattle.std.proofs.Common.{◌≡◌, ℕ, ◌<◌, ◌≤◌, true, false, cond, not, ◌&&◌, ◌||◌, eqb, leb, ◌⊎◌}
use Rattle.std.proofs.Common.{sym, refl, ◌∙◌, subst, inl, inr, arith}
use Rattle.std.proofs.lemmas.Bool.{cases_Bool, or_cases, and_parts, and_from, false_from_ne_true, both_ways, eqb-true}
use Rattle.std.proofs.lemmas.Bool.{eq-eqb, ne_eqb, ltb-true, leb-true, cond-true, cond-false}
use Rattle.protocol.specs.Sets.{Set, ◌∈◌, ◌∉◌, count, ◌∖◌}
use Rattle.protocol.specs.Ring.{Size, State}
use Rattle.protocol.specs.Setters.{with_proposed}
use Rattle.protocol.specs.Nodes.{undelivered, tally}
use Rattle.protocol.specs.Calls.{HandsIn, Chosen}
use Rattle.protocol.specs.Runs.{Call, proposes}
use Rattle.protocol.proofs.Counting.{count_none, count_mono}
use Rattle.protocol.proofs.Playing.{update, becomes}
use Rattle.protocol.proofs.PlayingSteps.{able}

-- r proposes, and the chooser decides the stage at once, by this proposal, if it has not decided it before
abbrev pub proposed_by : Size → ℕ → State → State
proposed_by z r s =
    let j = (s.node r).stage in
    let V = tally z (s.node r) in
    let D = undelivered (s.node r) ∖ tally z (s.node r) in
    record {
      messages = s.messages;
      conflict = s.conflict;
      broadcaster = s.broadcaster;
      sent = s.sent;
      letter = s.letter;
      node = update s.node r (with_proposed (s.node r));
      live = s.live;
      proposers = λ l x. s.proposers l x || (eqb l j && eqb x r);
      proposal_nonconflicting = λ l x. cond (eqb l j && eqb x r) V (s.proposal_nonconflicting l x);
      proposal_conflicting = λ l x. cond (eqb l j && eqb x r) D (s.proposal_conflicting l x);
      decided = λ l. s.decided l || eqb l j;
      nonconflicting = λ l. cond (eqb l j && not (s.decided l)) V (s.nonconflicting l);
      conflicting = λ l. cond (eqb l j && not (s.decided l)) D (s.conflicting l);
    }

module _ (z : Size) (s : State) (r : ℕ) (r-in : r < z.n) (first : r ∉ s.proposers (s.node r).stage)
    (chosen : (l : ℕ) → l ∈ s.decided → Chosen z s l)
    (decides : (l : ℕ) → z.need ≤ count z.n (s.proposers l) → l ∈ s.decided) where
  -- its stage
  abbrev j : ℕ
  j = (s.node r).stage

  -- what it proposes as nonconflicting
  abbrev V : Set
  V = tally z (s.node r)

  -- and what as conflicting
  abbrev D : Set
  D = undelivered (s.node r) ∖ tally z (s.node r)

  -- the state afterwards
  abbrev t : State
  t = proposed_by z r s

  -- its own proposal
  own : (l x : ℕ) → l ≡ j → x ≡ r → (eqb l j && eqb x r) ≡ true
  own l x p q = and_from (eqb l j) (eqb x r) (eq-eqb l j p) (eq-eqb x r q)

  -- any proposal made before is another
  others : (l x : ℕ) → x ∈ s.proposers l → (eqb l j && eqb x r) ≡ false
  others l x h = false_from_ne_true (eqb l j && eqb x r) (λ k.
      let w = and_parts (eqb l j) (eqb x r) k in
      both_ways (s.proposers j r) first (made (eqb-true l j w.0) (eqb-true x r w.1)))
    where
      made : l ≡ j → x ≡ r → r ∈ s.proposers j
      made p q = subst (λ (i : ℕ). r ∈ s.proposers i) p (subst (λ (y : ℕ). y ∈ s.proposers l) q h)

  -- a stage that was decided, or is another, is not decided now
  other_stage : (l : ℕ) → (l ∈ s.decided) ⊎ (l ≡ j → ⊥) → (eqb l j && not (s.decided l)) ≡ false
  other_stage l (inl h) = grind (arith, h, cases_Bool (eqb l j))
  other_stage l (inr d) = grind (arith, ne_eqb l j d)

  -- a decided stage was decided before, or is decided now by this proposal
  chosen_by : (l : ℕ) → l ∈ t.decided → Chosen z t l
  chosen_by l h = elim (cases_Bool (s.decided l)) [
    | inl k ↦ before k
    | inr k ↦ now k (grind (arith, h, k))
  ]
    where
      before : l ∈ s.decided → Chosen z t l
      before k = let w = chosen l k in record {
        by = w.by;
        in_ring = w.in_ring;
        made = grind (arith, w.made);
        nonconflicting = cond-false (eqb l j && not (s.decided l)) V (s.nonconflicting l) (other_stage l (inl k))
            ∙ w.nonconflicting
            ∙ sym (cond-false (eqb l j && eqb w.by r) V (s.proposal_nonconflicting l w.by) (others l w.by w.made));
        conflicting = cond-false (eqb l j && not (s.decided l)) D (s.conflicting l) (other_stage l (inl k))
            ∙ w.conflicting
            ∙ sym (cond-false (eqb l j && eqb w.by r) D (s.proposal_conflicting l w.by) (others l w.by w.made));
      }

      now : l ∉ s.decided → eqb l j ≡ true → Chosen z t l
      now n k = let e : (eqb l j && not (s.decided l)) ≡ true = grind (arith, n, k) in record {
        by = r;
        in_ring = r-in;
        made = grind (arith, own l r (eqb-true l j k) refl);
        nonconflicting = cond-true (eqb l j && not (s.decided l)) V (s.nonconflicting l) e
            ∙ sym (cond-true (eqb l j && eqb r r) V (s.proposal_nonconflicting l r) (own l r (eqb-true l j k) refl));
        conflicting = cond-true (eqb l j && not (s.decided l)) D (s.conflicting l) e
            ∙ sym (cond-true (eqb l j && eqb r r) D (s.proposal_conflicting l r) (own l r (eqb-true l j k) refl));
      }

  -- stages with enough proposals are decided
  decided_by : (l : ℕ) → z.need ≤ count z.n (t.proposers l) → l ∈ t.decided
  decided_by l h = elim (cases_Bool (eqb l j)) [
    | inl k ↦ grind (arith, k)
    | inr k ↦ grind (arith, decides l (omega (arith, h, count_mono z.n (t.proposers l) (s.proposers l) (only_old k))))
  ]
    where
      only_old : eqb l j ≡ false → (x : ℕ) → x < z.n → x ∈ t.proposers l → x ∈ s.proposers l
      only_old k x m p = grind (arith, k, p)

  -- so the proposal is handed in
  handed_in : HandsIn z s t r j V D
  handed_in = record {
    first = first;
    stands = grind (arith, own j r refl refl);
    nonconflicting_is = cond-true (eqb j j && eqb r r) V (s.proposal_nonconflicting j r) (own j r refl refl);
    conflicting_is = cond-true (eqb j j && eqb r r) D (s.proposal_conflicting j r) (own j r refl refl);
    kept = λ l x h. grind (arith, h);
    nonconflicting_kept = λ l x h. cond-false (eqb l j && eqb x r) V (s.proposal_nonconflicting l x) (others l x h);
    conflicting_kept = λ l x h. cond-false (eqb l j && eqb x r) D (s.proposal_conflicting l x) (others l x h);
    no_other = λ l x h. elim (or_cases (s.proposers l x) (eqb l j && eqb x r) h) [
      | inl p ↦ inl p
      | inr p ↦ (let w = and_parts (eqb l j) (eqb x r) p in inr (eqb-true l j w.0, eqb-true x r w.1))
    ];
    decisions_kept = λ l h. grind (arith, h);
    first_kept = λ l h. cond-false (eqb l j && not (s.decided l)) V (s.nonconflicting l) (other_stage l h);
    second_kept = λ l h. cond-false (eqb l j && not (s.decided l)) D (s.conflicting l) (other_stage l h);
    chosen = chosen_by;
    decides = decided_by;
  }

-- that is a call
pub plays_propose : (z : Size) (s : State) (r : ℕ)
    → (able z s r && ((s.node r).closing && (not (s.node r).proposed && leb z.chk (count z.n (s.node r).kept)))) ≡ true
    → r ∉ s.proposers (s.node r).stage → ((l : ℕ) → l ∈ s.decided → Chosen z s l)
    → ((l : ℕ) → z.need ≤ count z.n (s.proposers l) → l ∈ s.decided) → Call z s (proposed_by z r s)
plays_propose z s r h first chosen decides =
    let r-in : r < z.n = ltb-true r z.n (grind arith) in
    proposes r (record {
      steps = record {
        in_ring = r-in;
        alive = grind arith;
        letters = λ i l. refl;
        book = record { messages = refl; conflict = refl; broadcaster = refl };
        live = refl;
      };
      closing = grind arith;
      not_yet = grind arith;
      enough = leb-true z.chk (count z.n (s.node r).kept) (grind arith);
      hands_in = handed_in z s r r-in first chosen decides;
      becomes = becomes z s (proposed_by z r s) r (with_proposed (s.node r)) refl;
      silent = refl;
    })

-- the same for the first proposal of all
pub plays_first : (z : Size) (s : State) (r : ℕ)
    → (able z s r && ((s.node r).closing && (not (s.node r).proposed && leb z.chk (count z.n (s.node r).kept)))) ≡ true
    → ((j x : ℕ) → x ∉ s.proposers j) → ((j : ℕ) → j ∉ s.decided) → Call z s (proposed_by z r s)
plays_first z s r h nobody undecided =
    plays_propose z s r h (nobody (s.node r).stage r) (λ l k. absurd (both_ways (s.decided l) (undecided l) k))
    (λ l k. absurd (omega (arith, k, z.need_pos, count_none z.n (s.proposers l) (λ x m. nobody l x))))
