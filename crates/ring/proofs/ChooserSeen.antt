-- The chooser's meaning as the protocol sees it, and what one proposal more makes of it.
use Rattle.std.proofs.Common.{◌≡◌, ℕ, zero, suc, ◌<◌, ◌≤◌, Bool, true, false, cond, ◌||◌, eqb, ◌⊎◌, List, [], ◌∷◌, ◌++◌, length}
use Rattle.std.proofs.Common.{get_or, Some, None, Option, sym, refl, ap, ◌∙◌, subst, ap₂, inl, inr, arith}
use mathlib.Core.Bool.{or_assoc, or-false}
use Rattle.std.proofs.lemmas.Bool.{cases_lt, cases_eq, both_ways, false≢true, or_left, or_right, or_cases, or_parts, eqb-true}
use Rattle.std.proofs.lemmas.Bool.{eq-eqb, ne_eqb, cond-true, cond-false}
use Rattle.std.proofs.lemmas.Bool.Decides.{nat_tests}
use Rattle.record.specs.Kind.{Kind}
use Rattle.chooser.specs.Meaning.{Meaning, Sound, Appended, has_proposed, proposal_of, no_proposal}
use Rattle.chooser.specs.declared.proposal.Proposal.{Proposal}
use Rattle.protocol.specs.Calls.{Chosen, HandsIn}
use Rattle.protocol.specs.Sets.{Set, count}
use Rattle.protocol.proofs.Counting.{count_join, count_mono, count_none, count_only}
use Rattle.rows.specs.Masks.{has}
use Rattle.rows.specs.declared.size.RingSize.{RingSize}
use Rattle.rows.proofs.Clashes.{eqb_swap}
use Rattle.ring.specs.World.{World}
use Rattle.ring.proofs.Seeing.{first_of, second_of, stands, left_of, right_of, seen, Listed, ChooserFine, size_of}

-- ---- lists of proposals

-- with one proposal more, its node has proposed too
has_proposed_more : (x : ℕ) (ps : List Proposal) (p : Proposal)
    → has_proposed x (ps ++ p ∷ []) ≡ (has_proposed x ps || eqb p.node x)
has_proposed_more x [] p = or-false (eqb p.node x)
has_proposed_more x (q ∷ ps) p =
    ap (λ (v : Bool). eqb q.node x || v) (has_proposed_more x ps p)
    ∙ sym (or_assoc (eqb q.node x) (has_proposed x ps) (eqb p.node x))

-- the node of a proposal on the list has proposed
on_list : (ps : List Proposal) (k : ℕ) → k < length ps → has_proposed (get_or ps k no_proposal).node ps ≡ true
on_list [] k h = absurd (omega arith)
on_list (p ∷ ps) zero h = or_left (eqb p.node p.node) (has_proposed p.node ps) (eq-eqb p.node p.node refl)
on_list (p ∷ ps) (suc k) h = or_right (eqb p.node (get_or ps k no_proposal).node) _ (on_list ps k (omega arith))

-- the proposal of a node
proposal_from : List Proposal → ℕ → Proposal
proposal_from [] x = no_proposal
proposal_from (p ∷ ps) x = cond (eqb p.node x) p (proposal_from ps x)

-- its nonconflicting set is the one that is seen
first_from : (ps : List Proposal) (x : ℕ) → first_of ps x ≡ (proposal_from ps x).nonconflicting
unfolding proposal_from
first_from [] x = refl
first_from (p ∷ ps) x = let rest = first_from ps x in grind (arith, nat_tests)

-- the conflicting one too
second_from : (ps : List Proposal) (x : ℕ) → second_of ps x ≡ (proposal_from ps x).conflicting
unfolding proposal_from
second_from [] x = refl
second_from (p ∷ ps) x = let rest = second_from ps x in grind (arith, nat_tests)

-- the proposal that is added is its node's, if that had none
from_new : (ps : List Proposal) (p : Proposal) → has_proposed p.node ps ≡ false → proposal_from (ps ++ p ∷ []) p.node ≡ p
unfolding proposal_from
from_new [] p h = cond-true (eqb p.node p.node) p no_proposal (eq-eqb p.node p.node refl)
from_new (q ∷ ps) p h = let rest = from_new ps p in grind (arith, nat_tests)

-- every other node keeps its proposal
from_old : (ps : List Proposal) (p : Proposal) (x : ℕ) → has_proposed x ps ≡ true
    → proposal_from (ps ++ p ∷ []) x ≡ proposal_from ps x
unfolding proposal_from
from_old [] p x h = absurd (false≢true h)
from_old (q ∷ ps) p x h = let rest = from_old ps p x in grind (arith, nat_tests)

-- where all proposals are of different nodes, each is its node's
from_place : (n : ℕ) (ps : List Proposal) (k : ℕ) → Listed n ps → k < length ps
    → proposal_from ps (get_or ps k no_proposal).node ≡ get_or ps k no_proposal
unfolding proposal_from
from_place n [] k l h = absurd (omega arith)
from_place n (p ∷ ps) zero l h = cond-true (eqb p.node p.node) p _ (eq-eqb p.node p.node refl)
from_place n (p ∷ ps) (suc k) l h =
    let x : ℕ = (get_or ps k no_proposal).node in
    let found : has_proposed x ps ≡ true = on_list ps k (omega arith) in
    let other : p.node ≡ x → ⊥ = λ e. both_ways (has_proposed x ps) (ap (λ (y : ℕ). has_proposed y ps) (sym e) ∙ l.1) found in
    cond-false (eqb p.node x) p (proposal_from ps x) (ne_eqb p.node x other) ∙ from_place n ps k l.2 (omega arith)

-- and its node is below n
place_below : (n : ℕ) (ps : List Proposal) (k : ℕ) → Listed n ps → k < length ps → (get_or ps k no_proposal).node < n
place_below n [] k l h = absurd (omega arith)
place_below n (p ∷ ps) zero l h = l.0
place_below n (p ∷ ps) (suc k) l h = place_below n ps k l.2 (omega arith)

-- they stay of different nodes, if the added one is of another
listed_more : (n : ℕ) (ps : List Proposal) (p : Proposal) → Listed n ps → p.node < n → has_proposed p.node ps ≡ false
    → Listed n (ps ++ p ∷ [])
listed_more n [] p l k h = (k, refl, tt)
listed_more n (q ∷ ps) p l k h =
    let neither = or_parts (eqb q.node p.node) (has_proposed p.node ps) h in
    let still : has_proposed q.node (ps ++ p ∷ []) ≡ false =
    has_proposed_more q.node ps p ∙ ap₂ ◌||◌ l.1 (eqb_swap p.node q.node ∙ neither.0) in
    (l.0, still, listed_more n ps p l.2 k neither.1)

-- the proposers are not more than the proposals
count_proposers : (n : ℕ) (ps : List Proposal) → count n (λ x. has_proposed x ps) ≤ length ps
count_proposers n [] = omega (arith, count_none n (λ x. false) (λ i l. refl))
count_proposers n (p ∷ ps) =
    let both = count_join n (λ x. eqb p.node x) (λ x. has_proposed x ps) in
    let one = count_mono n (λ x. eqb p.node x) (λ x. eqb x p.node) (λ i l h. eqb_swap i p.node ∙ h) in
    omega (arith, both, one, count_only n p.node, count_proposers n ps)

-- ---- decisions

module _ {z : RingSize} {need : ℕ} {M : Meaning} (c : ChooserFine z need M) (stage : ℕ) where
  -- the proposals of the stage
  abbrev made : List Proposal
  made = M.proposals stage

  -- only a stage with enough proposals is decided
  decided_full : stands (M.decision stage) ≡ true → M.need ≤ length made
  decided_full h = elim (cases_lt (length made) M.need) [
    | inl few ↦ absurd (both_ways (stands (M.decision stage)) (ap stands (c.sound.waits stage few)) h)
    | inr full ↦ full
  ]

  -- a decision is one of the proposals made
  chosen_seen : (K : Kind) (w : World) (low : 1 ≤ need) (high : need ≤ z.q) → stands (M.decision stage) ≡ true
      → Chosen (size_of z need low high) (seen K w M) stage
  chosen_seen K w low high h =
      let d = c.sound.stands stage (decided_full h) in
      let in_list : d.0 < length made = omega (arith, d.1, decided_full h) in
      let x : ℕ = (get_or made d.0 no_proposal).node in
      let its = from_place z.n made d.0 (c.listed stage) in_list in
      record {
        by = x;
        in_ring = place_below z.n made d.0 (c.listed stage) in_list;
        made = on_list made d.0 in_list;
        nonconflicting = ap has (ap left_of d.2 ∙ sym (first_from made x ∙ ap (λ (p : Proposal). p.nonconflicting) its));
        conflicting = ap has (ap right_of d.2 ∙ sym (second_from made x ∙ ap (λ (p : Proposal). p.conflicting) its));
      }

  -- enough proposers make a decision
  enough_decided : need ≤ count z.n (λ x. has_proposed x made) → stands (M.decision stage) ≡ true
  enough_decided h =
      ap stands (c.sound.stands stage (omega (arith, h, c.need_is, count_proposers z.n made))).2

-- ---- one proposal more

-- what holds in one stage and in every other holds in all
in_each : (P : ℕ → Type 0) (stage i : ℕ) → P stage → ((i ≡ stage → ⊥) → P i) → P i
in_each P stage i here there = elim (cases_eq i stage) [ inl e ↦ subst P (sym e) here | inr d ↦ there d ]

-- a decision that stands is some pair of sets
stands_some : (o : Option (ℕ × ℕ)) → stands o ≡ true → (sets : ℕ × ℕ) × (o ≡ Some sets)
stands_some None h = absurd (false≢true h)
stands_some (Some sets) h = (sets, refl)

module _ {z : RingSize} {need : ℕ} {M N : Meaning} (c : ChooserFine z need M) (stage node : ℕ) (sets : ℕ × ℕ)
    (in_ring : node < z.n) (new : has_proposed node (M.proposals stage) ≡ false)
    (appended : Appended M stage (proposal_of node sets) N) (sound : Sound N) where
  -- the proposal that is added
  abbrev extra : Proposal
  extra = proposal_of node sets

  -- whether a node had proposed in a stage
  abbrev before : ℕ → ℕ → Bool
  before i x = has_proposed x (M.proposals i)

  -- whether it has now
  abbrev now : ℕ → ℕ → Bool
  now i x = has_proposed x (N.proposals i)

  -- what is known of the chooser stays so
  pub appended_fine : ChooserFine z need N
  appended_fine = record {
    sound = sound;
    need_is = appended.same_need ∙ c.need_is;
    listed = λ i. in_each (λ k. Listed z.n (N.proposals k)) stage i
        (subst (Listed z.n) (sym appended.here)
        (listed_more z.n (M.proposals stage) extra (c.listed stage) in_ring new))
        (λ d. subst (Listed z.n) (sym (appended.elsewhere i d).0) (c.listed i));
  }

  -- who has proposed in the stage
  proposers_here : (x : ℕ) → now stage x ≡ (before stage x || eqb node x)
  proposers_here x = ap (has_proposed x) appended.here ∙ has_proposed_more x (M.proposals stage) extra

  -- a node that has proposed still has
  still_proposed : (i x : ℕ) → before i x ≡ true → now i x ≡ true
  still_proposed i x = in_each (λ k. before k x ≡ true → now k x ≡ true) stage i
      (λ h. proposers_here x ∙ or_left _ _ h)
      (λ d h. ap (has_proposed x) (appended.elsewhere i d).0 ∙ h)

  -- and its proposal stays
  same_proposal : (i x : ℕ) → before i x ≡ true → proposal_from (N.proposals i) x ≡ proposal_from (M.proposals i) x
  same_proposal i x =
      in_each (λ k. before k x ≡ true → proposal_from (N.proposals k) x ≡ proposal_from (M.proposals k) x) stage i
      (λ h. ap (λ (ps : List Proposal). proposal_from ps x) appended.here ∙ from_old (M.proposals stage) extra x h)
      (λ d h. ap (λ (ps : List Proposal). proposal_from ps x) (appended.elsewhere i d).0)

  -- nobody else has proposed
  no_other : (i x : ℕ) → now i x ≡ true → (before i x ≡ true) ⊎ ((i ≡ stage) × (x ≡ node))
  no_other i x = in_each
      (λ k. now k x ≡ true → (before k x ≡ true) ⊎ ((k ≡ stage) × (x ≡ node))) stage i
      (λ h. elim (or_cases (before stage x) (eqb node x) (sym (proposers_here x) ∙ h)) [
        | inl earlier ↦ inl earlier
        | inr e ↦ inr (refl, sym (eqb-true node x e))
      ])
      (λ d h. inl (ap (has_proposed x) (sym (appended.elsewhere i d).0) ∙ h))

  -- the node's proposal is the one that is added
  its_proposal : proposal_from (N.proposals stage) node ≡ extra
  its_proposal = ap (λ (ps : List Proposal). proposal_from ps node) appended.here ∙ from_new (M.proposals stage) extra new

  -- a decision that stands stays, and so does whatever other stages have
  decision_kept : (i : ℕ) → (stands (M.decision i) ≡ true) ⊎ (i ≡ stage → ⊥) → N.decision i ≡ M.decision i
  decision_kept i = in_each (λ k. (stands (M.decision k) ≡ true) ⊎ (k ≡ stage → ⊥) → N.decision k ≡ M.decision k) stage i
      (λ h. elim h [
        | inl s ↦ let d = stands_some (M.decision stage) s in appended.stays d.0 d.1 ∙ sym d.1
        | inr other ↦ absurd (other refl)
      ])
      (λ d h. (appended.elsewhere i d).1)

  -- as the protocol sees it, the node hands in its proposal
  pub hands_in : (K : Kind) (w v : World) (low : 1 ≤ need) (high : need ≤ z.q) (T D : Set) → has sets.0 ≡ T
      → has sets.1 ≡ D → HandsIn (size_of z need low high) (seen K w M) (seen K v N) node stage T D
  hands_in K w v low high T D first-is second_is = record {
    first = new;
    stands = proposers_here node ∙ or_right _ _ (eq-eqb node node refl);
    nonconflicting_is =
        ap has (first_from (N.proposals stage) node ∙ ap (λ (q : Proposal). q.nonconflicting) its_proposal) ∙ first-is;
    conflicting_is =
        ap has (second_from (N.proposals stage) node ∙ ap (λ (q : Proposal). q.conflicting) its_proposal) ∙ second_is;
    kept = still_proposed;
    nonconflicting_kept = λ i x h. ap has (first_from (N.proposals i) x
        ∙ ap (λ (q : Proposal). q.nonconflicting) (same_proposal i x h) ∙ sym (first_from (M.proposals i) x));
    conflicting_kept = λ i x h. ap has (second_from (N.proposals i) x
        ∙ ap (λ (q : Proposal). q.conflicting) (same_proposal i x h) ∙ sym (second_from (M.proposals i) x));
    no_other = no_other;
    decisions_kept = λ i h. ap stands (decision_kept i (inl h)) ∙ h;
    first_kept = λ i h. ap (λ (o : Option (ℕ × ℕ)). has (left_of o)) (decision_kept i h);
    second_kept = λ i h. ap (λ (o : Option (ℕ × ℕ)). has (right_of o)) (decision_kept i h);
    chosen = λ i h. chosen_seen appended_fine i K v low high h;
    decides = λ i h. enough_decided appended_fine i h;
  }
