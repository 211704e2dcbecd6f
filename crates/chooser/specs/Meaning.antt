-- What a chooser means, and what its calls make of that meaning.
use Rattle.std.specs.Prelude.{◌≡◌, ℕ, ◌<◌, ◌≤◌, Bool, false, cond, ◌&&◌, ◌||◌, List, [], ◌∷◌, ◌++◌, length, Some, None, Ok}
use Rattle.std.specs.Prelude.{Err, Option, Result, ◌==◌, ◌≢◌, nat_le, nat_lt, slice_index_or}
use Rattle.chooser.specs.declared.proposal.Proposal.{Proposal}
use Rattle.chooser.specs.declared.refusal.Refusal.{Refusal}
use Rattle.chooser.specs.declared.refusal.Refusal.TheVariants.{NoSuchStage, NoSuchNode, ProposedBefore}

-- For each stage the proposals in order of arrival, and the decided pair of sets or none.
pub record Meaning : Type 0 where
  pub need : ℕ
  pub proposals : ℕ → List Proposal
  pub decision : ℕ → Option (ℕ × ℕ)

-- stages 1 to 32 are served
abbrev pub served : ℕ → Bool
served s = nat_le 1 s && nat_le s 32

-- the pair of sets that is proposed
abbrev pub sets_of : Proposal → ℕ × ℕ
sets_of p = (p.nonconflicting, p.conflicting)

-- what stands beyond the last proposal
abbrev pub no_proposal : Proposal
no_proposal = record { node = 0; nonconflicting = 0; conflicting = 0 }

-- A stage is decided exactly when it has as many proposals as the need, and by one of the first so many.
pub record Sound (M : Meaning) : Type 0 where
  pub need_low : 1 ≤ M.need
  pub need_high : M.need ≤ 7
  pub unserved : (s : ℕ) → served s ≡ false → M.proposals s ≡ []
  pub waits : (s : ℕ) → length (M.proposals s) < M.need → M.decision s ≡ None
  pub stands : (s : ℕ) → M.need ≤ length (M.proposals s) →
      (k : ℕ) × (k < M.need) × (M.decision s ≡ Some (sets_of (slice_index_or (M.proposals s) k no_proposal)))

-- whether node n has one of these proposals
abbrev pub has_proposed : ℕ → List Proposal → Bool
has_proposed n [] = false
has_proposed n (p ∷ ps) = p.node == n || has_proposed n ps

-- the first cause that applies, given the stage's proposals
abbrev pub proposal_refusal : List Proposal → ℕ → ℕ → Option Refusal
proposal_refusal ps s n =
    cond (served s) (cond (nat_lt 6 n) (Some NoSuchNode) (cond (has_proposed n ps) (Some ProposedBefore) None)) (Some NoSuchStage)

-- the proposal of a node
abbrev pub proposal_of : ℕ → ℕ × ℕ → Proposal
proposal_of n sets = record { node = n; nonconflicting = sets.0; conflicting = sets.1 }

-- One proposal more in one stage, and in no other; a decision that stands stays.
pub record Appended (M : Meaning) (s : ℕ) (p : Proposal) (N : Meaning) : Type 0 where
  pub same_need : N.need ≡ M.need
  pub here : N.proposals s ≡ M.proposals s ++ (p ∷ [])
  pub stays : (sets : ℕ × ℕ) → M.decision s ≡ Some sets → N.decision s ≡ Some sets
  pub elsewhere : (j : ℕ) → (j ≢ s) → (N.proposals j ≡ M.proposals j) × (N.decision j ≡ M.decision j)

-- A proposal is refused and leaves the meaning, or is appended.
abbrev pub Proposes : Meaning → ℕ → ℕ → ℕ × ℕ → Result (Unit {0}) Refusal → Meaning → Type 0
Proposes M s n sets (Ok u) N = (proposal_refusal (M.proposals s) s n ≡ None) × Appended M s (proposal_of n sets) N
Proposes M s n sets (Err e) N = (proposal_refusal (M.proposals s) s n ≡ Some e) × (N ≡ M)

-- a question about a stage is refused only where the stage is not served
abbrev pub asked : {X : Type 0} → ℕ → X → Result X Refusal
asked s x = cond (served s) (Ok x) (Err NoSuchStage)
