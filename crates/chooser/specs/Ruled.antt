-- A chooser that decides by a rule over the proposals.
use Rattle.std.specs.Prelude.{◌≡◌, ℕ, cond, ◌||◌, List, [], length, take, Some, None, Ok, Err, Option, Result, ◌==◌, nat_le}
use Rattle.std.specs.Prelude.{nat_lt, slice_index_or}
use Rattle.chooser.specs.Meaning.{Meaning, sets_of, no_proposal}
use Rattle.chooser.specs.declared.proposal.Proposal.{Proposal}
use Rattle.chooser.specs.declared.refusal.Refusal.{Refusal}
use Rattle.chooser.specs.declared.refusal.Refusal.TheVariants.{NeedOutOfRange}

-- a rule: of a stage and its first need proposals, the place of the decided one among them
abbrev pub decided : ℕ → (ℕ → List Proposal → ℕ) → ℕ → List Proposal → Option (ℕ × ℕ)
decided need rule s ps =
    cond (nat_le need (length ps)) (Some (sets_of (slice_index_or ps (rule s (take need ps)) no_proposal))) None

-- the meaning of a chooser by a rule: its log, decided stage by stage
abbrev pub ruled : ℕ → (ℕ → List Proposal → ℕ) → (ℕ → List Proposal) → Meaning
ruled need rule log = record { need = need; proposals = log; decision = λ s. decided need rule s (log s) }

-- A chooser with this need and no proposal yet.
pub record Fresh (need : ℕ) (M : Meaning) : Type 0 where
  pub needs : M.need ≡ need
  pub empty : (s : ℕ) → M.proposals s ≡ []

-- a need is 1 to 7
abbrev pub need_refusal : ℕ → Option Refusal
need_refusal need = cond (need == 0 || nat_lt 7 need) (Some NeedOutOfRange) None

-- A chooser is made with a need of 1 to 7; another need is refused.
abbrev pub Makes : {X : Type 0} → (X → Meaning) → ℕ → Result X Refusal → Type 0
Makes means need (Ok x) = (need_refusal need ≡ None) × Fresh need (means x)
Makes means need (Err e) = need_refusal need ≡ Some e
