-- What holds of every chooser, whatever is proposed to it.
use Rattle.std.specs.Prelude.{◌≡◌, ℕ, ◌≤◌, length, Some, Result}
use Rattle.chooser.specs.Meaning.{Meaning, Sound, Proposes, sets_of, proposal_of}
use Rattle.chooser.specs.declared.refusal.Refusal.{Refusal}

-- A chooser's meaning after any list of proposals, refused ones included.
pub data Later (M : Meaning) : Meaning → Type 0 where
  at_once : Later M M
  and_then : (N O : Meaning) (s n : ℕ) (sets : ℕ × ℕ) (r : Result (Unit {0}) Refusal) →
      Later M N → Proposes N s n sets r O → Later M O

-- A decision stays, whatever is proposed later in whatever stage.
abbrev pub DecisionsStay : Type 0
DecisionsStay = (M N : Meaning) → Later M N → (s : ℕ) (sets : ℕ × ℕ) → M.decision s ≡ Some sets → N.decision s ≡ Some sets

-- A stage with enough proposals is decided, and stays so.
abbrev pub EnoughDecides : Type 0
EnoughDecides = (M N : Meaning) → Sound M → Later M N → (s : ℕ) → M.need ≤ length (M.proposals s) →
    (sets : ℕ × ℕ) × (M.decision s ≡ Some sets) × (N.decision s ≡ Some sets)

-- The need never changes.
abbrev pub NeedStays : Type 0
NeedStays = (M N : Meaning) → Later M N → N.need ≡ M.need

-- The pair of a proposal, by which a stage is decided, is the pair that the node gave.
abbrev pub PairsAsGiven : Type 0
PairsAsGiven = (n : ℕ) (sets : ℕ × ℕ) → sets_of (proposal_of n sets) ≡ sets
