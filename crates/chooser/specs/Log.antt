-- What the log of proposals holds, and what its calls make of it.
use Rattle.std.specs.Prelude.{◌≡◌, ℕ, true, false, List, [], ◌∷◌, ◌++◌, Some, None, Ok, Err, Result, ◌≢◌}
use Rattle.std.specs.Borrow.{Bor}
use Rattle.chooser.specs.Meaning.{served, proposal_refusal, proposal_of}
use Rattle.chooser.specs.Table.{in_table}
use Rattle.chooser.specs.declared.log.Log.{Log}
use Rattle.chooser.specs.declared.proposal.Proposal.{Proposal}
use Rattle.chooser.specs.declared.refusal.Refusal.{Refusal}
use Rattle.chooser.specs.declared.refusal.Refusal.TheVariants.{NoSuchStage}

-- the proposals of a stage, in order of arrival
abbrev pub logged : Log → ℕ → List Proposal
logged g = in_table g.stages

-- the proposals of a stage that is served are answered
abbrev pub Reads : Log → ℕ → Result (Bor (List Proposal)) Refusal → Type 0
Reads g s (Ok x) = (served s ≡ true) × (x.now ≡ logged g s)
Reads g s (Err e) = (served s ≡ false) × (e ≡ NoSuchStage)

-- a proposal is refused and leaves the log, or is appended to its stage alone
abbrev pub Appends : Log → ℕ → ℕ → ℕ × ℕ → Result (Unit {0}) Refusal → Log → Type 0
Appends g s n sets (Ok u) h =
    (proposal_refusal (logged g s) s n ≡ None) × (logged h s ≡ logged g s ++ (proposal_of n sets ∷ []))
    × ((j : ℕ) → (j ≢ s) → logged h j ≡ logged g j)
Appends g s n sets (Err e) h = (proposal_refusal (logged g s) s n ≡ Some e) × (h ≡ g)
