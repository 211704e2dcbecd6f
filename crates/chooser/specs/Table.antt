-- How the code holds the proposals: 32 stages, each an array of seven of which the first part counts.
use Rattle.std.specs.Prelude.{◌≡◌, ℕ, ◌-◌, cond, List, [], ◌∷◌, ◌++◌, take, replicate, Some, None, Ok, Err, Result, refl}
use Rattle.std.specs.Prelude.{slice_index_or}
use Rattle.std.proofs.Common.{arith}
use Rattle.chooser.specs.Arrivals.{stage_refusal}
use Rattle.chooser.specs.Meaning.{served, no_proposal}
use Rattle.chooser.specs.declared.log.stage.Stage.{Stage}
use Rattle.chooser.specs.declared.proposal.Proposal.{Proposal}
use Rattle.chooser.specs.declared.refusal.Refusal.{Refusal}

-- the proposals that a stage has
abbrev pub arrived : Stage → List Proposal
arrived t = take t.count t.proposals

-- a proposal is refused and leaves the stage, or comes after those that it has
abbrev pub Adds : Stage → Proposal → Result (Unit {0}) Refusal → Stage → Type 0
Adds t p (Ok u) v = (stage_refusal (arrived t) p.node ≡ None) × (arrived v ≡ arrived t ++ (p ∷ []))
Adds t p (Err e) v = (stage_refusal (arrived t) p.node ≡ Some e) × (v ≡ t)

-- what stands beyond the last stage
abbrev pub no_stage : Stage
no_stage = record { count = 0; proposals = replicate 7 no_proposal; places = refl; within = omega arith; each_once = refl }

-- stage s stands at place s - 1
abbrev pub stage_at : List Stage → ℕ → Stage
stage_at ts s = slice_index_or ts (s - 1) no_stage

abbrev pub in_table : List Stage → ℕ → List Proposal
in_table ts s = cond (served s) (arrived (stage_at ts s)) []
