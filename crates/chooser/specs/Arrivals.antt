-- The proposals of one stage, in order of arrival.
use Rattle.std.specs.Prelude.{ℕ, Bool, true, cond, not, ◌&&◌, List, [], ◌∷◌, Option, Some, None, nat_lt}
use Rattle.chooser.specs.Meaning.{has_proposed}
use Rattle.chooser.specs.declared.proposal.Proposal.{Proposal}
use Rattle.chooser.specs.declared.refusal.Refusal.{Refusal}
use Rattle.chooser.specs.declared.refusal.Refusal.TheVariants.{NoSuchNode, ProposedBefore}

-- each node proposes at most once, and is below a limit
abbrev pub apart : ℕ → List Proposal → Bool
apart m [] = true
apart m (p ∷ ps) = (nat_lt p.node m && not (has_proposed p.node ps)) && apart m ps

-- why a stage turns a node down, given the proposals that it has
abbrev pub stage_refusal : List Proposal → ℕ → Option Refusal
stage_refusal ps n = cond (nat_lt 6 n) (Some NoSuchNode) (cond (has_proposed n ps) (Some ProposedBefore) None)
