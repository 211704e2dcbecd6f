-- A chooser that decides by a rule within the first need proposals proposes as choosers do.
use Rattle.std.proofs.Common.{ℕ, ◌<◌, ◌≤◌, List, length, take, Result, arith}
use Rattle.std.proofs.lemmas.Grind.{common_steps}
use Rattle.chooser.specs.Log.{logged, Appends}
use Rattle.chooser.specs.Meaning.{Proposes}
use Rattle.chooser.specs.Ruled.{ruled}
use Rattle.chooser.specs.declared.log.Log.{Log}
use Rattle.chooser.specs.declared.proposal.Proposal.{Proposal}
use Rattle.chooser.specs.declared.refusal.Refusal.{Refusal}

-- a need, and a rule that stays within the first so many proposals
module _ (need : ℕ) (rule : ℕ → List Proposal → ℕ) (low : 1 ≤ need) (high : need ≤ 7)
    (within : (s : ℕ) (ps : List Proposal) → need ≤ length ps → rule s (take need ps) < need) where
  -- what a call of the log makes of the meaning
  pub ruled_proposes : (g h : Log) (s n : ℕ) (sets : ℕ × ℕ) (r : Result (Unit {0}) Refusal) → Appends g s n sets r h →
      Proposes (ruled need rule (logged g)) s n sets r (ruled need rule (logged h))
  ruled_proposes g h s n sets r e = grind (arith, common_steps, within)
