-- Lowest-of: the proposal of the lowest node among the first is decided.
use Rattle.std.specs.Prelude.{◌≡◌, ℕ, ◌+◌, ◌<◌, ◌≤◌, cond, List, [], ◌∷◌, length, get_or, Some, nat_lt, slice_index_or}
use Rattle.chooser.specs.Log.{logged}
use Rattle.chooser.specs.Meaning.{Meaning, sets_of, no_proposal}
use Rattle.chooser.specs.Ruled.{ruled}
use Rattle.chooser.specs.declared.log.Log.{Log}
use Rattle.chooser.specs.declared.proposal.Proposal.{Proposal}

-- the best place so far and its node, and the place of the first of the rest
abbrev pub lowest_from : ℕ → ℕ → ℕ → List Proposal → ℕ
lowest_from best n i [] = best
lowest_from best n i (p ∷ ps) =
    cond (nat_lt p.node n) (lowest_from i p.node (i + 1) ps) (lowest_from best n (i + 1) ps)

-- the place of the lowest node; nodes are at most 6
abbrev pub lowest : List Proposal → ℕ
lowest ps = lowest_from 0 7 0 ps

abbrev pub lowest_of : ℕ → Log → Meaning
lowest_of need log = ruled need (λ s ps. lowest ps) (logged log)

-- the node of the proposal at a place
abbrev pub node_at : List Proposal → ℕ → ℕ
node_at ps i = (get_or ps i no_proposal).node

-- Of at least one proposal, by nodes 0 to 6, `lowest` gives a place, and no node among them is below the node there.
abbrev pub LowestIsLowest : Type 0
LowestIsLowest = (ps : List Proposal) → 1 ≤ length ps → ((i : ℕ) → i < length ps → node_at ps i < 7) →
    (lowest ps < length ps) × ((i : ℕ) → i < length ps → node_at ps (lowest ps) ≤ node_at ps i)

-- A stage with enough proposals is decided by one of the first need, and no node among those is below its node.
abbrev pub LowestDecides : Type 0
LowestDecides = (need : ℕ) (log : Log) (s : ℕ) → 1 ≤ need → need ≤ length (logged log s) →
    (k : ℕ) × (k < need) × ((i : ℕ) → i < need → node_at (logged log s) k ≤ node_at (logged log s) i)
    × ((lowest_of need log).decision s ≡ Some (sets_of (slice_index_or (logged log s) k no_proposal)))
