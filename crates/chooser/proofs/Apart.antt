-- Nodes below a limit that each propose once are no more than the limit: so a stage never overflows.
use Rattle.std.proofs.Common.{◌≡◌, ℕ, suc, zero, ◌<◌, true, false, ◌||◌, eqb, List, [], ◌∷◌, ◌++◌}
use Rattle.std.proofs.Common.{length, get_or, map, arith}
use Rattle.std.proofs.lemmas.List.{length-map}
use Rattle.std.specs.List.{IsDistinct, AllByRecursion, list_any}
use Rattle.std.proofs.lemmas.Bool.{or_parts}
use Rattle.std.proofs.lemmas.Bool.Decides.{nat_tests}
use Rattle.std.proofs.lemmas.Map.Steps.{length-le_from_distinct_below}
use Rattle.chooser.specs.Arrivals.{apart}
use Rattle.chooser.specs.Meaning.{has_proposed, no_proposal}
use Rattle.chooser.specs.declared.proposal.Proposal.{Proposal}

-- the nodes that proposed
abbrev nodes : List Proposal → List ℕ
nodes ps = map (λ (p : Proposal). p.node) ps

-- none of them is a node that has not
absent : (n : ℕ) (ps : List Proposal) → has_proposed n ps ≡ false → AllByRecursion (λ y. eqb n y ≡ false) (nodes ps)
absent n [] e = tt
absent n (p ∷ ps) e =
    let h = or_parts (eqb p.node n) (has_proposed n ps) e in
    (grind (arith, nat_tests), absent n ps h.1)

-- they differ, and are below the limit
distinct : (m : ℕ) (ps : List Proposal) → apart m ps ≡ true → IsDistinct eqb (nodes ps)
unfolding IsDistinct
distinct m [] e = tt
distinct m (p ∷ ps) e =
    (absent p.node ps (grind (arith, nat_tests)), distinct m ps (grind (arith, nat_tests)))

below : (m : ℕ) (ps : List Proposal) → apart m ps ≡ true → (q : ℕ) → list_any (eqb q) (nodes ps) ≡ true → q < m
below m [] e q f = cc
below m (p ∷ ps) e q f =
    grind (arith, nat_tests, below m ps)

-- there is room for a node that has not proposed
pub room_for : (m n : ℕ) (ps : List Proposal) → apart m ps ≡ true → has_proposed n ps ≡ false → n < m → length ps < m
room_for m n ps e a h =
    let p : Proposal = record { node = n; nonconflicting = 0; conflicting = 0 } in
    let f : apart m (p ∷ ps) ≡ true = grind (arith, nat_tests) in
    let l = length-le_from_distinct_below (nodes (p ∷ ps)) m (distinct m (p ∷ ps) f) (below m (p ∷ ps) f) in
    omega (arith, length-map ps (λ (x : Proposal). x.node))

-- whether a node is among one proposal more
has_push : (n : ℕ) (ps : List Proposal) (p : Proposal) →
    has_proposed n (ps ++ (p ∷ [])) ≡ (has_proposed n ps || eqb p.node n)
has_push n [] p = grind (arith, nat_tests)
has_push n (q ∷ ps) p = grind (arith, nat_tests, has_push n ps p)

-- a node that has not proposed may
pub apart_push : (m : ℕ) (ps : List Proposal) (p : Proposal) → apart m ps ≡ true → has_proposed p.node ps ≡ false →
    p.node < m → apart m (ps ++ (p ∷ [])) ≡ true
apart_push m [] p e a h = grind (arith, nat_tests)
apart_push m (q ∷ ps) p e a h =
    grind (arith, nat_tests, has_push q.node ps p, apart_push m ps p)

-- every node is below the limit
pub apart_below : (m : ℕ) (ps : List Proposal) → apart m ps ≡ true → (i : ℕ) → i < length ps → (get_or ps i no_proposal).node < m
apart_below m [] e i h = absurd (omega arith)
apart_below m (p ∷ ps) e zero h = grind (arith, nat_tests)
apart_below m (p ∷ ps) e (suc i) h =
    apart_below m ps (grind (arith, nat_tests)) i (omega arith)
