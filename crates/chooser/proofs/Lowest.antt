-- The place that the rule of Lowest-of gives is that of the lowest node.
use Rattle.std.proofs.Common.{◌≡◌, ℕ, zero, suc, ◌+◌, ◌<◌, ◌≤◌, ltb, List, [], ◌∷◌, length, take, ap, ◌∙◌, arith}
use Rattle.std.proofs.lemmas.List.{length-take-le, get_or-take}
use Rattle.std.proofs.lemmas.Bool.{cond_both, le-leb, ltb-true, ltb-false}
use Rattle.chooser.specs.Log.{logged}
use Rattle.chooser.specs.LowestOf.{lowest, lowest_from, node_at, LowestIsLowest, LowestDecides}
use Rattle.chooser.specs.Meaning.{no_proposal}
use Rattle.chooser.specs.declared.proposal.Proposal.{Proposal}
use Rattle.chooser.specs.Rules.{lowest_below}
use Rattle.chooser.proofs.Tables.{nodes_below}

-- what is at most the first node and at most the others is at most each
each : (x : ℕ) (p : Proposal) (ps : List Proposal) → x ≤ p.node → ((k : ℕ) → k < length ps → x ≤ node_at ps k) →
    (k : ℕ) → k < length (p ∷ ps) → x ≤ node_at (p ∷ ps) k
each x p ps a b zero l = a
each x p ps a b (suc k) l = b k (omega arith)

-- f has the nodes of the whole list, of which ps is the part from place i on, and n is no less than the best node so far
least : (f : ℕ → ℕ) (best n i : ℕ) (ps : List Proposal) → f best ≤ n → ((k : ℕ) → k < length ps → f (i + k) ≡ node_at ps k) →
    (f (lowest_from best n i ps) ≤ n) × ((k : ℕ) → k < length ps → f (lowest_from best n i ps) ≤ node_at ps k)
least f best n i [] h g = (h, λ k l. absurd (omega arith))
least f best n i (p ∷ ps) h g =
    cond_both (ltb p.node n) (lowest_from i p.node (i + 1) ps) (lowest_from best n (i + 1) ps)
    (λ (x : ℕ). (f x ≤ n) × ((k : ℕ) → k < length (p ∷ ps) → f x ≤ node_at (p ∷ ps) k))
    (λ t.
    let r = least f i p.node (i + 1) ps here next in
    let x = lowest_from i p.node (i + 1) ps in
    (omega (arith, r.0, ltb-true p.node n t), each (f x) p ps r.0 r.1))
    (λ t.
    let r = least f best n (i + 1) ps h next in
    let x = lowest_from best n (i + 1) ps in
    (r.0, each (f x) p ps (omega (arith, r.0, ltb-false p.node n t)) r.1))
  where
    here : f i ≤ p.node
    here = let e : i + 0 ≡ i = omega arith in omega (arith, ap f e, g 0 (omega arith))

    next : (k : ℕ) → k < length ps → f ((i + 1) + k) ≡ node_at ps k
    next k l = let e : (i + 1) + k ≡ i + suc k = omega arith in ap f e ∙ g (suc k) (omega arith)

pub lowest_is_lowest : LowestIsLowest
lowest_is_lowest ps h g = (
  lowest_below (length ps) 0 7 0 ps (omega arith) (omega arith),
  (least (node_at ps) 0 7 0 ps (omega (arith, g 0 (omega arith)))
      (λ k l. let e : 0 + k ≡ k = omega arith in ap (node_at ps) e)).1,
)

pub lowest_decides : LowestDecides
lowest_decides need log s low h =
    let ps = logged log s in
    let l = length-take-le need ps h in
    let same : (i : ℕ) → i < need → node_at (take need ps) i ≡ node_at ps i =
    λ i k. ap (λ (p : Proposal). p.node) (get_or-take need ps i no_proposal k) in
    let r = lowest_is_lowest (take need ps) (omega arith)
    (λ i k. omega (arith, same i (omega arith), nodes_below log.stages s i (omega arith))) in
    let k = r.0 in (
      lowest (take need ps),
      omega (arith, k),
      (λ i j. omega (arith, same i j, same (lowest (take need ps)) (omega (arith, k)), r.1 i (omega arith))),
      rw (le-leb need (length ps) h),
    )
