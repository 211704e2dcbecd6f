-- The table of stages that a log holds.
use Rattle.std.proofs.Common.{◌≡◌, ℕ, ◌-◌, ◌<◌, ◌≤◌, Bool, true, ◌&&◌, eqb, List, [], ◌∷◌, length, get_or, set, take}
use Rattle.std.proofs.Common.{replicate, zero, suc, refl, ap, arith, length-take-le}
use Rattle.std.proofs.lemmas.Bool.{cond_both, and_parts, and_from, eqb-true, eq-eqb}
use Rattle.std.proofs.lemmas.Grind.{common_steps}
use Rattle.chooser.specs.Meaning.{served, no_proposal}
use Rattle.chooser.specs.Table.{arrived, no_stage, stage_at, in_table}
use Rattle.chooser.specs.declared.log.stage.Stage.{Stage}
use Rattle.chooser.specs.declared.proposal.Proposal.{Proposal}
use Rattle.chooser.proofs.Apart.{apart_below}

-- the nodes that proposed in any stage are 0 to 6
pub nodes_below : (ts : List Stage) (s i : ℕ) → i < length (in_table ts s) → (get_or (in_table ts s) i no_proposal).node < 7
nodes_below ts s i =
    cond_both (served s) (arrived (stage_at ts s)) []
    (λ (ps : List Proposal). i < length ps → (get_or ps i no_proposal).node < 7)
    (λ v. apart_below 7 (arrived (stage_at ts s)) (stage_at ts s).each_once i)
    (λ v h. absurd (omega arith))

-- no other stage changes
pub none_there : (ts : List Stage) (s : ℕ) (t : Stage) (j : ℕ) → 1 ≤ s → (j ≡ s → ⊥) →
    in_table (set ts (s - 1) t) j ≡ in_table ts j
none_there ts s t j a ne = grind (arith, common_steps)

-- a table without proposals

abbrev pub all_empty : List Stage → Bool
all_empty [] = true
all_empty (t ∷ ts) = eqb t.count 0 && all_empty ts

empty_at : (ts : List Stage) (i : ℕ) → all_empty ts ≡ true → arrived (get_or ts i no_stage) ≡ []
empty_at [] i e = refl
empty_at (t ∷ ts) zero e =
    ap (λ (n : ℕ). take n t.proposals) (eqb-true t.count 0 (and_parts (eqb t.count 0) (all_empty ts) e).0)
empty_at (t ∷ ts) (suc i) e = empty_at ts i (and_parts (eqb t.count 0) (all_empty ts) e).1

pub nothing_in : (ts : List Stage) → all_empty ts ≡ true → (s : ℕ) → in_table ts s ≡ []
nothing_in ts e s =
    cond_both (served s) (arrived (stage_at ts s)) [] (λ (ps : List Proposal). ps ≡ [])
    (λ _. empty_at ts (s - 1) e) (λ _. refl)

-- a stage without proposals, again and again

count_of_none : (t : Stage) → arrived t ≡ [] → t.count ≡ 0
count_of_none t e =
    let l = t.places in
    let w = t.within in
    omega (arith, length-take-le t.count t.proposals (omega arith), ap length e)

none_again : (k : ℕ) (t : Stage) → t.count ≡ 0 → all_empty (replicate k t) ≡ true
none_again zero t e = refl
none_again (suc k) t e = and_from (eqb t.count 0) (all_empty (replicate k t)) (eq-eqb t.count 0 e) (none_again k t e)

pub nothing_in_again : (t : Stage) → arrived t ≡ [] → (s : ℕ) → in_table (replicate 32 t) s ≡ []
nothing_in_again t e = nothing_in (replicate 32 t) (none_again 32 t (count_of_none t e))
