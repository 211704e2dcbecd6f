-- A chooser that decides by a rule within the first need proposals keeps the meaning of choosers.
use Rattle.std.specs.Prelude.{◌≡◌, ℕ, ◌+◌, ◌<◌, ◌≤◌, cond, List, [], ◌∷◌, length, take, drop, nat_lt, slice_index_or}
use Rattle.std.proofs.Common.{arith}
use Rattle.std.proofs.lemmas.List.{at_drop_more, at_drop_all, length-take-le}
use Rattle.std.proofs.lemmas.Bool.{le-leb, lt-leb, cond_both}
use Rattle.chooser.specs.Log.{logged}
use Rattle.chooser.specs.LowestOf.{lowest, lowest_from}
use Rattle.chooser.specs.Meaning.{Sound, no_proposal}
use Rattle.chooser.specs.Ruled.{ruled}
use Rattle.chooser.specs.declared.log.Log.{Log}
use Rattle.chooser.specs.declared.proposal.Proposal.{Proposal}

-- a need, and a rule that stays within the first so many proposals
module _ (need : ℕ) (rule : ℕ → List Proposal → ℕ) (low : 1 ≤ need) (high : need ≤ 7)
    (within : (s : ℕ) (ps : List Proposal) → need ≤ length ps → rule s (take need ps) < need) where
  pub ruled_sound : (log : Log) → Sound (ruled need rule (logged log))
  ruled_sound log = record {
    need_low = low;
    need_high = high;
    unserved = λ s e. simp e;
    waits = λ s h. rw (lt-leb need (length (logged log s)) h);
    stands = λ s h. (rule s (take need (logged log s)), within s (logged log s) h, rw (le-leb need (length (logged log s)) h));
  }

-- the place of the lowest node

pub lowest_below : (m best n i : ℕ) (ps : List Proposal) → best < m → i + length ps ≤ m → lowest_from best n i ps < m
lowest_below m best n i [] h k = h
lowest_below m best n i (p ∷ ps) h k =
    cond_both (nat_lt p.node n) (lowest_from i p.node (i + 1) ps) (lowest_from best n (i + 1) ps) (λ x. x < m)
    (λ _. lowest_below m i p.node (i + 1) ps (omega arith) (omega arith))
    (λ _. lowest_below m best n (i + 1) ps h (omega arith))

pub lowest_within : (need : ℕ) → 1 ≤ need → (s : ℕ) (ps : List Proposal) → need ≤ length ps → lowest (take need ps) < need
lowest_within need low s ps h =
    let e = length-take-le need ps h in
    lowest_below need 0 7 0 (take need ps) (omega arith) (omega arith)

pub lowest_next : (best n i : ℕ) (ps : List Proposal) → i < length ps →
    lowest_from best n i (drop i ps) ≡ cond (nat_lt (slice_index_or ps i no_proposal).node n)
    (lowest_from i (slice_index_or ps i no_proposal).node (i + 1) (drop (i + 1) ps))
    (lowest_from best n (i + 1) (drop (i + 1) ps))
lowest_next best n i ps h = at_drop_more (lowest_from best n i) ps i no_proposal h

pub lowest_end : (best n i : ℕ) (ps : List Proposal) → length ps ≤ i → lowest_from best n i (drop i ps) ≡ best
lowest_end best n i ps h = at_drop_all (lowest_from best n i) ps i h
