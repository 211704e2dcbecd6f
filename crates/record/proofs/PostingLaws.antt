-- Posting adds exactly one round.
use Rattle.std.proofs.Common.{◌≡◌, ℕ, ◌+◌, true, false, cond, List, [], ◌∷◌, refl, ap, ◌∙◌, ⊎_elim, arith}
use Rattle.std.proofs.lemmas.Bool.{cases_Bool}
use Rattle.record.specs.Card.{ahead, placed}
use Rattle.record.specs.Posting.{same_round, times, PostingAddsOne}
use Rattle.record.specs.declared.rounds.card.Round.{Round}
use Rattle.record.specs.CardLaws.{order_placed}

-- how often a round is there does not depend on where the new one went
times_placed : (z r : Round) (xs : List Round) → times z (placed r xs) ≡ times z (r ∷ xs)
times_placed z r [] = refl
times_placed z r (x ∷ xs) =
    let new : ℕ = cond (same_round z r) 1 0 in
    let old : ℕ = cond (same_round z x) 1 0 in
    let behind = times_placed z r xs in
    let swapped : old + (new + times z xs) ≡ new + (old + times z xs) = omega arith in
    ⊎_elim
    (λ (h : ahead r x ≡ true). simp h)
    (λ (h : ahead r x ≡ false). simp h (ap (λ (n : ℕ). old + n) behind ∙ swapped))
    (cases_Bool (ahead r x))

pub posting_adds_one : PostingAddsOne
posting_adds_one r xs e = (order_placed r xs e, λ z. times_placed z r xs)
