-- What posting a round comes to before a twenty-first is dropped, whatever way the round finds its place.
use Rattle.std.specs.Prelude.{◌≡◌, ℕ, ◌+◌, Bool, true, cond, ◌&&◌, List, [], ◌∷◌, ◌==◌, int_le}
use Rattle.record.specs.Card.{placed, in_order}
use Rattle.record.specs.declared.rounds.card.Round.{Round}

-- rounds of one day and amount
abbrev pub same_round : Round → Round → Bool
same_round x y = x.day == y.day && (int_le x.amount y.amount && int_le y.amount x.amount)

-- how often a round is among others
abbrev pub times : Round → List Round → ℕ
times z [] = 0
times z (x ∷ xs) = cond (same_round z x) 1 0 + times z xs

-- One round more: rounds in order stay in order, the new round is among them once more, and no other is lost or gained.
abbrev pub PostingAddsOne : Type 0
PostingAddsOne = (r : Round) (xs : List Round) → in_order xs ≡ true →
    (in_order (placed r xs) ≡ true) × ((z : Round) → times z (placed r xs) ≡ times z (r ∷ xs))
