-- What may happen to a player's rounds.
use Rattle.std.specs.Prelude.{Bool, true, List}
use Rattle.record.specs.Card.{posted, adjusted, in_range}
use Rattle.record.specs.declared.rounds.card.Round.{Round}
use Rattle.record.specs.declared.rounds.order.Change.{Change}
use Rattle.record.specs.declared.rounds.order.Change.TheVariants.{Post, Adjust}

-- a posted round counts no more than a kept one may
abbrev pub fits : Change → Bool
fits (Post r) = in_range r
fits (Adjust d) = true

abbrev pub changed_by : Change → List Round → List Round
changed_by (Post r) xs = posted r xs
changed_by (Adjust d) xs = adjusted d xs
