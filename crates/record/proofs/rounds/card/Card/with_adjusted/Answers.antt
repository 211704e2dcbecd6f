use Rattle.std.proofs.Common.{◌≡◌, ◌≤◌, length, drop, ap, ◌∙◌, arith}
use Rattle.std.proofs.lemmas.List.{length-take-le, take_at}
use Rattle.record.specs.Card.{is_card}
use Rattle.record.specs.CardLaws.{adjusted_card}
use Rattle.record.specs.Table.{kept}
use Rattle.record.proofs.rounds.card.Card.with_adjusted.Goals as goal

pub invariant_of-result-clause-in_play : goal.invariant_of-result-clause-in_play
invariant_of-result-clause-in_play c =
    let s = c.args.self in
    let xs = c.adjust_each.new.rounds in
    let le : s.count ≤ length s.rounds = omega arith in
    let n : length xs ≡ s.count = omega (arith, length-take-le s.count s.rounds le) in
    ap is_card (take_at xs (drop s.count s.rounds) s.count n ∙ c.adjust_each.ensures) ∙ adjusted_card _ (kept s) s.in_play
