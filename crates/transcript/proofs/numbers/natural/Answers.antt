use Rattle.std.proofs.Common.{◌≡◌, ◌<◌, length, ◌∙◌, rules}
use Rattle.transcript.specs.Numbers.{digits_value}
use Rattle.transcript.proofs.Digits.{natural_bound, natural_digits, digits_ran}
use Rattle.transcript.proofs.numbers.natural.Goals as goal

pub returns : goal.returns
returns c =
    let word = c.args.word.now in
    let limit = c.args.limit in
    let some : 0 < length word = search rules in
    let read : c.try_fold.result ≡ digits_value limit 0 c.iter.result.rest.now =
    digits_ran _ _ _ limit (λ n x v h called. search rules) c.try_fold.ensures.ran in
    let value = read ∙ rw c.iter.ensures.rest (natural_digits limit word some) in
    record { value = value; bound = rw value (natural_bound limit word) }
