use Rattle.std.proofs.Common.{◌≡◌, length, sym, ◌∙◌, rules}
use Rattle.std.specs.List.{sum_by}
use Rattle.std.proofs.lemmas.List.Concat.{length-flat_map}
use Rattle.std.proofs.iter.runs.Sources.{sums}
use Rattle.schedule.specs.Numbers.{spell}
use Rattle.schedule_write.proofs.numbers.size_of.Goals as goal

-- the lengths of their bytes
pub returns : goal.returns
returns c =
    let total : c.sum.result ≡ sum_by (λ v. length (spell v)) c.args.numbers.now = search (rules, sums) in
    total ∙ sym (length-flat_map spell c.args.numbers.now)
