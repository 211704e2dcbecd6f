use Rattle.std.proofs.Common.{ℕ, ◌-◌, length, take, drop, sym, refl, ap, ◌∙◌, arith}
use Rattle.schedule.specs.Numbers.{judged}
use Rattle.schedule.proofs.Fronts.{some_front}
use Rattle.schedule.proofs.Judged.{number_rest, judged_cut, judged_fit, judged_longer, judged_unfit}
use Rattle.schedule.proofs.reader.Reader.number.Goals as goal

-- the number ends after more than three groups
pub returns-then-has_end-clause-value : goal.returns-then-has_end-clause-value
returns-then-has_end-clause-value c =
    let xs = c.args.self.now.bytes.now in
    let p = c.args.self.now.place in
    let rest = take (length xs - p) (drop p xs) in
    record {
      value = sym (number_rest c.args.limit xs p ∙ judged_longer c.args.limit p rest (omega arith)
          (some_front rest ∙ sym c.if-has_end.ensures) c.in_default.ensures.value);
      bytes = refl;
    }

-- the number does not end
pub returns-else-has_end-clause-value : goal.returns-else-has_end-clause-value
returns-else-has_end-clause-value c =
    let xs = c.args.self.now.bytes.now in
    let p = c.args.self.now.place in
    let rest = take (length xs - p) (drop p xs) in
    record {
      value = sym (number_rest c.args.limit xs p ∙ judged_cut c.args.limit p rest _
          (some_front rest ∙ sym c.if-has_end.ensures));
      bytes = refl;
    }

-- the number is above its limit, or longer than need be
pub returns-then-not-is_fit-clause-value : goal.returns-then-not-is_fit-clause-value
returns-then-not-is_fit-clause-value c =
    let xs = c.args.self.now.bytes.now in
    let p = c.args.self.now.place in
    let rest = take (length xs - p) (drop p xs) in
    let t : ℕ × ℕ = (c.in-Some.value, c.in-Some.size) in
    record {
      value = sym (number_rest c.args.limit xs p ∙ ap (judged c.args.limit p rest) c.in-Some.ensures.value
          ∙ judged_unfit c.args.limit p rest t (sym c.if-not-is_fit.ensures));
      bytes = refl;
    }

-- the number is read
pub returns-clause-value : goal.returns-clause-value
returns-clause-value c =
    let xs = c.args.self.now.bytes.now in
    let p = c.args.self.now.place in
    let rest = take (length xs - p) (drop p xs) in
    let t : ℕ × ℕ = (c.in-Some.value, c.in-Some.size) in
    record {
      value = sym (number_rest c.args.limit xs p ∙ ap (judged c.args.limit p rest) c.in-Some.ensures.value
          ∙ judged_fit c.args.limit p rest t (sym c.if-not-is_fit.ensures));
      bytes = refl;
    }
