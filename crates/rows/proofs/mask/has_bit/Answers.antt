use Rattle.std.proofs.Common.{◌%◌, ◌^◌, ◌<◌, ◌≤◌, eqb, sym, ap, ◌∙◌, arith, lt_of_lt_of_le, pow_mono, rules}
use native.Mathlib.Nat.{div-eq_of_lt}
use Rattle.std.proofs.lemmas.Bool.{le-ltb}
use Rattle.rows.proofs.mask.has_bit.Goals as goal

pub returns-else-i-lt-MOST_MESSAGES : goal.returns-else-i-lt-MOST_MESSAGES
returns-else-i-lt-MOST_MESSAGES c =
    let k : 64 ≤ c.args.i = omega arith in
    let f : c.args.set < 2 ^ 64 = search rules in
    let e : c.args.set < 2 ^ c.args.i = lt_of_lt_of_le f (pow_mono k) in
    le-ltb c.args.i 64 k ∙ sym (ap (λ x. eqb (x % 2) 1) (div-eq_of_lt e))
