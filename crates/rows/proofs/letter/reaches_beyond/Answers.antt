use Rattle.std.proofs.Common.{◌^◌, ◌<◌, ◌≤◌, sym, ◌∙◌, lt_of_lt_of_le, arith, pow_mono, rules}
use Rattle.std.proofs.lemmas.Bool.{le-ltb, lt-leb}
use Rattle.rows.proofs.Masks.{beyond_is}
use Rattle.rows.proofs.letter.reaches_beyond.Goals as goal

pub returns-then-messages-lt64 : goal.returns-then-messages-lt64
returns-then-messages-lt64 c = beyond_is c.args.set c.args.messages

pub returns-else-messages-lt64 : goal.returns-else-messages-lt64
returns-else-messages-lt64 c =
    let k : 64 ≤ c.args.messages = omega arith in
    let f : c.args.set < 2 ^ 64 = search rules in
    le-ltb c.args.messages 64 k ∙ sym (lt-leb (2 ^ c.args.messages) c.args.set (lt_of_lt_of_le f (pow_mono k)))
