-- The number of the refusal that a record gives.
use Rattle.std.specs.Prelude.{ℕ}
use Rattle.record.specs.declared.command.Unlawful.{Unlawful}

abbrev pub number_of : Unlawful → ℕ
number_of u = 10
