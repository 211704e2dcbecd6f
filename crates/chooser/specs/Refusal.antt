-- The numbers of a chooser's refusals.
use Rattle.std.specs.Prelude.{ℕ}
use Rattle.chooser.specs.declared.refusal.Refusal.{Refusal}
use Rattle.chooser.specs.declared.refusal.Refusal.TheVariants.{NoSuchStage, NoSuchNode, ProposedBefore}
use Rattle.chooser.specs.declared.refusal.Refusal.TheVariants.{NeedOutOfRange}

abbrev pub number_of : Refusal → ℕ
number_of NoSuchStage = 31
number_of NoSuchNode = 32
number_of ProposedBefore = 33
number_of NeedOutOfRange = 34
