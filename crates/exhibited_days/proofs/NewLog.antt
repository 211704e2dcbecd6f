-- Where First-come begins: a log without proposals.
use Rattle.std.proofs.Common.{replicate, arith}
use Rattle.chooser.specs.FirstCome.{first_come}
use Rattle.chooser.specs.Meaning.{Sound}
use Rattle.chooser.specs.Rules.{ruled_sound}
use Rattle.chooser.specs.Table.{no_stage}
use Rattle.chooser.specs.declared.log.Log.{Log}

-- the log
abbrev pub new_log : Log
new_log = record { stages = replicate 32 no_stage }

-- First-come is sound, whatever was proposed
pub first_come_sound : (g : Log) → Sound (first_come g)
first_come_sound g = ruled_sound 1 (λ s ps. 0) (omega arith) (omega arith) (λ s ps h. omega arith) g
