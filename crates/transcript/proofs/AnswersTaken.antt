-- A command is answered by what the record says to it.
use Rattle.std.proofs.Common.{◌≡◌, ℕ, Bool, true, false, cond, List, Some, Ok, Err, Result, refl}
use Rattle.record.specs.Kind.{Taking, Taken}
use Rattle.record.specs.declared.command.Command.{Command}
use Rattle.record.specs.declared.command.Unlawful.{Unlawful}
use Rattle.transcript.specs.Playing.{AnswersAsTaken}

pub answers_as_taken : AnswersAsTaken
answers_as_taken T list c = by_law (T.lawful c) refl
  where
    by_law : (v : Bool) → T.lawful c ≡ v → (r : Result (Unit {0}) Unlawful) × (Some (cond v (Ok tt) (Err record {})) ≡ Some r)
        × Taken T c r list (cond v (T.after list c) list)
    by_law true e = (Ok tt, refl, (e, refl))
    by_law false e = (Err record {}, refl, (e, refl, refl))
