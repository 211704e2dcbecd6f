-- A command as bytes: verb, subject, day, and the amount plus 32,768.
use Rattle.std.specs.Prelude.{ℕ, cond, List, length, pos, ◌-ℤ◌, Ok, Err, Result, ◌==◌}
use Rattle.record.specs.declared.command.Command.{Command}
use Rattle.schedule.specs.declared.fault.CommandFault.{CommandFault}
use Rattle.schedule.specs.declared.fault.CommandFault.TheVariants.{BadNumber, BytesLeft}
use Rattle.schedule.specs.Numbers.{number_at}
use Rattle.schedule.specs.Chains.{through}

-- the command of these four numbers
abbrev pub command_of : ℕ → ℕ → ℕ → ℕ → Command
command_of v s d a = record { verb = v; subject = s; day = d; amount = pos a -ℤ pos 32768 }

-- the command that takes up all the bytes from p on
abbrev pub command_at : List ℕ → ℕ → Result Command CommandFault
command_at bytes p =
    through BadNumber (number_at 255 bytes p) (λ v.
    through BadNumber (number_at 65535 bytes v.1) (λ s.
    through BadNumber (number_at 65535 bytes s.1) (λ d.
    through BadNumber (number_at 65535 bytes d.1) (λ a.
    cond (a.1 == length bytes) (Ok (command_of v.0 s.0 d.0 a.0)) (Err (BytesLeft a.1))))))
