-- The kinds of entries, choosers and records, and the numbers that they go by.
use Rattle.std.specs.Prelude.{ℕ, cond, List, Ok, Err, Result, ◌==◌}
use Rattle.record.specs.RecordKind.{no_kind}
use Rattle.record.specs.declared.record_kind.NoSuchKind.{NoSuchKind}
use Rattle.record.specs.declared.record_kind.RecordKind.{RecordKind}
use Rattle.record.specs.declared.record_kind.RecordKind.TheVariants.{Kitty, Rounds, Both}
use Rattle.schedule.specs.declared.kind.EntryKind.{EntryKind}
use Rattle.schedule.specs.declared.kind.EntryKind.TheVariants.{Broadcast, Receive, Step, Crash, Lose}
use Rattle.schedule.specs.declared.header.ChooserKind.{ChooserKind}
use Rattle.schedule.specs.declared.header.ChooserKind.TheVariants.{FirstCome, LowestOf}
use Rattle.schedule.specs.declared.fault.EntryFault.{EntryFault}
use Rattle.schedule.specs.declared.fault.EntryFault.TheVariants.{InNumber, UnknownKind}
use Rattle.schedule.specs.Numbers.{number_at}
use Rattle.schedule.specs.Chains.{through}

-- the kind of entry that goes by a number
abbrev pub entry_kind : ℕ → Result EntryKind NoSuchKind
entry_kind n =
    cond (n == 1) (Ok Broadcast)
    (cond (n == 2) (Ok Receive)
    (cond (n == 3) (Ok Step)
    (cond (n == 4) (Ok Crash)
    (cond (n == 5) (Ok Lose) (Err (no_kind n))))))

-- the number that a kind of entry goes by
abbrev pub number_of_kind : EntryKind → ℕ
number_of_kind Broadcast = 1
number_of_kind Receive = 2
number_of_kind Step = 3
number_of_kind Crash = 4
number_of_kind Lose = 5

-- the kind of chooser that goes by a number
abbrev pub chooser_kind : ℕ → Result ChooserKind NoSuchKind
chooser_kind n =
    cond (n == 1) (Ok FirstCome)
    (cond (n == 2) (Ok LowestOf) (Err (no_kind n)))

-- the number that a kind of chooser goes by
abbrev pub number_of_chooser : ChooserKind → ℕ
number_of_chooser FirstCome = 1
number_of_chooser LowestOf = 2

-- the number that a kind of record goes by
abbrev pub number_of_record : RecordKind → ℕ
number_of_record Kitty = 1
number_of_record Rounds = 2
number_of_record Both = 3

-- a kind, if there is one, whose number stands at p, with the place q after it
abbrev pub known : {K : Type 0} → ℕ → ℕ → Result K NoSuchKind → Result (K × ℕ) EntryFault
known p q (Ok k) = Ok (k, q)
known p q (Err e) = Err (UnknownKind p)

-- the kind whose number stands at p, with the place after it
abbrev pub kind_at : {K : Type 0} → (ℕ → Result K NoSuchKind) → List ℕ → ℕ → Result (K × ℕ) EntryFault
kind_at tried bytes p = through InNumber (number_at 255 bytes p) (λ n. known p n.1 (tried n.0))
