-- The header of a day.
use Rattle.std.specs.Prelude.{ℕ, List, Ok, Result}
use Rattle.record.specs.RecordKind.{record_kind}
use Rattle.record.specs.declared.record_kind.RecordKind.{RecordKind}
use Rattle.schedule.specs.declared.header.ChooserKind.{ChooserKind}
use Rattle.schedule.specs.declared.header.Header.{Header}
use Rattle.schedule.specs.declared.fault.EntryFault.{EntryFault}
use Rattle.schedule.specs.declared.fault.EntryFault.TheVariants.{InNumber}
use Rattle.schedule.specs.Numbers.{number_at}
use Rattle.schedule.specs.Kinds.{kind_at, chooser_kind}
use Rattle.schedule.specs.Chains.{through, and_then}

-- the kind of chooser at p, with the place after it
abbrev pub chooser_at : List ℕ → ℕ → Result (ChooserKind × ℕ) EntryFault
chooser_at = kind_at chooser_kind

-- the kind of record at p, with the place after it
abbrev pub record_at : List ℕ → ℕ → Result (RecordKind × ℕ) EntryFault
record_at = kind_at record_kind

-- the header of these parts
abbrev pub header_of : ℕ → ℕ → ChooserKind → RecordKind → Header
header_of n q c r = record { n = n; q = q; chooser = c; «record» = r }

-- the header at p, with the place after it
abbrev pub header_at : List ℕ → ℕ → Result (Header × ℕ) EntryFault
header_at bytes p =
    through InNumber (number_at 65535 bytes p) (λ n.
    through InNumber (number_at 65535 bytes n.1) (λ q.
    and_then (chooser_at bytes q.1) (λ c.
    and_then (record_at bytes c.1) (λ r. Ok (header_of n.0 q.0 c.0 r.0, r.1)))))
