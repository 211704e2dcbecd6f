-- What the program `day` prints for its input.
use Rattle.std.specs.Prelude.{◌≡◌, ℕ, ◌<◌, ◌≤◌, Bool, true, false, List, ◌++◌, length, replicate, Some, None, Ok, Err, Option, Result}
use Rattle.std.specs.Prelude.{nat_lt, slice_index_or}
use Rattle.record.specs.Kind.{Kind}
use Rattle.record.specs.RecordKind.{kind_of}
use Rattle.chooser.specs.LowestOf.{node_at}
use Rattle.chooser.specs.Meaning.{Meaning, sets_of, no_proposal}
use Rattle.chooser.specs.Ruled.{Fresh}
use Rattle.rows.specs.Conflicts.{no_command}
use Rattle.rows.specs.Letters.{no_letter}
use Rattle.rows.specs.Size.{size_refusal}
use Rattle.rows.specs.declared.refusal.Refusal.{Refusal}
use Rattle.rows.specs.declared.size.RingSize.{RingSize}
use Rattle.ring.specs.World.{World, world}
use Rattle.ring.specs.Start.{idle_ring}
use Rattle.schedule.specs.Headers.{header_at}
use Rattle.schedule.specs.declared.fault.EntryFault.{EntryFault}
use Rattle.schedule.specs.declared.header.ChooserKind.{ChooserKind}
use Rattle.schedule.specs.declared.header.ChooserKind.TheVariants.{FirstCome, LowestOf}
use Rattle.schedule.specs.declared.header.Header.{Header}
use Rattle.replay.specs.WholeDay.{Days}
use Rattle.replay.specs.declared.tally.Tally.{Tally}
use Rattle.report.specs.Lines.{long_text, start_text, fault_text, nodes_text, counts_text, ended}

-- ---- a day that is run

-- a new ring with empty tables: a tray of 1,024 places
abbrev pub outset : World
outset = world idle_ring (replicate 1024 no_letter) (replicate 64 no_command) (replicate 448 0)

-- the text, by how the day went and the world that it left
abbrev pub day_text : Result Tally Refusal → RingSize → World → List ℕ
day_text (Ok t) z w = ended (nodes_text w z.n ++ counts_text t.accepted t.refused) t.fault
day_text (Err e) z w = start_text e

-- the text s is that of a day of this kind and size, of the bytes from p on, with a chooser that means M before it and N
-- after it
pub record Printed (K : Kind) (z : RingSize) (bytes : List ℕ) (p : ℕ) (M N : Meaning) (s : List ℕ) : Type 0 where
  pub answer : Result Tally Refusal
  pub left : World
  pub ran : Days K z bytes p outset M answer left N
  pub told : s ≡ day_text answer z left

-- ---- by the header

-- the need of the chooser that it names
abbrev pub need_of : ChooserKind → ℕ → ℕ
need_of FirstCome q = 1
need_of LowestOf q = q

-- the decisions of a chooser of this kind: First-come has one proposal to decide by, and Lowest-of takes of the first so
-- many one whose node none of their nodes is below
abbrev pub Chosen : ChooserKind → Meaning → Type 0
Chosen FirstCome M = Unit {0}
Chosen LowestOf M =
    (s : ℕ) → M.need ≤ length (M.proposals s) →
    (k : ℕ) × (k < M.need) × ((i : ℕ) → i < M.need → node_at (M.proposals s) k ≤ node_at (M.proposals s) i)
    × (M.decision s ≡ Some (sets_of (slice_index_or (M.proposals s) k no_proposal)))

-- a size that is refused prints its number; otherwise a day is run, of that size, with a new chooser, whose decisions stay
-- and at the end are those of its kind
abbrev pub BySize : Option Refusal → Header → List ℕ → ℕ → List ℕ → Type 0
BySize (Some e) h bytes p s = s ≡ start_text e
BySize None h bytes p s =
    (z : RingSize) × (M : Meaning) × (N : Meaning) × (z.n ≡ h.n) × (z.q ≡ h.q) × Fresh (need_of h.chooser h.q) M
    × Chosen h.chooser N × Printed (kind_of h.«record») z bytes p M N s

-- a header at fault prints the fault alone
abbrev pub ByHeader : Result (Header × ℕ) EntryFault → List ℕ → List ℕ → Type 0
ByHeader (Err f) bytes s = s ≡ fault_text f
ByHeader (Ok x) bytes s = BySize (size_refusal x.0.n x.0.q) x.0 bytes x.1 s

-- an input of more than 4,096 bytes is not run
abbrev pub ByLength : Bool → List ℕ → List ℕ → Type 0
ByLength true bytes s = s ≡ long_text
ByLength false bytes s = ByHeader (header_at bytes 0) bytes s

-- the text s for the input
abbrev pub Reported : List ℕ → List ℕ → Type 0
Reported bytes s = ByLength (nat_lt 4096 (length bytes)) bytes s
