-- What is spelled reads back as a whole: entries up to the end of the bytes, a header, and a day.
use Rattle.std.specs.Prelude.{◌≡◌, ℕ, ◌+◌, ◌<◌, ◌≤◌, true, List, [], ◌∷◌, ◌++◌, length, map, All, Some, None, Ok, Option, Result}
use Rattle.std.specs.List.{flat_map}
use Rattle.schedule.specs.declared.draft.Draft.{Draft}
use Rattle.schedule.specs.declared.entry.Entry.{Entry}
use Rattle.schedule.specs.declared.fault.EntryFault.{EntryFault}
use Rattle.schedule.specs.declared.header.Header.{Header}
use Rattle.schedule.specs.declared.reader.Reader.{Reader}
use Rattle.schedule.specs.Entries.{Act, act_of, entry_at}
use Rattle.schedule.specs.Headers.{header_at}
use Rattle.schedule.specs.Drafts.{spelling, within, act_drafted, InRange}
use Rattle.schedule.specs.Laws.{header_spelling}
use Rattle.schedule.specs.Readings.{NextEntry}

-- a draft that is written: its numbers are within their limits
abbrev pub IsWritable : Draft → Type 0
IsWritable d = (within d ≡ true) × InRange d

-- the bytes of drafts, one after the other
abbrev pub schedule_of : List Draft → List ℕ
schedule_of = flat_map spelling

-- from p on the bytes read as these entries, one after the other, and then they end
abbrev pub ReadAs : List ℕ → ℕ → List Act → Type 0
ReadAs bytes p [] = p ≡ length bytes
ReadAs bytes p (a ∷ acts) = (q : ℕ) × (p < length bytes) × (entry_at bytes p ≡ Ok (a, q)) × ReadAs bytes q acts

-- what comes next is an entry, and says this
abbrev pub Says : Option (Result Entry EntryFault) → Act → Type 0
Says next a = (e : Entry) × (next ≡ Some (Ok e)) × (act_of e ≡ a)

-- the entries ahead of a reader say this, one after the other, and then there is none
abbrev pub Ahead : Reader → List Act → Type 0
Ahead r [] = (next : Option (Result Entry EntryFault)) (new : Reader) → NextEntry r next new → next ≡ None
Ahead r (a ∷ acts) =
    (next : Option (Result Entry EntryFault)) (new : Reader) → NextEntry r next new → Says next a × Ahead new acts

-- ---- the laws

-- the bytes of drafts read as those entries and then end, whatever stands before them
abbrev pub EntriesReadBack : Type 0
EntriesReadBack = (before : List ℕ) (ds : List Draft) → All IsWritable ds →
    ReadAs (before ++ schedule_of ds) (length before) (map act_drafted ds)

-- what the bytes read as from a reader's place on is what it has ahead
abbrev pub ReadIsAhead : Type 0
ReadIsAhead = (r : Reader) (acts : List Act) → ReadAs r.bytes.now r.place acts → Ahead r acts

-- the bytes of a header read as that header and exactly their length, whatever stands before them and after
abbrev pub HeaderReadsBack : Type 0
HeaderReadsBack = (h : Header) (before after : List ℕ) → h.n ≤ 65535 → h.q ≤ 65535 →
    header_at (before ++ (header_spelling h ++ after)) (length before)
    ≡ Ok (h, length before + length (header_spelling h))

-- the bytes of a header and of drafts after it are a whole day: that header, those entries, and the end
abbrev pub DayReadsBack : Type 0
DayReadsBack = (h : Header) (ds : List Draft) → h.n ≤ 65535 → h.q ≤ 65535 → All IsWritable ds →
    (header_at (header_spelling h ++ schedule_of ds) 0 ≡ Ok (h, length (header_spelling h)))
    × ReadAs (header_spelling h ++ schedule_of ds) (length (header_spelling h)) (map act_drafted ds)
