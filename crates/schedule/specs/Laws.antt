-- The laws of the format: what is written reads back, and nothing else reads.
use Rattle.std.specs.Prelude.{◌≡◌, ℕ, ◌+◌, ◌<◌, ◌≤◌, true, List, [], ◌∷◌, ◌++◌, length, drop, Ok, slice_index}
use Rattle.schedule.specs.declared.draft.Draft.{Draft}
use Rattle.schedule.specs.declared.header.Header.{Header}
use Rattle.schedule.specs.Entries.{Act, entry_at}
use Rattle.schedule.specs.Kinds.{number_of_chooser, number_of_record}
use Rattle.schedule.specs.Drafts.{spelled, spelling, within, act_drafted, draft_of}

-- numbers below 256, as every slice of bytes holds
abbrev pub Bytes : List ℕ → Type 0
Bytes xs = (i : ℕ) → slice_index xs i < 256

-- the bytes of a draft read as what it says and exactly its length n, whatever stands before them and after
abbrev pub ReadsBack : Draft → ℕ → Type 0
ReadsBack d n = (before after : List ℕ) →
    entry_at (before ++ (spelling d ++ after)) (length before) ≡ Ok (act_drafted d, length before + n)

-- from p up to q stand the very bytes that are written for the act, and a body holds those of its command
abbrev pub OneSpelling : List ℕ → ℕ → Act → ℕ → Type 0
OneSpelling bytes p act q =
    (within (draft_of act) ≡ true)
    × (act_drafted (draft_of act) ≡ act)
    × (drop p bytes ≡ spelling (draft_of act) ++ drop q bytes)

-- the four numbers of a header
abbrev pub header_numbers : Header → List ℕ
header_numbers h = h.n ∷ h.q ∷ number_of_chooser h.chooser ∷ number_of_record h.«record» ∷ []

-- the bytes of a header
abbrev pub header_spelling : Header → List ℕ
header_spelling h = spelled (header_numbers h)

-- from p up to q stand the very bytes of the header
abbrev pub OneHeader : List ℕ → ℕ → Header → ℕ → Type 0
OneHeader bytes p h q = drop p bytes ≡ header_spelling h ++ drop q bytes

-- from one place up to another
abbrev pub Between : ℕ → ℕ → ℕ → Type 0
Between low high x = (low ≤ x) × (x ≤ high)
