-- The lines of a listing.
use Rattle.std.specs.Prelude.{ℕ, zero, suc, cond, List, [], ◌∷◌, ◌++◌, length, Ok, Err, codes, Result, ◌==◌}
use Rattle.std.specs.List.{flat_map}
use Rattle.schedule.specs.declared.fault.EntryFault.{EntryFault}
use Rattle.schedule.specs.declared.report.Layer.{Layer}
use Rattle.schedule.specs.Entries.{Act, entry_at}
use Rattle.schedule.specs.Reports.{layers_of}
use Rattle.schedule.specs.Texts.{act_text, layer_name, fault_text}

-- the line of an entry
abbrev pub act_line : Act → List ℕ
act_line a = act_text a ++ codes "\n"

-- a further layer
abbrev pub further : Layer → List ℕ
further l = codes ", " ++ layer_name l

-- the names of layers, with commas between them
abbrev pub layers_text : List Layer → List ℕ
layers_text [] = []
layers_text (l ∷ ls) = layer_name l ++ flat_map further ls

-- the line of a fault
abbrev pub fault_line : EntryFault → List ℕ
fault_line f = fault_text f ++ (codes " in " ++ (layers_text (layers_of f) ++ codes "\n"))

-- the line of what was read, and, past an entry, what the rest makes of the place after it
abbrev pub with_rest : (ℕ → List ℕ) → Result (Act × ℕ) EntryFault → List ℕ
with_rest rest (Ok x) = act_line x.0 ++ rest x.1
with_rest rest (Err f) = fault_line f

-- the lines from p on, of at most so many entries
abbrev pub lines_from : ℕ → List ℕ → ℕ → List ℕ
lines_from zero bytes p = []
lines_from (suc k) bytes p =
    cond (p == length bytes) [] (with_rest (lines_from k bytes) (entry_at bytes p))

-- all lines; an entry takes at least a byte
abbrev pub listing_of : List ℕ → List ℕ
listing_of bytes = lines_from (length bytes) bytes 0
