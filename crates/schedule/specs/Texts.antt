-- The texts of entries and faults.
use Rattle.std.specs.Prelude.{ℕ, List, ◌++◌, codes, decimal}
use Rattle.std.specs.Fmt.{signed_decimal}
use Rattle.record.specs.declared.command.Command as record-command
use Rattle.schedule.specs.declared.fault.EntryFault.{EntryFault}
use Rattle.schedule.specs.declared.report.Layer.{Layer}
use Rattle.schedule.specs.declared.report.Layer.TheVariants.{Number, Command, Entry}
use Rattle.schedule.specs.Entries.{Act, broadcast, receive, step, crash, lose}
use Rattle.schedule.specs.Reports.{number_of, place_of}

-- a broadcast
abbrev pub broadcast_text : ℕ → record-command.Command → List ℕ
broadcast_text node c =
    codes "broadcast by node " ++ (decimal node ++ (codes ": verb " ++ (decimal c.verb
    ++ (codes " subject " ++ (decimal c.subject ++ (codes " day " ++ (decimal c.day
    ++ (codes " amount " ++ signed_decimal c.amount))))))))

-- what an entry says
abbrev pub act_text : Act → List ℕ
act_text (broadcast node c body) = broadcast_text node c
act_text (receive place) = codes "receive place " ++ decimal place
act_text (step node) = codes "step node " ++ decimal node
act_text (crash node) = codes "crash node " ++ decimal node
act_text (lose place) = codes "lose place " ++ decimal place

-- the name of a layer
abbrev pub layer_name : Layer → List ℕ
layer_name Number = codes "number"
layer_name Command = codes "command"
layer_name Entry = codes "entry"

-- a fault, and where
abbrev pub fault_text : EntryFault → List ℕ
fault_text f = codes "fault " ++ (decimal (number_of f) ++ (codes " at " ++ decimal (place_of f)))
