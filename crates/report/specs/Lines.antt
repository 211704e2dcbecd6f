-- The lines that a day prints.
use Rattle.std.specs.Prelude.{ℕ, zero, suc, Bool, cond, not, List, [], ◌++◌, Some, None, codes, decimal, Option}
use Rattle.std.specs.List.{flat_map}
use Rattle.rows.specs.Refusals as refusals
use Rattle.rows.specs.declared.refusal.Refusal.{Refusal}
use Rattle.ring.specs.World.{World, row_of, has_crashed}
use Rattle.ring.specs.Show.{sheet_of}
use Rattle.schedule.specs.Texts as texts
use Rattle.schedule.specs.declared.fault.EntryFault.{EntryFault}

-- for an input of more than 4,096 bytes
abbrev pub long_text : List ℕ
long_text = codes "long\n"

-- for a ring size or a start that was refused
abbrev pub start_text : Refusal → List ℕ
start_text e = codes "start " ++ (decimal (refusals.number_of e) ++ codes "\n")

-- for a fault of the input
abbrev pub fault_text : EntryFault → List ℕ
fault_text f = texts.fault_text f ++ codes "\n"

-- how many entries were accepted, and how many refused
abbrev pub counts_text : ℕ → ℕ → List ℕ
counts_text accepted refused = codes "accepted " ++ (decimal accepted ++ (codes " refused " ++ (decimal refused ++ codes "\n")))

-- a message of a sheet
abbrev pub message_text : ℕ → List ℕ
message_text m = codes " " ++ decimal m

-- whether a node lives
abbrev pub state_text : Bool → List ℕ
state_text live = cond live (codes "live") (codes "crashed")

-- a node, its stage and whether it lives
abbrev pub head_text : ℕ → ℕ → Bool → List ℕ
head_text node stage live =
    codes "node " ++ (decimal node ++ (codes " stage " ++ (decimal stage ++ (codes " " ++ state_text live))))

-- that, and then the messages on its sheet
abbrev pub report_text : ℕ → ℕ → Bool → List ℕ → List ℕ
report_text node stage live sheet = head_text node stage live ++ flat_map message_text sheet

-- the line of a node
abbrev pub node_text : World → ℕ → List ℕ
node_text w node =
    report_text node (row_of w node).stage (not (has_crashed w.ring node)) (sheet_of w node) ++ codes "\n"

-- the lines of the nodes below n
unfoldable pub nodes_text : World → ℕ → List ℕ
nodes_text w zero = []
nodes_text w (suc n) = nodes_text w n ++ node_text w n

-- the text with the line of the fault that ended the run, if one did
abbrev pub ended : List ℕ → Option EntryFault → List ℕ
ended text None = text
ended text (Some f) = text ++ fault_text f
