-- What is told of a node: its sheet, its stage, and whether it lives.
use Rattle.std.specs.Prelude.{◌≡◌, ℕ, ◌*◌, Bool, not, List, take, drop, Some, None, Ok, Err, Option, Result, count_ones}
use Rattle.rows.specs.Causes.{first, answer}
use Rattle.rows.specs.Rows.{on_sheet}
use Rattle.rows.specs.declared.refusal.Refusal.{Refusal}
use Rattle.ring.specs.World.{World, node_of, row_of, has_crashed, table_refusal, node_refusal}
use Rattle.ring.specs.declared.ring.Ring.{Ring}

-- the numbers of the messages that a node delivered, in order: the used part of its 64 bytes
abbrev pub sheet_of : World → ℕ → List ℕ
sheet_of w node = take (count_ones (on_sheet (row_of w node))) (drop (64 * node) w.sheets)

-- 4, 7, 8
abbrev pub show_refusal : World → ℕ → Option Refusal
show_refusal w node = first (table_refusal w) (node_refusal w.ring node)

-- what showing a sheet answers; f tells the list behind the answer
abbrev pub Shows : {P : Type 0} → (P → List ℕ) → World → ℕ → Result P Refusal → Type 0
Shows f w node (Ok s) = (show_refusal w node ≡ None) × (f s ≡ sheet_of w node)
Shows f w node (Err e) = show_refusal w node ≡ Some e

-- the stage of a node; 7, 8
abbrev pub stage_answer : Ring → ℕ → Result ℕ Refusal
stage_answer r node = answer (node_refusal r node) (node_of r node).row.stage

-- whether a node lives; 7, 8
abbrev pub live_answer : Ring → ℕ → Result Bool Refusal
live_answer r node = answer (node_refusal r node) (not (has_crashed r node))
