use Rattle.std.proofs.Common.{◌≡◌, string_bytes}
use Rattle.ring.specs.World.{world}
use Rattle.report.specs.Lines.{nodes_text}
use Rattle.report.proofs.sheets.node_lines.Given as goal

abbrev pub invariant-loop-node : goal.invariant-loop-node
invariant-loop-node l = string_bytes l.text ≡ nodes_text (world l.ring l.tray l.book l.sheets) l.node
