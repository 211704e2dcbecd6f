use Rattle.std.proofs.Common.{take}
use Rattle.std.specs.Fmt.{HasWritten, IsPlainFormatter}
use Rattle.report.specs.Lines.{report_text}
use Rattle.report.proofs.sheets.NodeReportDisplay.fmt.Given as goal

-- the node is written, and the messages that were passed
abbrev pub invariant-loop-message : goal.invariant-loop-message
invariant-loop-message g l =
    IsPlainFormatter l.fn.f → HasWritten g.W.Write.write_str_gives l.fn.f
    (report_text l.node l.stage l.live (take l.message-index l.sheet)) l.f
