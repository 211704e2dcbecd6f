use Rattle.std.proofs.Common.{string_bytes, rules}
use Rattle.report.specs.Reports.{Reported}
use Rattle.report.proofs.FirstBytes.{report_of_first}
use Rattle.report.proofs.input.report_from.Goals as goal

-- the report of the first bytes is that of the input
pub returns : goal.returns
returns g c =
    let bytes = c.in_ok-bytes.bytes.items in
    let told : Reported bytes (string_bytes c.in_ok-text.text) = search rules in
    report_of_first (g.R.Read.remaining c.args.input) bytes (string_bytes c.in_ok-text.text) c.in_ok-bytes.ensures told
