use Rattle.std.proofs.Common.{◌≡◌, [], rules}
use Rattle.report.proofs.FirstBytes.{read_first}
use Rattle.report.proofs.input.first_bytes.Goals as goal

-- what is read is cut at a byte more than a day may have
pub returns : goal.returns
returns g c =
    let none : c.new-bytes.result.items ≡ [] = search rules in
    read_first g.R.Read.remaining c.take.result c.args.input 4097 c.new-bytes.result.items c.read_to_end.new.buf.items
    c.take.ensures.limit c.take.ensures.inner none c.in_ok-read_to_end.ensures.bytes
