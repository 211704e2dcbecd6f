use Rattle.std.proofs.Common.{sym, rules}
use Rattle.schedule.proofs.ByteLists.{all_bytes}
use Rattle.schedule.proofs.HeaderOnce.{header_once}
use Rattle.schedule.proofs.Places.{header_err}
use Rattle.schedule.proofs.reader.Reader.header.Goals as goal

-- a fault is placed in the header, or at its end
pub returns-in_err-header-clause-placed : goal.returns-in_err-header-clause-placed
returns-in_err-header-clause-placed c = search (rules, header_err)

-- a header has one spelling
pub returns-clause-once : goal.returns-clause-once
returns-clause-once c f =
    let bytes = c.args.self.now.bytes.now in
    header_once bytes c.args.self.now.place (c.in_ok-header.header, c.header_ahead.new.self.place)
    (all_bytes bytes f) (sym c.in_ok-header.ensures.value)
