use Rattle.std.proofs.Common.{sym, rules}
use Rattle.schedule.specs.Entries.{act_of}
use Rattle.schedule.proofs.ByteLists.{all_bytes}
use Rattle.schedule.proofs.Onward.{entry_on}
use Rattle.schedule.proofs.EntryOnce.{entry_once}
use Rattle.schedule.proofs.Places.{entry_err}
use Rattle.schedule.proofs.reader.Reader.entry.Goals as goal

-- an entry leads on
pub returns-clause-onward : goal.returns-clause-onward
returns-clause-onward c =
    let bytes = c.args.self.now.bytes.now in
    entry_on c.args.self.now.place bytes (act_of c.in_ok-entry.entry, c.entry_ahead.new.self.place)
    (sym c.in_ok-entry.ensures.value)

-- an entry has one spelling
pub returns-clause-once : goal.returns-clause-once
returns-clause-once c f =
    let bytes = c.args.self.now.bytes.now in
    entry_once bytes c.args.self.now.place (act_of c.in_ok-entry.entry, c.entry_ahead.new.self.place)
    (all_bytes bytes f) (sym c.in_ok-entry.ensures.value)

-- a fault is placed in the entry, or at its end
pub returns-in_err-entry-clause-placed : goal.returns-in_err-entry-clause-placed
returns-in_err-entry-clause-placed c = search (rules, entry_err)
