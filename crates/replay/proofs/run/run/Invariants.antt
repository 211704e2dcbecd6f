use Rattle.std.proofs.Common.{◌≡◌, ◌+◌, ◌≤◌, None}
use Rattle.ring.specs.World.{world}
use Rattle.replay.specs.Runs.{Walk}
use Rattle.replay.proofs.run.run.Given as goal

-- how far the run has come
abbrev pub invariant-loop-read : goal.invariant-loop-read
invariant-loop-read g l =
    (l.read-iterator.reader.bytes ≡ l.reader.bytes) × (l.tally.accepted + l.tally.refused ≤ l.read-iterator.reader.place)
    × Walk g.R.Record.kind l.reader.bytes.now l.reader.place
    (world l.initial.ring l.initial.tray l.initial.book l.initial.sheets) (g.C.Chooser.meaning l.initial.chooser)
    l.read-iterator.reader.place (world l.ring l.tray l.book l.sheets) (g.C.Chooser.meaning l.chooser) l.tally.accepted
    l.tally.refused
    × (l.tally.fault ≡ None)
