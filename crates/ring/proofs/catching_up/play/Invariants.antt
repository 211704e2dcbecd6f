use Rattle.std.proofs.Common.{◌≡◌, true, drop}
use Rattle.ring.specs.CatchUp.{all_playable, played}
use Rattle.ring.proofs.catching_up.play.Given as goal

-- what is left is playable, and comes to what the whole comes to
abbrev pub invariant-loop-entry : goal.invariant-loop-entry
invariant-loop-entry g l =
    (all_playable g.R.Record.kind l.book l.messages (drop l.entry-index l.entries) ≡ true)
    × (played g.R.Record.kind l.book (g.R.Record.told l.held) (drop l.entry-index l.entries)
    ≡ played g.R.Record.kind l.book (g.R.Record.told l.initial.held) l.entries)
