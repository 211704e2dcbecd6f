use Rattle.std.proofs.Common.{◌≡◌}
use Rattle.rows.specs.Letters.{sent}
use Rattle.rows.proofs.sending.post.Given as goal

abbrev pub invariant-loop-i : goal.invariant-loop-i
invariant-loop-i l = l.tray ≡ sent l.initial.tray l.used l.letter l.i
