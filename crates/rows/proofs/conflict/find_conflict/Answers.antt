use Rattle.std.proofs.Common.{◌≡◌, true, arith, rules}
use Rattle.rows.specs.Conflicts.{clash}
use Rattle.rows.proofs.Clashes.{none_below, conflicted_true}
use Rattle.rows.proofs.conflict.find_conflict.Goals as goal

pub returns-after-loop-i : goal.returns-after-loop-i
returns-after-loop-i g c =
    none_below g.R.Record.kind.conflicts c.args.book.now c.args.set g.met.R.Record.laws.symmetric
    (λ a h b k. c.loop-i.invariant a (omega arith) b k)

pub returns-then-in_conflict : goal.returns-then-in_conflict
returns-then-in_conflict g c =
    let e : clash g.R.Record.kind.conflicts c.args.book.now c.args.set c.loop-i.i c.loop-j.j ≡ true =
    search rules in (
      conflicted_true g.R.Record.kind.conflicts c.args.book.now c.args.set c.loop-i.i c.loop-j.j
          (omega arith) (omega arith) e,
      e,
    )
