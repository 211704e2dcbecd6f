use Rattle.std.proofs.Common.{sym, ◌∙◌}
use Rattle.std.proofs.lemmas.Nat.{one_shl}
use Rattle.rows.proofs.Masks.{those_none, those_in, those_out}
use Rattle.rows.proofs.mask.all_that.Goals as goal
use Rattle.rows.proofs.mask.all_that.Goals.{then-passes, else-passes}

pub loop-m-init : goal.loop-m-init
loop-m-init g c = λ p h. sym (those_none p)

pub loop-m-preserved : goal.loop-m-preserved
loop-m-preserved g c = λ p h.
    let told = h c.loop-m.m c.loop-m-test.true c.passes.result c.passes.ensures in
    let before = c.loop-m.invariant p h in
    elim c.if-passes.branch [
      | then-passes w ↦
          let e = those_in p c.loop-m.m (sym told ∙ w.if-passes.true) in
          let s = one_shl c.loop-m.m 64 c.loop-m-test.true in cc
      | else-passes w ↦
          let e = those_out p c.loop-m.m (sym told ∙ w.if-passes.false) in cc
    ]
