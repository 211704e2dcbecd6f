use Rattle.std.proofs.Common.{sym, ◌∙◌}
use Rattle.std.proofs.lemmas.List.{set-get_or}
use Rattle.std.proofs.lemmas.Nat.{one_shl}
use Rattle.rows.proofs.Receiving.{heard_none, heard_in, heard_out}
use Rattle.rows.proofs.taking.hear.Goals as goal
use Rattle.rows.proofs.taking.hear.Goals.{then-has_bit, else-has_bit}

pub loop-m-init : goal.loop-m-init
loop-m-init c = sym (heard_none c.args.heard.now c.args.sender c.args.set)

pub loop-m-preserved : goal.loop-m-preserved
loop-m-preserved c =
    elim c.if-has_bit.branch [
      | then-has_bit w ↦
          let e = heard_in c.args.heard.now c.args.sender c.args.set c.loop-m.m
          (sym c.has_bit.ensures ∙ w.if-has_bit.true) in
          let s = one_shl c.args.sender 8 c.requires in cc
      | else-has_bit w ↦
          let e = heard_out c.args.heard.now c.args.sender c.args.set c.loop-m.m
          (sym c.has_bit.ensures ∙ w.if-has_bit.false) in
          w.heard-is ∙ set-get_or c.loop-m.heard c.loop-m.m 0 ∙ c.loop-m.invariant ∙ sym e
    ]
