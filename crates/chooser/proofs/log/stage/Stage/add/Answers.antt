use Rattle.std.proofs.Common.{arith}
use Rattle.chooser.proofs.Stages.{room_in, still_apart}
use Rattle.chooser.proofs.log.stage.Stage.add.Goals as goal

pub bounds-self-self : goal.bounds-self-self
bounds-self-self c = room_in c.args.self.now c.args.proposal c.if-has.ensures c.if-proposal-gt-HIGHEST_NODE.false

pub invariant_of-self-clause-within : goal.invariant_of-self-clause-within
invariant_of-self-clause-within c = let h = bounds-self-self c in omega arith

pub invariant_of-self-clause-each_once : goal.invariant_of-self-clause-each_once
invariant_of-self-clause-each_once c =
    still_apart c.args.self.now c.args.proposal c.if-has.ensures c.if-proposal-gt-HIGHEST_NODE.false
