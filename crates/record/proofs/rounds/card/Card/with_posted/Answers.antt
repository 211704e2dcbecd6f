use Rattle.std.proofs.Common.{◌≡◌, ◌<◌, ◌≤◌, ◌++◌, length, take, drop, arith}
use Rattle.std.proofs.lemmas.List.{length-append, length-drop, length-take-le}
use Rattle.record.specs.Card.{posted}
use Rattle.record.specs.Table.{kept}
use Rattle.record.proofs.CardChanged.{room_left, no_room, posted_in_play}
use Rattle.record.proofs.rounds.card.Card.with_posted.Goals as goal
use Rattle.record.proofs.rounds.card.Card.with_posted.Goals.{then-count-lt20, else-count-lt20}

after : (c : goal.Joined-count-lt20) → take c.if-count-lt20.count c.if-count-lt20.rounds ≡ posted c.args.round (kept c.args.self)
after c =
    let s = c.args.self in
    let xs = c.put_in_place-last.new.rounds in
    let ys = drop s.count s.rounds in
    let last = c.put_in_place-last.result in
    let le : s.count ≤ length s.rounds = omega arith in
    let n : length xs ≡ s.count = omega (arith, length-take-le s.count s.rounds le) in
    elim c.if-count-lt20.branch [
      | then-count-lt20 w ↦
          let fits : s.count < length (xs ++ ys) = simp (length-append, length-drop) (omega arith) in
          rw (w.count-is, w.rounds-is) (room_left s.count xs ys _ last n w.if-count-lt20.true fits c.put_in_place-last.ensures)
      | else-count-lt20 w ↦
          let full : s.count ≡ 20 = omega arith in
          rw (w.count-is, w.rounds-is) (no_room s.count xs ys _ last n full c.put_in_place-last.ensures)
    ]

pub invariant_of-result-clause-in_play : goal.invariant_of-result-clause-in_play
invariant_of-result-clause-in_play c =
    posted_in_play c.args.round (kept c.args.self) _ c.requires c.args.self.in_play (after c)

pub returns : goal.returns
returns c = after c.before
