use Rattle.std.proofs.Common.{◌≡◌, ◌+◌, ◌++◌, length, take, drop, sym, ap, ◌∙◌, arith, rules}
use Rattle.std.proofs.lemmas.List.{take_all}
use Rattle.schedule.specs.Drafts.{spelled, numbers_of, spelling}
use Rattle.schedule.proofs.EntryBack.{reads_back}
use Rattle.schedule_write.proofs.Growing.{length_more, room, one_more}
use Rattle.schedule_write.proofs.write.write.Goals as goal

-- the next number has room
pub put-at-requires : goal.put-at-requires
put-at-requires c =
    let l = c.loop-value in
    room c.as_slice-list.result.now l.buffer l.value-index l.at (omega arith) l.invariant.0 (omega arith)

-- one number more
pub loop-value-preserved : goal.loop-value-preserved
loop-value-preserved c =
    let ns = c.as_slice-list.result.now in
    let was = c.args.buffer.now in
    let l = c.loop-value in
    let i = l.value-index in
    let put = c.put-at in (
      omega (arith, put.ensures.size, length_more ns i (omega arith)),
      one_more ns was l.buffer put.new.front i l.at (omega arith) l.invariant.0 l.invariant.1 put.ensures.wrote
          ∙ ap (λ n. spelled (take (i + 1) ns) ++ drop (l.at + n) was) (sym put.ensures.size),
    )

-- what is written reads back
pub returns-clause-back : goal.returns-clause-back
returns-clause-back c =
    let d = c.args.draft in
    let ns = c.as_slice-list.result.now in
    let l = c.loop-value in
    let told = c.in_ok-numbers.ensures in
    let are : ns ≡ numbers_of d = search rules in
    let done : spelled (take l.value-index ns) ≡ spelling d =
    ap spelled (take_all l.value-index ns (omega arith) ∙ are) in
    reads_back d l.at told.value.0 told.range (l.invariant.0 ∙ ap length done)
