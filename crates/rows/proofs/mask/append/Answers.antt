use Rattle.std.proofs.Common.{rules, ℕ, ◌-◌, ◌∙◌, filter, length, refl, ap}
use Rattle.std.specs.List.{zip, range_with_len}
use borrow.Author.Tests.{tests}
use Rattle.std.proofs.lemmas.Iterator.{YieldsList-from_range, YieldsList-from_zip}
use Rattle.std.proofs.lemmas.Iterator.Consumers.{YieldsList-from_filter}
use Rattle.rows.specs.Masks.{has, put}
use Rattle.rows.proofs.Writing.{one_turn, no_turn, inside_zip, writes_zip, members_chain}
use Rattle.rows.proofs.mask.append.Given as given
use Rattle.rows.proofs.mask.append.Goals as goal

pub loop-at-init : goal.loop-at-init
loop-at-init c =
    let xs = c.args.sheets.now in
    let free : ℕ = length xs - c.args.place in
    let it = c.into_iter-at-iterator.ensures.into_iter_gives in
    let places = ap (λ z. z.a) it ∙ c.zip-at-items.ensures.first in
    let numbers = ap (λ z. z.b) it ∙ c.zip-at-items.ensures.second in (
      search rules,
      search rules,
      (
        zip (range_with_len c.args.place free) (filter (has c.args.set) (range_with_len 0 64)),
        (YieldsList-from_zip (YieldsList-from_range c.args.place (length xs) free places refl)
            (YieldsList-from_filter _ (has c.args.set)
            (YieldsList-from_range 0 64 64 (ap (λ b. b.iter) numbers ∙ c.filter-members.ensures.source) refl)
            (ap (λ b. b.p) numbers ∙ c.filter-members.ensures.closure) (λ x b q k. search (rules, tests)))).runs,
        inside_zip (length xs) c.args.place free _ refl,
        writes_zip xs c.args.place free _ refl ∙ ap (put xs c.args.place) (members_chain c.args.set 64),
      ),
    )

pub bounds-sheets-at : goal.bounds-sheets-at
bounds-sheets-at c =
    let told = c.loop-at.invariant.2 in
    let turn = one_turn given.iterator-loop-at.next_gives c.loop-at.at-iterator c.next.new.self _ _ _ _ told in
    rw c.loop-at.auto.sheets (turn c.in-Some.ensures.steps).0

pub loop-at-preserved : goal.loop-at-preserved
loop-at-preserved c =
    let told = c.loop-at.invariant.2 in
    let turn = one_turn given.iterator-loop-at.next_gives c.loop-at.at-iterator c.next.new.self _ _ _ _ told in
    (search rules, search rules, (turn c.in-Some.ensures.steps).1)

pub returns : goal.returns
returns c =
    let told = c.loop-at.invariant.2 in
    no_turn given.iterator-loop-at.next_gives c.loop-at.at-iterator c.next.new.self _ _ _ told c.in-None.ensures.steps
