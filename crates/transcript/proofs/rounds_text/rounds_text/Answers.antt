use Rattle.std.proofs.Common.{◌≡◌, ◌+◌, ◌-◌, ◌*◌, ◌≤◌, ◌++◌, min, length, take, drop, string_bytes, inl, inr}
use Rattle.std.proofs.Common.{sym, ap, ◌∙◌, arith, rules, length-drop}
use Rattle.std.proofs.lemmas.List.{drop-drop}
use Rattle.std.specs.Slice.Iter.{chunks_rest}
use Rattle.transcript.proofs.RoundsText.{players_none, players_more}
use Rattle.transcript.proofs.Parts.{front_part, player_within, players_rest}
use Rattle.transcript.specs.Telling.{player_text, players_until}
use Rattle.transcript.proofs.rounds_text.rounds_text.Goals as goal

pub loop-number-init : goal.loop-number-init
loop-number-init c = search (rules, players_none)

pub loop-number-preserved : goal.loop-number-preserved
loop-number-preserved c =
    let list = c.args.list.now in
    let k = c.loop-number.number-iterator.a.start in
    let left = chunks_rest c.loop-number.number-iterator.b in
    let inv = c.loop-number.invariant in
    let number = c.in-Some.ensures.steps.0 in
    let chunk = c.in-Some.ensures.steps.1 in
    let part = front_part left c.in-Some.told.now _ chunk.1.0 (chunk.1.1 ∙ ap (λ n. min n (length left)) inv.2) in
    let told : c.in-Some.told.now ≡ take 41 (drop (41 * k) list) = part.0 ∙ ap (take 41) inv.1 in
    let pushed : string_bytes c.write.new.self ≡
    string_bytes c.loop-number.text ++ player_text c.in-Some.told.now c.in-Some.number = search rules in
    let next : 41 * k + 41 ≡ 41 * c.next.new.self.a.start = omega (arith, number.1.2) in (
      rw (number.1.2, players_more) (cc (player_within (drop (41 * k) list) k, number.1.1, inv.0)),
      part.1 ∙ ap (drop 41) inv.1 ∙ drop-drop 41 (41 * k) list ∙ ap (λ n. drop n list) next,
      chunk.0 ∙ inv.2,
      omega (arith, number.1.0, number.1.2),
      number.0 ∙ inv.4,
    )

pub returns : goal.returns
returns c =
    let list = c.args.list.now in
    let k = c.loop-number.number-iterator.a.start in
    let inv = c.loop-number.invariant in
    let whole : string_bytes c.loop-number.text ≡ players_until list 8 =
    elim c.in-None.ensures.steps as (λ _. string_bytes c.loop-number.text ≡ players_until list 8) [
      | inl h ↦ inv.0 ∙ ap (players_until list) (omega (arith, h.1.1.0))
      | inr h ↦
          let past : length list ≤ 41 * k = omega (arith, h.1.1.0, ap length inv.1, length-drop (41 * k) list) in
          inv.0 ∙ sym (players_rest list k (8 - k) past) ∙ ap (players_until list) (omega arith)
    ] in
    search (rules, whole)
