use Rattle.std.proofs.Common.{◌≡◌, [], inl, inr, arith}
use Rattle.record.specs.Kind.{Taking}
use Rattle.transcript.specs.Lines.{lines_of}
use Rattle.transcript.proofs.LineCuts.{lines_count}
use Rattle.transcript.proofs.Played.{text_over, told_over}
use Rattle.transcript.proofs.play.play_lines.Goals as goal

pub returns : goal.returns
returns g c =
    let T : Taking = g.R.Record.kind.taking in
    let text = c.args.lines.0.now in
    let lines = lines_of c.loop-number.number-iterator.b.0.now in
    let number = c.loop-number.number-iterator.a.start in
    let inv = c.loop-number.invariant in
    let none : lines ≡ [] = elim c.in-None.ensures.steps as (λ _. lines ≡ []) [
      | inl h ↦ absurd (omega (arith, h.1.0, lines_count text))
      | inr h ↦ h.1.0
    ] in
    record {
      text = text_over T lines _ number _ none inv.0;
      told = told_over T lines _ _ none inv.1;
    }
