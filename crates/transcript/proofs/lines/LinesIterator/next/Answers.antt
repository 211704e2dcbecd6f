use Rattle.std.proofs.Common.{◌≡◌, ◌+◌, ◌-◌, ◌<◌, ◌∷◌, length, take, drop, rules}
use Rattle.std.proofs.lemmas.List.{take_rest}
use Rattle.transcript.proofs.Fewer.{fewer_left}
use Rattle.transcript.proofs.LineCuts.{first_line, last_line}
use Rattle.transcript.specs.Lines.{lines_of}
use Rattle.transcript.proofs.lines.LinesIterator.next.Goals as goal

pub returns-in-Some : goal.returns-in-Some
returns-in-Some c =
    let text = c.args.self.now.0.now in
    let n = c.in-Some.size in
    let some : 0 < length text = search rules in
    let steps : lines_of text ≡ take n text ∷ lines_of (take (length text - (n + 1)) (drop (n + 1) text)) =
    rw take_rest (first_line text n some c.in-Some.ensures) in
    record { steps = steps; goes = fewer_left (λ x. x.now) (λ s. lines_of s.0.now) steps tt }

pub returns-in-None : goal.returns-in-None
returns-in-None c =
    let some : 0 < length c.args.self.now.0.now = search rules in
    let steps = last_line c.args.self.now.0.now some c.in-None.ensures in
    record { steps = steps; goes = fewer_left (λ x. x.now) (λ s. lines_of s.0.now) steps tt }
