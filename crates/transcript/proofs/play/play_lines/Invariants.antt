use Rattle.std.proofs.Common.{◌≡◌, ◌+◌, ◌≤◌, ◌++◌, length, string_bytes}
use Rattle.transcript.specs.Lines.{lines_of}
use Rattle.transcript.specs.Playing.{answers_text, list_after}
use Rattle.transcript.proofs.play.play_lines.Given as goal

-- the lines that are left complete the text and the list; each line so far took one number
abbrev pub invariant-loop-number : goal.invariant-loop-number
invariant-loop-number g l =
    (string_bytes l.out
    ++ answers_text g.R.Record.kind.taking l.number-iterator.a.start (lines_of l.number-iterator.b.0.now)
    ≡ string_bytes l.initial.out ++ answers_text g.R.Record.kind.taking 2 (lines_of l.lines.0.now))
    × (list_after g.R.Record.kind.taking (g.R.Record.told l.account) (lines_of l.number-iterator.b.0.now)
    ≡ list_after g.R.Record.kind.taking (g.R.Record.told l.initial.account) (lines_of l.lines.0.now))
    × (l.number-iterator.a.start + length (lines_of l.number-iterator.b.0.now) ≤ 2 + length (lines_of l.lines.0.now))
