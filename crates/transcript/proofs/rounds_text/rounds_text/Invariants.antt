use Rattle.std.proofs.Common.{◌≡◌, ◌*◌, ◌≤◌, drop, string_bytes}
use Rattle.std.specs.Slice.Iter.{chunks_rest, chunks_size}
use Rattle.transcript.specs.Telling.{players_until}
use Rattle.transcript.proofs.rounds_text.rounds_text.Given as goal

-- the players so far, and the numbers of those that are left
abbrev pub invariant-loop-number : goal.invariant-loop-number
invariant-loop-number l =
    (string_bytes l.text ≡ players_until l.list l.number-iterator.a.start)
    × (chunks_rest l.number-iterator.b ≡ drop (41 * l.number-iterator.a.start) l.list)
    × (chunks_size l.number-iterator.b ≡ 41)
    × (l.number-iterator.a.start ≤ 8) × (l.number-iterator.a.end ≡ 8)
