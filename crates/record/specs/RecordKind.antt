-- The kinds of record that go by a number.
use Rattle.std.specs.Prelude.{ℕ, cond, Ok, Err, Result, ◌==◌}
use Rattle.record.specs.ClosingBook.{closing_kind}
use Rattle.record.specs.Kind.{Kind}
use Rattle.record.specs.Kitty.{kitty_kind}
use Rattle.record.specs.Pair.{pair_kind}
use Rattle.record.specs.Rounds.{rounds_kind}
use Rattle.record.specs.declared.record_kind.NoSuchKind.{NoSuchKind}
use Rattle.record.specs.declared.record_kind.RecordKind.{RecordKind}
use Rattle.record.specs.declared.record_kind.RecordKind.TheVariants.{Kitty, Rounds, Both}

-- no kind goes by this number
abbrev pub no_kind : ℕ → NoSuchKind
no_kind n = record { 0 = n }

-- the kind of record that goes by a number
abbrev pub record_kind : ℕ → Result RecordKind NoSuchKind
record_kind n =
    cond (n == 1) (Ok Kitty)
    (cond (n == 2) (Ok Rounds)
    (cond (n == 3) (Ok Both) (Err (no_kind n))))

-- what a kind of record means
abbrev pub kind_of : RecordKind → Kind
kind_of Kitty = kitty_kind
kind_of Rounds = rounds_kind
kind_of Both = pair_kind kitty_kind (closing_kind rounds_kind)
