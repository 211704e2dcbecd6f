-- Pair: two records side by side, told one after the other.
use Rattle.std.specs.Prelude.{ℕ, ◌+◌, ◌/◌, ◌%◌, Bool, false, cond, not, ◌&&◌, ◌||◌, List, ◌++◌, take, drop, ◌==◌}
use Rattle.record.specs.Kind.{Taking, Kind}
use Rattle.record.specs.declared.command.Command.{Command}

-- an even subject is for the left, an odd one for the right
abbrev pub is_left : Command → Bool
is_left c = c.subject % 2 == 0

-- the command as its side sees it: the subject is halved and rounded down
abbrev pub at_side : Command → Command
at_side c = record { verb = c.verb; subject = c.subject / 2; day = c.day; amount = c.amount }

-- each side judges its own commands
abbrev pub pair_lawful : Kind → Kind → Command → Bool
pair_lawful L R c = cond (is_left c) (L.taking.lawful (at_side c)) (R.taking.lawful (at_side c))

-- two commands for one side conflict if they do there; for two sides they never do
abbrev pub sides_conflict : Kind → Kind → Command → Command → Bool
sides_conflict L R c d =
    cond (is_left c)
    (cond (is_left d) (L.conflicts (at_side c) (at_side d)) false)
    (cond (is_left d) false (R.conflicts (at_side c) (at_side d)))

-- the two parts of a told list
abbrev pub left_part : Kind → List ℕ → List ℕ
left_part L l = take L.taking.size l

abbrev pub right_part : Kind → List ℕ → List ℕ
right_part L l = drop L.taking.size l

-- the side of the command takes it, and the other part stays
abbrev pub pair_after : Kind → Kind → List ℕ → Command → List ℕ
pair_after L R l c =
    cond (is_left c)
    (L.taking.after (left_part L l) (at_side c) ++ right_part L l)
    (left_part L l ++ R.taking.after (right_part L l) (at_side c))

-- each part is one that its side can tell
abbrev pub pair_tells : Kind → Kind → List ℕ → Bool
pair_tells L R l = L.taking.tells (left_part L l) && R.taking.tells (right_part L l)

abbrev pub pair_taking : Kind → Kind → Taking
pair_taking L R = record {
  size = L.taking.size + R.taking.size;
  first = L.taking.first ++ R.taking.first;
  tells = pair_tells L R;
  lawful = pair_lawful L R;
  after = pair_after L R;
}

-- an unlawful command conflicts with all; lawful ones conflict by their sides
abbrev pub pair_conflicts : Kind → Kind → Command → Command → Bool
pair_conflicts L R c d = not (pair_lawful L R c && pair_lawful L R d) || sides_conflict L R c d

abbrev pub pair_kind : Kind → Kind → Kind
pair_kind L R = record { taking = pair_taking L R; conflicts = pair_conflicts L R }
