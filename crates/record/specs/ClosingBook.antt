-- Closing book: a record that takes no commands while it is closed.
use Rattle.std.specs.Prelude.{ℕ, suc, Bool, false, cond, ◌&&◌, ◌||◌, List, [], ◌∷◌, ℤ, pos, negsuc, ◌==◌, nat_le}
use Rattle.record.specs.Kind.{Taking, Kind}
use Rattle.record.specs.declared.command.Command.{Command}

-- verb 254 opens the book, verb 255 closes it
abbrev pub opens : Command → Bool
opens c = c.verb == 254

abbrev pub closes : Command → Bool
closes c = c.verb == 255

-- these two are the book's own, whatever the record below makes of them
abbrev pub turns : Command → Bool
turns c = opens c || closes c

abbrev pub no_amount : ℤ → Bool
no_amount (pos n) = n == 0
no_amount (negsuc n) = false

-- a turn is lawful with subject, day and amount 0; the record below judges all else
abbrev pub closing_lawful : Kind → Command → Bool
closing_lawful K c =
    cond (turns c) (c.subject == 0 && (c.day == 0 && no_amount c.amount)) (K.taking.lawful c)

-- a turn conflicts with every command
abbrev pub closing_conflicts : Kind → Command → Command → Bool
closing_conflicts K c d = turns c || (turns d || K.conflicts c d)

-- the list is led by 0 for open and 1 for closed; a closed book leaves the list below
abbrev pub closing_after : Kind → List ℕ → Command → List ℕ
closing_after K [] c = []
closing_after K (s ∷ l) c =
    cond (turns c) (cond (closes c) 1 0 ∷ l) (cond (s == 0) (s ∷ K.taking.after l c) (s ∷ l))

-- 0 or 1, then a list that the record below can tell
abbrev pub closing_tells : Kind → List ℕ → Bool
closing_tells K [] = false
closing_tells K (s ∷ l) = nat_le s 1 && K.taking.tells l

abbrev pub closing_taking : Kind → Taking
closing_taking K = record {
  size = suc K.taking.size;
  first = 0 ∷ K.taking.first;
  tells = closing_tells K;
  lawful = closing_lawful K;
  after = closing_after K;
}

abbrev pub closing_kind : Kind → Kind
closing_kind K = record { taking = closing_taking K; conflicts = closing_conflicts K }
