-- Kitty: common money, told as its balance.
use Rattle.std.specs.Prelude.{ℕ, ◌+◌, ◌-◌, min, Bool, false, cond, not, ◌&&◌, ◌||◌, List, [], ◌∷◌, ℤ, pos, negsuc, ◌==◌}
use Rattle.std.specs.Prelude.{int_le, nat_le}
use Rattle.record.specs.Kind.{Taking, Kind}
use Rattle.record.specs.declared.command.Command.{Command}

-- verb 1 pays in, verb 2 draws
abbrev pub pays : Command → Bool
pays c = c.verb == 1

abbrev pub draws : Command → Bool
draws c = c.verb == 2

-- subject and day 0, the amount from 1 to 30,000
abbrev pub of_kitty : Command → Bool
of_kitty c = c.subject == 0 && (c.day == 0 && (int_le (pos 1) c.amount && int_le c.amount (pos 30000)))

-- no other verb is lawful
abbrev pub kitty_lawful : Command → Bool
kitty_lawful c = (pays c || draws c) && of_kitty c

-- an amount as the whole number that it is, 0 for a negative one
abbrev pub whole : ℤ → ℕ
whole (pos n) = n
whole (negsuc n) = 0

-- paying in stops at the largest balance; a draw needs its amount, or else leaves the balance
abbrev pub balance_after : ℕ → Command → ℕ
balance_after b c =
    cond (pays c) (min (b + whole c.amount) 4294967295) (cond (nat_le (whole c.amount) b) (b - whole c.amount) b)

-- the told list is the balance alone
abbrev pub kitty_after : List ℕ → Command → List ℕ
kitty_after [] c = []
kitty_after (b ∷ l) c = balance_after b c ∷ l

-- one balance of at most 4,294,967,295
abbrev pub kitty_tells : List ℕ → Bool
kitty_tells [] = false
kitty_tells (b ∷ []) = nat_le b 4294967295
kitty_tells (b ∷ (x ∷ l)) = false

abbrev pub kitty_taking : Taking
kitty_taking = record { size = 1; first = 0 ∷ []; tells = kitty_tells; lawful = kitty_lawful; after = kitty_after }

-- lawful commands conflict if either draws
abbrev pub kitty_conflicts : Command → Command → Bool
kitty_conflicts c d = not (kitty_lawful c && kitty_lawful d) || (draws c || draws d)

abbrev pub kitty_kind : Kind
kitty_kind = record { taking = kitty_taking; conflicts = kitty_conflicts }
