-- A number goes in groups of seven bits, the lowest first; a set top bit says that another group follows.
use Rattle.std.specs.Prelude.{◌≡◌, ℕ, zero, suc, ◌+◌, ◌-◌, ◌*◌, ◌/◌, ◌%◌, ◌<◌, Bool, cond, not, ◌&&◌, List, [], ◌∷◌, drop, Some}
use Rattle.std.specs.Prelude.{None, Ok, Err, Option, Result, ◌==◌, nat_le, nat_lt, slice_index}
use Rattle.schedule.specs.declared.fault.NumberFault.{NumberFault}
use Rattle.schedule.specs.declared.fault.NumberFault.TheVariants.{CutShort, Unfit}

-- the bytes of v, with at most so many groups after the first
abbrev pub groups : ℕ → ℕ → List ℕ
groups zero v = v ∷ []
groups (suc more) v = cond (nat_lt v 128) (v ∷ []) ((128 + v % 128) ∷ groups more (v / 128))

-- the bytes of a number of the format; as each is below 2 ^ 16, three groups hold it
abbrev pub spell : ℕ → List ℕ
spell v = groups 2 v

-- a group put below a number of some value and length
abbrev pub below : ℕ → Option (ℕ × ℕ) → Option (ℕ × ℕ)
below g None = None
below g (Some t) = Some (g + 128 * t.0, suc t.1)

-- the value and the length of the number at the front, however long it is; none where no byte ends it
abbrev pub front : List ℕ → Option (ℕ × ℕ)
front [] = None
front (b ∷ bs) = cond (nat_lt b 128) (Some (b, 1)) (below (b % 128) (front bs))

-- the number at the front, if any, has more than three groups
abbrev pub Longer : List ℕ → Type 0
Longer bs = (t : ℕ × ℕ) → front bs ≡ Some t → 3 < t.1

-- the number of n bytes at the front is longer than need be: its last group is 0, and is not its only one
abbrev pub overlong : List ℕ → ℕ → Bool
overlong bs n = nat_lt 1 n && slice_index bs (n - 1) == 0

-- the number of this value and length at the front is within its limit, and no longer than need be
abbrev pub fit : ℕ → List ℕ → ℕ × ℕ → Bool
fit limit bs t = nat_le t.0 limit && not (overlong bs t.1)

-- what the number at the front of the bytes from p on is read as, with the place after it
abbrev pub judged : ℕ → ℕ → List ℕ → Option (ℕ × ℕ) → Result (ℕ × ℕ) NumberFault
judged limit p bs None = Err (CutShort p)
judged limit p bs (Some t) = cond (fit limit bs t) (Ok (t.0, p + t.1)) (Err (Unfit p))

-- the number at p, with the place after it
unfoldable pub number_at : ℕ → List ℕ → ℕ → Result (ℕ × ℕ) NumberFault
number_at limit bytes p = judged limit p (drop p bytes) (front (drop p bytes))

-- what a call answered, with the place at which it left the reader
abbrev pub left_at : {T E : Type 0} → Result T E → ℕ → Result (T × ℕ) E
left_at (Ok v) q = Ok (v, q)
left_at (Err e) q = Err e
