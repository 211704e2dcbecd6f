-- How the causes of a call are put in order, and what follows from them.
use Rattle.std.specs.Prelude.{Bool, true, false, Some, None, Ok, Err, Option, Result}
use Rattle.rows.specs.declared.refusal.Refusal.{Refusal}

-- the refusal e where the test passes, and otherwise what comes after
abbrev pub refuse : Bool → Refusal → Option Refusal → Option Refusal
refuse true e rest = Some e
refuse false e rest = rest

-- the first of two causes
abbrev pub first : Option Refusal → Option Refusal → Option Refusal
first None next = next
first (Some e) next = Some e

-- the answer of a call that has something to tell
abbrev pub answer : {X : Type 0} → Option Refusal → X → Result X Refusal
answer None x = Ok x
answer (Some e) x = Err e

-- the answer of a call that has nothing to tell
abbrev pub outcome : Option Refusal → Result (Unit {0}) Refusal
outcome o = answer o tt

-- what is left: the changed where nothing refuses, and otherwise the same as before
abbrev pub unless : {X : Type 0} → Option Refusal → X → X → X
unless None changed same = changed
unless (Some e) changed same = same
