-- What a letter makes of a node that takes it, and of its tables.
use Rattle.std.specs.Prelude.{◌≡◌, ℕ, Bool, cond, not, ◌||◌, List, None, Ok, Err, Option, Result, Some, ◌&&◌, ◌==◌, ◌<◌}
use Rattle.std.specs.Prelude.{length, nat_lt, slice_index}
use Rattle.rows.specs.Causes.{refuse, first, outcome, unless}
use Rattle.rows.specs.Letters.{data_letter, travelling, spoilt, letter_of, sent}
use Rattle.rows.specs.Masks.{has, any}
use Rattle.rows.specs.Receipts.{relays, taken_row, taken_sheets}
use Rattle.rows.specs.declared.letter.Letter.{Letter}
use Rattle.rows.specs.declared.refusal.Refusal.{Refusal}
use Rattle.rows.specs.declared.refusal.Refusal.TheVariants.{NotTravelling, SpoiltLetter, LaterStage}
use Rattle.node.specs.Tables.{Lent, lent, table_refusal}
use Rattle.node.specs.Members.{with_row}
use Rattle.node.specs.declared.member.Member.{Member}

-- what the table of broadcasters has for a message that nobody has broadcast
abbrev pub nobody : ℕ
nobody = 255

-- a message of the set that nobody has broadcast
abbrev pub unheard_of : List ℕ → ℕ → Bool
unheard_of broadcasters x = any (λ i. has x i && slice_index broadcasters i == nobody) 64

-- A letter that the call for letters of a kind does not take: no sending makes it (a ring has room for 64 messages), or
-- it has a message that nobody has broadcast, or it is for another node or of another kind.
abbrev pub unfit : ℕ → List ℕ → Member → Letter → Bool
unfit kind broadcasters m l =
    (spoilt m.size.n 64 l || unheard_of broadcasters l.set)
    || (not (l.receiver == m.number) || not (l.kind == kind))

-- 4, 14, 15, 16
abbrev pub take_refusal : ℕ → Lent → Member → Letter → Option Refusal
take_refusal kind t m l =
    first (table_refusal m.size.n t)
    (refuse (not (l.mark == travelling)) NotTravelling
    (refuse (unfit kind t.broadcasters m l) SpoiltLetter
    (refuse (nat_lt m.row.stage l.stage) LaterStage None)))

-- the letters after a relaying, where the letter has to be relayed: by a node that did not broadcast it and to which it is new
abbrev pub relayed : Lent → Member → Letter → List Letter
relayed t m l =
    cond (relays t.broadcasters m.row l) (sent t.letters 0 (letter_of l.receiver data_letter 0 l.set) m.size.n) t.letters

-- the node once it has taken the letter, by the rules of a ring's row
abbrev pub taken : Member → Letter → Member
taken m l = with_row (taken_row m.size.n m.size.q l m.row) m

-- its tables then
abbrev pub taken_lent : Lent → Member → Letter → Lent
taken_lent t m l = lent t.book t.broadcasters (relayed t m l) (taken_sheets m.size.n m.size.q l m.row 0 t.sheet)

-- Taking a letter by the call for a kind: its answer, and the tables and the node after it.
abbrev pub Takes : ℕ → Lent → Member → Letter → Result (Unit {0}) Refusal → Lent → Member → Type 0
Takes kind t m l r u k =
    (r ≡ outcome (take_refusal kind t m l))
    × (u ≡ unless (take_refusal kind t m l) (taken_lent t m l) t)
    × (k ≡ unless (take_refusal kind t m l) (taken m l) m)

-- a letter that may be taken, with what follows from that; or the cause
abbrev pub Passes : ℕ → Lent → Member → Letter → Result (Unit {0}) Refusal → Type 0
Passes kind t m l (Ok u) = (take_refusal kind t m l ≡ None) × (l.receiver < 7) × (length t.letters ≡ m.size.n)
Passes kind t m l (Err e) = take_refusal kind t m l ≡ Some e
