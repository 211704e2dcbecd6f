-- What a node by itself is given to do, with what it answers, and what that makes of it.
use Rattle.std.specs.Prelude.{◌≡◌, ℕ, Bool, true, false, not, ◌&&◌, List, [], ◌∷◌, Ok, Err, Result, ◌==◌, slice_set, replicate}
use Rattle.std.specs.List.{filter}
use Rattle.record.specs.Kind.{Kind}
use Rattle.record.specs.declared.command.Command.{Command}
use Rattle.chooser.specs.Meaning.{Meaning}
use Rattle.rows.specs.Letters.{acknowledgement, no_letter, travelling}
use Rattle.rows.specs.Receipts.{is_gathering}
use Rattle.rows.specs.declared.letter.Letter.{Letter}
use Rattle.rows.specs.declared.refusal.Refusal.{Refusal}
use Rattle.rows.specs.declared.row.Phase.{Phase}
use Rattle.rows.specs.declared.row.Phase.TheVariants.{Gathering, Closing, Waiting, Ahead}
use Rattle.ring.specs.declared.step.Step.{Step}
use Rattle.ring.specs.declared.step.Step.TheVariants.{Acknowledged, Closed, Proposed, Settled}
use Rattle.node.specs.Tables.{Lent, lent}
use Rattle.node.specs.Takes.{Takes}
use Rattle.node.specs.Gathers.{Acknowledges, Closes}
use Rattle.node.specs.Decides.{Proposes, Settles}
use Rattle.node.specs.declared.member.Member.{Member}

-- Word of message m, which a node broadcast; a letter, the answer to it, and the letters that it made the node send; or
-- a turn: the chooser's meaning before it, what the node did, the chooser's meaning after it, and the letters sent.
pub data Event : Type 0 where
  told : ℕ → ℕ → Command → Event
  took : Letter → Result (Unit {0}) Refusal → List Letter → Event
  turned : Meaning → Result Step Refusal → Meaning → List Letter → Event

-- ---- letters: a host lends blank ones to each call, and sends those that travel after it

-- the tables as they are lent to a call
abbrev pub ready : ℕ → Lent → Lent
ready n t = lent t.book t.broadcasters (replicate n no_letter) t.sheet

-- what is sent after it
abbrev pub outgoing : Lent → List Letter
outgoing u = filter (λ l. l.mark == travelling) u.letters

-- ---- word of a message: the host writes it into the tables

abbrev pub written : ℕ → ℕ → Command → Lent → Lent
written m node c t = lent (slice_set t.book m c) (slice_set t.broadcasters m node) t.letters t.sheet

-- ---- a letter: the call for its kind

-- a closing node has no call for an acknowledgement; its host holds it back if it is of a later stage, and else throws it away
abbrev pub has_no_call : Member → Letter → Bool
has_no_call m l = not (is_gathering m.row.phase) && l.kind == acknowledgement

abbrev pub HandedOver : Bool → Lent → Member → Letter → Result (Unit {0}) Refusal → Lent → Member → Type 0
HandedOver true t m l r u k = (u ≡ t) × (k ≡ m)
HandedOver false t m l r u k = Takes l.kind t m l r u k

-- ---- a turn: the call that its phase has for it

-- a gathering node acknowledges or closes, and where one answers a refusal, so does the other
abbrev pub GathersAlone : (Command → Command → Bool) → Lent → Member → Result Step Refusal → Lent → Member → Type 0
GathersAlone conflicts t m (Ok Acknowledged) u k = Acknowledges conflicts t m (Ok tt) u k
GathersAlone conflicts t m (Ok (Closed a b)) u k = Closes conflicts t m (Ok (a, b)) u k
GathersAlone conflicts t m (Ok Proposed) u k = ⊥
GathersAlone conflicts t m (Ok Settled) u k = ⊥
GathersAlone conflicts t m (Err e) u k = Acknowledges conflicts t m (Err e) u k × Closes conflicts t m (Err e) u k

-- a closing node proposes
abbrev pub ProposesAlone : Lent → Member → Meaning → Result Step Refusal → Lent → Member → Meaning → Type 0
ProposesAlone t m M (Ok Proposed) u k N = Proposes t m M (Ok tt) k N × (u ≡ t)
ProposesAlone t m M (Ok Acknowledged) u k N = ⊥
ProposesAlone t m M (Ok (Closed a b)) u k N = ⊥
ProposesAlone t m M (Ok Settled) u k N = ⊥
ProposesAlone t m M (Err e) u k N = Proposes t m M (Err e) k N × (u ≡ t)

-- and one that has proposed settles
abbrev pub SettlesAlone : Lent → Member → Meaning → Result Step Refusal → Lent → Member → Meaning → Type 0
SettlesAlone t m M (Ok Settled) u k N = Settles t m M (Ok tt) u k × (N ≡ M)
SettlesAlone t m M (Ok Acknowledged) u k N = ⊥
SettlesAlone t m M (Ok (Closed a b)) u k N = ⊥
SettlesAlone t m M (Ok Proposed) u k N = ⊥
SettlesAlone t m M (Err e) u k N = Settles t m M (Err e) u k × (N ≡ M)

abbrev pub Turns : (Command → Command → Bool) → Phase → Lent → Member → Meaning → Result Step Refusal → Lent → Member → Meaning
    → Type 0
Turns conflicts Gathering t m M r u k N = GathersAlone conflicts t m r u k × (N ≡ M)
Turns conflicts Closing t m M r u k N = ProposesAlone t m M r u k N
Turns conflicts Waiting t m M r u k N = SettlesAlone t m M r u k N
Turns conflicts Ahead t m M r u k N = GathersAlone conflicts t m r u k × (N ≡ M)

-- ---- all of them

-- what one event makes of a node and its tables
abbrev pub Does : Kind → Event → Member → Lent → Member → Lent → Type 0
Does K (told i node c) m t k u = (k ≡ m) × (u ≡ written i node c t)
Does K (took l r sent) m t k u = HandedOver (has_no_call m l) (ready m.size.n t) m l r u k × (sent ≡ outgoing u)
Does K (turned M r N sent) m t k u = Turns K.conflicts m.row.phase (ready m.size.n t) m M r u k N × (sent ≡ outgoing u)

-- and a list of them, in turn
abbrev pub Alone : Kind → List Event → Member → Lent → Member → Lent → Type 0
Alone K [] m t k u = (k ≡ m) × (u ≡ t)
Alone K (e ∷ es) m t k u = (m₁ : Member) × (t₁ : Lent) × Does K e m t m₁ t₁ × Alone K es m₁ t₁ k u
