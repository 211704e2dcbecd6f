-- Lists of events: one more of them, and that they lead to one node and to one set of tables.
use Rattle.std.proofs.Common.{◌≡◌, Bool, true, false, List, [], ◌∷◌, ◌++◌, Ok, Err, Result, sym, refl, ◌∙◌, subst}
use Rattle.record.specs.Kind.{Kind}
use Rattle.record.specs.declared.command.Command.{Command}
use Rattle.chooser.specs.Meaning.{Meaning}
use Rattle.rows.specs.declared.letter.Letter.{Letter}
use Rattle.rows.specs.declared.refusal.Refusal.{Refusal}
use Rattle.rows.specs.declared.row.Phase.{Phase}
use Rattle.rows.specs.declared.row.Phase.TheVariants.{Gathering, Closing, Waiting, Ahead}
use Rattle.ring.specs.declared.step.Step.{Step}
use Rattle.ring.specs.declared.step.Step.TheVariants.{Acknowledged, Closed, Proposed, Settled}
use Rattle.node.specs.Tables.{Lent}
use Rattle.node.specs.Events.{Event, told, took, turned, ready, has_no_call, HandedOver, GathersAlone, ProposesAlone, SettlesAlone}
use Rattle.node.specs.Events.{Turns, Does, Alone}
use Rattle.node.specs.declared.member.Member.{Member}

-- one event more
pub one_more : (K : Kind) (es : List Event) (e : Event) (m₀ : Member) (t₀ : Lent) (m k : Member) (t u : Lent)
    → Alone K es m₀ t₀ m t → Does K e m t k u → Alone K (es ++ e ∷ []) m₀ t₀ k u
one_more K [] e m₀ t₀ m k t u a h = (
  k,
  u,
  subst (λ (x : Member). Does K e x t₀ k u) a.0 (subst (λ (y : Lent). Does K e m y k u) a.1 h),
  (refl, refl),
)
one_more K (x ∷ es) e m₀ t₀ m k t u (m₁, t₁, d, a) h = (m₁, t₁, d, one_more K es e m₁ t₁ m k t u a h)

-- ---- one node and one set of tables

-- equal to one thing, equal to one another
abbrev Same : Member → Lent → Member → Lent → Type 0
Same k u k' u' = (k ≡ k') × (u ≡ u')

module _ (t : Lent) (m : Member) (u u' : Lent) (k k' : Member) where
  handed_once : (b : Bool) (l : Letter) (r : Result (Unit {0}) Refusal) → HandedOver b t m l r u k → HandedOver b t m l r u' k'
      → Same k u k' u'
  handed_once true l r h g = (h.1 ∙ sym g.1, h.0 ∙ sym g.0)
  handed_once false l r h g = (h.2 ∙ sym g.2, h.1 ∙ sym g.1)

  gathers_once : (conflicts : Command → Command → Bool) (r : Result Step Refusal) → GathersAlone conflicts t m r u k
      → GathersAlone conflicts t m r u' k' → Same k u k' u'
  gathers_once conflicts (Ok Acknowledged) h g = (h.2 ∙ sym g.2, h.1 ∙ sym g.1)
  gathers_once conflicts (Ok (Closed a b)) h g = (h.3 ∙ sym g.3, h.2 ∙ sym g.2)
  gathers_once conflicts (Ok Proposed) h g = absurd h
  gathers_once conflicts (Ok Settled) h g = absurd h
  gathers_once conflicts (Err e) h g = (h.0.2 ∙ sym g.0.2, h.0.1 ∙ sym g.0.1)

  module _ (M N : Meaning) where
    proposes_once : (r : Result Step Refusal) → ProposesAlone t m M r u k N → ProposesAlone t m M r u' k' N → Same k u k' u'
    proposes_once (Ok Proposed) h g = (h.0.2 ∙ sym g.0.2, h.1 ∙ sym g.1)
    proposes_once (Ok Acknowledged) h g = absurd h
    proposes_once (Ok (Closed a b)) h g = absurd h
    proposes_once (Ok Settled) h g = absurd h
    proposes_once (Err e) h g = (h.0.1 ∙ sym g.0.1, h.1 ∙ sym g.1)

    settles_once : (r : Result Step Refusal) → SettlesAlone t m M r u k N → SettlesAlone t m M r u' k' N → Same k u k' u'
    settles_once (Ok Settled) h g = (h.0.2 ∙ sym g.0.2, h.0.1 ∙ sym g.0.1)
    settles_once (Ok Acknowledged) h g = absurd h
    settles_once (Ok (Closed a b)) h g = absurd h
    settles_once (Ok Proposed) h g = absurd h
    settles_once (Err e) h g = (h.0.2 ∙ sym g.0.2, h.0.1 ∙ sym g.0.1)

    turns_once : (conflicts : Command → Command → Bool) (p : Phase) (r : Result Step Refusal) → Turns conflicts p t m M r u k N
        → Turns conflicts p t m M r u' k' N → Same k u k' u'
    turns_once conflicts Gathering r h g = gathers_once conflicts r h.0 g.0
    turns_once conflicts Closing r h g = proposes_once r h g
    turns_once conflicts Waiting r h g = settles_once r h g
    turns_once conflicts Ahead r h g = gathers_once conflicts r h.0 g.0

-- one event leads to one
does_once : (K : Kind) (e : Event) (m : Member) (t : Lent) (k k' : Member) (u u' : Lent) → Does K e m t k u → Does K e m t k' u'
    → Same k u k' u'
does_once K (told i node c) m t k k' u u' h g = (h.0 ∙ sym g.0, h.1 ∙ sym g.1)
does_once K (took l r sent) m t k k' u u' h g =
    handed_once (ready m.size.n t) m u u' k k' (has_no_call m l) l r h.0 g.0
does_once K (turned M r N sent) m t k k' u u' h g =
    turns_once (ready m.size.n t) m u u' k k' M N K.conflicts m.row.phase r h.0 g.0

-- and so does a list of them
pub alone_once : (K : Kind) (es : List Event) (m : Member) (t : Lent) (k k' : Member) (u u' : Lent) → Alone K es m t k u
    → Alone K es m t k' u' → Same k u k' u'
alone_once K [] m t k k' u u' a b = (a.0 ∙ sym b.0, a.1 ∙ sym b.1)
alone_once K (e ∷ es) m t k k' u u' (m₁, t₁, d, a) (m₂, t₂, f, b) =
    let same = does_once K e m t m₁ m₂ t₁ t₂ d f in
    alone_once K es m₂ t₂ k k' u u'
    (subst (λ (x : Member). Alone K es x t₂ k u) same.0 (subst (λ (y : Lent). Alone K es m₁ y k u) same.1 a)) b
