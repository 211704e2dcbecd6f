-- A step of the node of a ring is a turn of the node by itself, and both go alike.
use Rattle.std.proofs.Common.{◌≡◌, ℕ, ◌+◌, ◌<◌, ◌≤◌, Bool, true, false, not, ◌||◌, eqb, List, ◌++◌, take, drop}
use Rattle.std.proofs.Common.{replicate, Some, None, Ok, Err, Option, Result, sym, refl, ap, ◌∙◌, subst, inl, inr, arith}
use Rattle.std.specs.List.{filter}
use Rattle.std.proofs.lemmas.Bool.{cases_Bool, or_from, or_left, true≢false, not_from_true, eq-eqb, ltb-false, cond-true, cond-false}
use Rattle.record.specs.Kind.{Kind}
use Rattle.record.specs.declared.command.Command.{Command}
use Rattle.chooser.specs.Meaning.{Meaning, Appended, served, proposal_of}
use Rattle.rows.specs.Causes.{refuse, first, answer, outcome, unless}
use Rattle.rows.specs.Letters.{acknowledgement, check_letter, letter_of, no_letter, sent, no_room}
use Rattle.rows.specs.Proposals.{proposed_sets, propose_refusal}
use Rattle.rows.specs.Receipts.{is_gathering, is_proposed}
use Rattle.rows.specs.Rows.{undelivered, with_pending, with_closed, with_proposed}
use Rattle.rows.specs.Settlements.{settled_row, settled_sheets, settle_refusal, decided_of}
use Rattle.rows.specs.declared.letter.Letter.{Letter}
use Rattle.rows.specs.declared.refusal.Refusal.{Refusal}
use Rattle.rows.specs.declared.refusal.Refusal.TheVariants.{NothingNew, TrayFull, Undecided}
use Rattle.rows.specs.declared.row.Phase.{Phase}
use Rattle.rows.specs.declared.row.Phase.TheVariants.{Gathering, Closing, Waiting, Ahead}
use Rattle.rows.specs.declared.row.Row.{Row}
use Rattle.rows.specs.declared.size.RingSize.{RingSize}
use Rattle.ring.specs.World.{World, nodes_of, row_of, with_used}
use Rattle.ring.specs.Gather.{sending as ring_sending, acknowledged, closed, Gathers}
use Rattle.ring.specs.Close.{proposed_by, decision_for, settled_by, Proposing, Settling}
use Rattle.ring.specs.Promises.{lives}
use Rattle.ring.specs.Step.{ByPhase}
use Rattle.ring.specs.declared.step.Step.{Step}
use Rattle.ring.specs.declared.step.Step.TheVariants.{Acknowledged, Closed, Proposed, Settled}
use Rattle.ring.proofs.Allowed.{passed, both_passed}
use Rattle.ring.proofs.Causes.{refuse_none, Lives}
use Rattle.ring.proofs.Changing.{nodes_are, quorum_is, has_row, sheet_small}
use Rattle.ring.proofs.NodesKept.{row_here}
use Rattle.ring.proofs.Seeing.{Joined}
use Rattle.ring.proofs.SettlementJoined.{told_stands, first_small, second_small}
use Rattle.node.specs.Tables.{Lent, lent, table_refusal}
use Rattle.node.specs.Gathers.{acknowledge_refusal, close_refusal, nothing_new, has_conflict}
use Rattle.node.specs.Decides.{node_propose_refusal, node_settle_refusal}
use Rattle.node.specs.Events.{Event, turned, GathersAlone, Turns}
use Rattle.node.specs.Alike.{is_its_own, is_answered, Names, posted, stepped, member_in, sheet_part, GoesAlike}
use Rattle.node.specs.declared.member.Member.{Member}
use Rattle.node.proofs.LettersSent.{travels, none_travels, sent_behind, nothing_behind, sent_alone}
use Rattle.node.proofs.LettersTaken.{tables, tables_fit}
use Rattle.node.proofs.SheetPart.{settled_here}
use Rattle.node.proofs.EventsGiven.{nothing_given, given_one}

-- whether a cause is the node's own
abbrev own_cause : Option Refusal → Bool
own_cause None = false
own_cause (Some e) = is_its_own e

-- what a gathering node does is its turn, in either phase that gathers
gathers_turn : (conflicts : Command → Command → Bool) (t : Lent) (m : Member) (M : Meaning) (r : Result Step Refusal) (u : Lent)
    (k : Member) (N : Meaning) (p : Phase) → is_gathering p ≡ true → GathersAlone conflicts t m r u k × (N ≡ M)
    → Turns conflicts p t m M r u k N
gathers_turn conflicts t m M r u k N Gathering h x = x
gathers_turn conflicts t m M r u k N Closing h x = absurd (true≢false (sym h))
gathers_turn conflicts t m M r u k N Waiting h x = absurd (true≢false (sym h))
gathers_turn conflicts t m M r u k N Ahead h x = x

-- a cause of a gathering node that is its own is that nothing is new
nothing_is_new : (b c : Bool) (x : Refusal) → is_its_own x ≡ true → refuse b NothingNew (refuse c TrayFull None) ≡ Some x
    → (b ≡ true) × (Some NothingNew ≡ Some x)
nothing_is_new true c x t h = (refl, h)
nothing_is_new false true x t h = absurd (true≢false (sym t ∙ sym (ap own_cause h)))
nothing_is_new false false x t h = absurd (true≢false (sym t ∙ sym (ap own_cause h)))

-- where the test passes, its cause is the answer
refused : (b : Bool) (e : Refusal) (rest : Option Refusal) → b ≡ true → refuse b e rest ≡ Some e
refused true e rest t = refl
refused false e rest t = absurd (true≢false (sym t))

-- a refused call leaves all as it was
as_found : {X : Type 0} {o : Option Refusal} {e : Refusal} (changed same : X) → o ≡ Some e → same ≡ unless o changed same
as_found changed same h = sym (ap (λ (c : Option Refusal). unless c changed same) h)

module _ {K : Kind} {z : RingSize} {need : ℕ} {low : 1 ≤ need} {high : need ≤ z.q} {w : World} {M : Meaning} {m₀ : Member} {i : ℕ}
    {es : List Event} (j : Joined K z need low high w M) (g : GoesAlike K z m₀ i w es) (inside : i < z.n) (alive : lives w i ≡ true)
  where
    -- the node by itself and what is lent to it
    abbrev m : Member
    m = member_in z w i

    abbrev t : Lent
    t = tables j i inside g.broadcasters g.named

    -- ---- a turn

    -- one that leaves the node by itself with the row and the sheet of a world, and sends what came into its tray
    turn : (r : Result Step Refusal) (v : World) (N : Meaning) (letters : List Letter) → Names v g.broadcasters
        → Turns K.conflicts (row_of w i).phase t m M r (lent v.book g.broadcasters letters (sheet_part v i)) (member_in z v i) N
        → filter travels letters ≡ posted w v → is_answered r ≡ true → GoesAlike K z m₀ i v (es ++ stepped i w M i r v N)
    turn r v N letters named h sends answered =
        subst (λ (xs : List Event). GoesAlike K z m₀ i v (es ++ xs))
        (sym (cond-true (eqb i i) _ _ (eq-eqb i i refl) ∙ cond-true (is_answered r) _ _ answered))
        (given_one g v (turned M r N (posted w v)) g.broadcasters letters named (h, sym sends))

    -- one that is refused for a cause of the node leaves all, and sends nothing
    turned_down : (x : Refusal) → (is_its_own x ≡ true → Turns K.conflicts (row_of w i).phase t m M (Err x) t m M)
        → GoesAlike K z m₀ i w (es ++ stepped i w M i (Err x) w M)
    turned_down x h = elim (cases_Bool (is_its_own x)) [
      | inl o ↦ turn (Err x) w M (replicate z.n no_letter) g.named (h o)
          (none_travels z.n ∙ sym (nothing_behind w.tray w.ring.used j.fine.used_in_tray)) o
      | inr f ↦ nothing_given g _ (cond-true (eqb i i) _ _ (eq-eqb i i refl) ∙ cond-false (is_its_own x) _ _ f)
    ]

    -- ---- gathering
    module _ (gathers : is_gathering (row_of w i).phase ≡ true) where
      -- a turn of a gathering node
      gathering : (r : Result Step Refusal) (u : Lent) (k : Member) (N : Meaning)
          → GathersAlone K.conflicts t m r u k × (N ≡ M) → Turns K.conflicts (row_of w i).phase t m M r u k N
      gathering r u k N h = gathers_turn K.conflicts t m M r u k N (row_of w i).phase gathers h

      -- what is sent to all in the ring is sent to all by the node by itself
      module _ (l : Letter) (row : Row) (room : no_room w.tray w.ring.used (nodes_of w.ring.size) ≡ false) where
        row_is : row_of (ring_sending w i l row) i ≡ row
        row_is = row_here (with_used (w.ring.used + nodes_of w.ring.size) w.ring) i row (has_row j.fine i inside)

        node_is : member_in z (ring_sending w i l row) i ≡ record { number = i; size = z; row = row }
        node_is = ap {B = Member} (λ (x : Row). record { number = i; size = z; row = x }) row_is

        sends_alike : filter travels (sent (replicate z.n no_letter) 0 l z.n) ≡ posted w (ring_sending w i l row)
        sends_alike =
            sent_alone l z.n
            ∙ sym (ap (λ (n : ℕ). drop w.ring.used (take (w.ring.used + n) (sent w.tray w.ring.used l n))) (nodes_are j.fine)
            ∙ sent_behind w.tray w.ring.used l z.n z.n (omega arith) (omega (arith, ltb-false _ _ room, nodes_are j.fine)))

      gathers_alike : (r : Result Step Refusal) (v : World) → Gathers K.conflicts w i r v
          → GoesAlike K z m₀ i v (es ++ stepped i w M i r v M)
      gathers_alike (Ok Acknowledged) v h =
          let l = letter_of i acknowledgement (row_of w i).stage (undelivered (row_of w i)) in
          let row = with_pending (undelivered (row_of w i)) (row_of w i) in
          let letters : List Letter = sent (replicate z.n no_letter) 0 l z.n in
          let news = refuse_none _ _ _ h.0 in
          let room = (refuse_none (no_room w.tray w.ring.used (nodes_of w.ring.size)) _ _ news.1).0 in
          let allowed : acknowledge_refusal K.conflicts t m ≡ None =
          both_passed (table_refusal z.n t) _ (tables_fit j i inside g.broadcasters g.named)
          (passed (nothing_new m || has_conflict K.conflicts t m) _ _ (or_from _ _ news.0 h.1) refl) in
          let u : Lent = lent w.book g.broadcasters letters (sheet_part w i) in
          let k : Member = record { number = i; size = z; row = row } in
          subst (λ (x : World). GoesAlike K z m₀ i x (es ++ stepped i w M i (Ok Acknowledged) x M)) (sym h.2)
          (turn (Ok Acknowledged) (acknowledged w i) M letters
          (record { places = g.named.places; broadcast = g.named.broadcast; others = g.named.others })
          (gathering (Ok Acknowledged) u (member_in z (acknowledged w i) i) M (
            (
              sym (ap outcome allowed),
              sym (ap (λ (o : Option Refusal). unless o u t) allowed),
              node_is l row room ∙ sym (ap (λ (o : Option Refusal). unless o k m) allowed),
            ),
            refl,
          ))
          (sends_alike l row room) refl)
      gathers_alike (Ok (Closed a b)) v h =
          let l = letter_of i check_letter (row_of w i).stage (row_of w i).pending in
          let row = with_closed (row_of w i) in
          let letters : List Letter = sent (replicate z.n no_letter) 0 l z.n in
          let news = refuse_none _ _ _ h.0 in
          let room = (refuse_none (no_room w.tray w.ring.used (nodes_of w.ring.size)) _ _ news.1).0 in
          let allowed : close_refusal K.conflicts t m ≡ None =
          both_passed (table_refusal z.n t) _ (tables_fit j i inside g.broadcasters g.named)
          (passed (nothing_new m || not (has_conflict K.conflicts t m)) _ _ (or_from _ _ news.0 (not_from_true _ h.1)) refl) in
          let u : Lent = lent w.book g.broadcasters letters (sheet_part w i) in
          subst (λ (x : World). GoesAlike K z m₀ i x (es ++ stepped i w M i (Ok (Closed a b)) x M)) (sym h.3)
          (turn (Ok (Closed a b)) (closed w i) M letters
          (record { places = g.named.places; broadcast = g.named.broadcast; others = g.named.others })
          (gathering (Ok (Closed a b)) u (member_in z (closed w i) i) M ((allowed, h.2, refl, node_is l row room), refl))
          (sends_alike l row room) refl)
      gathers_alike (Ok Proposed) v h = absurd h
      gathers_alike (Ok Settled) v h = absurd h
      gathers_alike (Err x) v h =
          subst (λ (y : World). GoesAlike K z m₀ i y (es ++ stepped i w M i (Err x) y M)) (sym h.1)
          (turned_down x (λ o.
          let (new, is) = nothing_is_new _ _ x o h.0 in
          let fit = tables_fit j i inside g.broadcasters g.named in
          let idle : acknowledge_refusal K.conflicts t m ≡ Some x =
          ap (λ (front : Option Refusal). first front (refuse (nothing_new m || has_conflict K.conflicts t m) NothingNew None)) fit
          ∙ refused _ NothingNew None (or_left _ _ new) ∙ is in
          let unclosed : close_refusal K.conflicts t m ≡ Some x =
          ap (λ (front : Option Refusal). first front (refuse (nothing_new m || not (has_conflict K.conflicts t m)) NothingNew None)) fit
          ∙ refused _ NothingNew None (or_left _ _ new) ∙ is in
          gathering (Err x) t m M (
            (
              (
                sym (ap outcome idle),
                as_found _ t idle,
                as_found _ m idle,
              ),
              (unclosed, refl, refl),
            ),
            refl,
          )))

    -- ---- proposing
    module _ (phase : (row_of w i).phase ≡ Closing) where
      proposing_alike : (r : Result Step Refusal) (v : World) (N : Meaning) → Proposing w M i r v N
          → GoesAlike K z m₀ i v (es ++ stepped i w M i r v N)
      proposing_alike (Ok Acknowledged) v N h = absurd h
      proposing_alike (Ok (Closed a b)) v N h = absurd h
      proposing_alike (Ok Settled) v N h = absurd h
      proposing_alike (Ok Proposed) v N h =
          let q = quorum_is j.fine in
          let allowed : node_propose_refusal t m M ≡ None =
          both_passed (table_refusal z.n t) _ (tables_fit j i inside g.broadcasters g.named)
          (subst (λ (n : ℕ). propose_refusal n i (row_of w i) M ≡ None) q h.0) in
          let appended = subst (λ (n : ℕ). Appended M (row_of w i).stage (proposal_of i (proposed_sets n (row_of w i))) N) q h.1 in
          let k-is : member_in z (proposed_by w i) i ≡ record { number = i; size = z; row = with_proposed (row_of w i) } =
          ap {B = Member} (λ (x : Row). record { number = i; size = z; row = x })
          (row_here w.ring i (with_proposed (row_of w i)) (has_row j.fine i inside)) in
          subst (λ (x : World). GoesAlike K z m₀ i x (es ++ stepped i w M i (Ok Proposed) x N)) (sym h.2)
          (turn (Ok Proposed) (proposed_by w i) N (replicate z.n no_letter)
          (record { places = g.named.places; broadcast = g.named.broadcast; others = g.named.others })
          (subst (λ (p : Phase). Turns K.conflicts p t m M (Ok Proposed) t (member_in z (proposed_by w i) i) N) (sym phase)
          ((allowed, appended, k-is), refl))
          (none_travels z.n ∙ sym (nothing_behind w.tray w.ring.used j.fine.used_in_tray)) refl)
      proposing_alike (Err x) v N h =
          let q = quorum_is j.fine in
          let cause : node_propose_refusal t m M ≡ Some x =
          ap (λ (front : Option Refusal). first front (propose_refusal z.q i (row_of w i) M))
          (tables_fit j i inside g.broadcasters g.named)
          ∙ subst (λ (n : ℕ). propose_refusal n i (row_of w i) M ≡ Some x) q h.0 in
          subst (λ (y : World). GoesAlike K z m₀ i y (es ++ stepped i w M i (Err x) y N)) (sym h.1)
          (subst (λ (L : Meaning). GoesAlike K z m₀ i w (es ++ stepped i w M i (Err x) w L)) (sym h.2)
          (turned_down x (λ o. subst (λ (p : Phase). Turns K.conflicts p t m M (Err x) t m M) (sym phase)
          ((cause, refl, refl), refl))))

    -- ---- settling
    module _ (phase : (row_of w i).phase ≡ Waiting) where
      -- a settling of the node by itself, whose phase is known
      settling : (r : Result Step Refusal) (u : Lent) (k : Member) → Turns K.conflicts Waiting t m M r u k M
          → Turns K.conflicts (row_of w i).phase t m M r u k M
      settling r u k h = subst (λ (p : Phase). Turns K.conflicts p t m M r u k M) (sym phase) h

      -- the decision, or what stands for it where there is none
      abbrev decided : ℕ × ℕ
      decided = decided_of (decision_for w M i)

      abbrev v₁ : World
      v₁ = settled_by w i decided

      -- the cause of the node by itself
      cause_is : (o : Option Refusal) → settle_refusal (decision_for w M i) ≡ o → node_settle_refusal t m M ≡ o
      cause_is o e =
          let late : Option Refusal = settle_refusal (decision_for w M i) in
          ap (λ (front : Option Refusal). first front (refuse (not (is_proposed (row_of w i).phase)) Undecided late))
          (tables_fit j i inside g.broadcasters g.named)
          ∙ ap (λ (p : Phase). refuse (not (is_proposed p)) Undecided late) phase ∙ e

      -- where there is a decision
      settled_alike : settle_refusal (decision_for w M i) ≡ None
          → GoesAlike K z m₀ i v₁ (es ++ stepped i w M i (Ok Settled) v₁ M)
      settled_alike e =
          let live : Lives z w.ring i = record { in_ring = inside; alive = alive } in
          let stands = told_stands (served (row_of w i).stage) (M.decision (row_of w i).stage) e in
          let allowed = cause_is None e in
          let u : Lent = lent w.book g.broadcasters (replicate z.n no_letter)
          (settled_sheets decided (row_of w i) 0 (sheet_part w i)) in
          let k : Member = record { number = i; size = z; row = settled_row decided (row_of w i) } in
          let sheet-is : sheet_part v₁ i ≡ settled_sheets decided (row_of w i) 0 (sheet_part w i) =
          settled_here decided (row_of w i) i w.sheets (sheet_small j i inside) (first_small j i live phase decided stands)
          (second_small j i live phase decided stands) in
          let k-is : member_in z v₁ i ≡ k =
          ap {B = Member} (λ (x : Row). record { number = i; size = z; row = x })
          (row_here w.ring i (settled_row decided (row_of w i)) (has_row j.fine i inside)) in
          turn (Ok Settled) v₁ M (replicate z.n no_letter)
          (record { places = g.named.places; broadcast = g.named.broadcast; others = g.named.others })
          (settling (Ok Settled) (lent w.book g.broadcasters (replicate z.n no_letter) (sheet_part v₁ i)) (member_in z v₁ i) (
            (
              sym (ap outcome allowed),
              ap (λ (s : List ℕ). lent w.book g.broadcasters (replicate z.n no_letter) s) sheet-is
                  ∙ sym (ap (λ (o : Option Refusal). unless o u t) allowed),
              k-is ∙ sym (ap (λ (o : Option Refusal). unless o k m) allowed),
            ),
            refl,
          ))
          (none_travels z.n ∙ sym (nothing_behind w.tray w.ring.used j.fine.used_in_tray)) refl

      -- by the chooser's answer
      by_answer : (o : Option Refusal) → settle_refusal (decision_for w M i) ≡ o
          → GoesAlike K z m₀ i (unless o v₁ w) (es ++ stepped i w M i (answer o Settled) (unless o v₁ w) M)
      by_answer None e = settled_alike e
      by_answer (Some x) e = turned_down x (λ o.
          let cause = cause_is (Some x) e in
          settling (Err x) t m (
            (
              sym (ap outcome cause),
              as_found _ t cause,
              as_found _ m cause,
            ),
            refl,
          ))

      settles_alike : (r : Result Step Refusal) (v : World) (N : Meaning) → Settling w M i r v N
          → GoesAlike K z m₀ i v (es ++ stepped i w M i r v N)
      settles_alike r v N h =
          let o = settle_refusal (decision_for w M i) in
          let P : Result Step Refusal → World → Meaning → Type 0 = λ a x L. GoesAlike K z m₀ i x (es ++ stepped i w M i a x L) in
          subst (λ (a : Result Step Refusal). P a v N) (sym h.0)
          (subst (λ (x : World). P (answer o Settled) x N) (sym h.1)
          (subst (λ (L : Meaning). P (answer o Settled) (unless o v₁ w) L) (sym h.2) (by_answer o refl)))

    pub by_phase : (p : Phase) → (row_of w i).phase ≡ p → (r : Result Step Refusal) (v : World) (N : Meaning)
        → ByPhase K p w M i r v N → GoesAlike K z m₀ i v (es ++ stepped i w M i r v N)
    by_phase Gathering e r v N h =
        subst (λ (L : Meaning). GoesAlike K z m₀ i v (es ++ stepped i w M i r v L)) (sym h.1) (gathers_alike (ap is_gathering e) r v h.0)
    by_phase Closing e r v N h = proposing_alike e r v N h
    by_phase Waiting e r v N h = settles_alike e r v N h
    by_phase Ahead e r v N h =
        subst (λ (L : Meaning). GoesAlike K z m₀ i v (es ++ stepped i w M i r v L)) (sym h.1)
        (gathers_alike (ap is_gathering e) r v h.0)
