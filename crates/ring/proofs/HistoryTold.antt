-- Every day that began with a start is told by its accepted broadcasts and crashes.
use Rattle.std.proofs.Common.{◌≡◌, ℕ, ◌+◌, ◌<◌, Bool, true, false, not, leb, List, [], ◌∷◌, ◌++◌, length, get_or, set, Some, None}
use Rattle.std.proofs.Common.{Ok, Err, Option, Result, sym, refl, ap, ◌∙◌, subst, ap₂, inl, inr, arith}
use Rattle.std.proofs.lemmas.List.{get_or_append_left, get_or_push, get_or-set_same, get_or-set_other, length_push, length-set}
use Rattle.std.proofs.lemmas.List.{length-replicate}
use Rattle.std.proofs.lemmas.Bool.{cases_eq, leb-false}
use Rattle.record.specs.Kind.{Kind}
use Rattle.record.specs.declared.command.Command.{Command}
use Rattle.chooser.specs.Meaning.{Meaning}
use Rattle.protocol.specs.Lists.{Mem}
use Rattle.protocol.proofs.Lists.{mem_left, mem_right, mem_cases}
use Rattle.rows.specs.Causes.{answer, unless}
use Rattle.rows.specs.Conflicts.{no_command, command_of}
use Rattle.rows.specs.Settlements.{settle_refusal, decided_of}
use Rattle.rows.specs.declared.refusal.Refusal.{Refusal}
use Rattle.rows.specs.declared.row.Phase.{Phase}
use Rattle.rows.specs.declared.row.Phase.TheVariants.{Gathering, Closing, Waiting, Ahead}
use Rattle.rows.specs.declared.row.Row.{Row}
use Rattle.rows.specs.declared.size.RingSize.{RingSize}
use Rattle.ring.specs.World.{World, row_of, has_crashed, with_row, table_refusal, live_refusal}
use Rattle.ring.specs.Broadcast.{broadcast_refusal, broadcast_by}
use Rattle.ring.specs.Close.{Proposing, decision_for, settled_by}
use Rattle.ring.specs.Day.{Day, begins, broadcasts, receives, steps, crashes, loses, with_ring}
use Rattle.ring.specs.Fail.{crashed_by, lose_refusal, lost_at, Loses}
use Rattle.ring.specs.Gather.{Gathers}
use Rattle.ring.specs.History.{Accepted, no_broadcast, broadcast_on, crashed_on, Told}
use Rattle.ring.specs.Receive.{receive_refusal, received, Receives}
use Rattle.ring.specs.Start.{new_node, started}
use Rattle.ring.specs.Step.{ByPhase, ByCause, stepper_refusal, Steps}
use Rattle.ring.specs.declared.ring.Ring.{Ring}
use Rattle.ring.specs.declared.step.Step.{Step}
use Rattle.ring.specs.declared.step.Step.TheVariants.{Acknowledged, Closed, Proposed, Settled}
use Rattle.ring.proofs.Causes.{refuse_none, first_none, either_way, tables_fit, living}
use Rattle.ring.proofs.NodesKept.{crashed_kept, crashed_here, crashed_elsewhere, nobody_crashed}

-- ---- calls that neither broadcast nor crash

-- the part of a world that only broadcasts and crashes change, the size of its ring, and how many nodes that keeps
pub record Ledger : Type 0 where
  pub size : Option RingSize
  pub messages : ℕ
  pub broadcasters : List ℕ
  pub nodes : ℕ
  pub crashed : ℕ → Bool
  pub book : List Command

-- of a world, if it has so many nodes and these have crashed
abbrev ledger_with : World → ℕ → (ℕ → Bool) → Ledger
ledger_with w nodes crashed = record {
  size = w.ring.size;
  messages = w.ring.messages;
  broadcasters = w.ring.broadcasters;
  nodes = nodes;
  crashed = crashed;
  book = w.book;
}

-- of a world
abbrev pub ledger : World → Ledger
ledger w = ledger_with w (length w.ring.nodes) (has_crashed w.ring)

-- another row of a node leaves it
row_leaves : (w : World) (node : ℕ) (row : Row) → ledger (with_ring w (with_row node row w.ring)) ≡ ledger w
row_leaves w node row = ap₂ (ledger_with w) (length-set w.ring.nodes node _) (crashed_kept w.ring node row)

-- a call leaves it, if the world that it makes where nothing refuses it has the same
call_leaves : (o : Option Refusal) (changed w v : World) → v ≡ unless o changed w → ledger changed ≡ ledger w
    → ledger v ≡ ledger w
call_leaves o changed w v h e = either_way (λ (x : World). ledger x ≡ ledger w) o changed w v h (λ _. e) refl

-- a receipt does
pub receipt_leaves : (w : World) (place : ℕ) (r : Result (Unit {0}) Refusal) (v : World) → Receives w place r v → ledger v ≡ ledger w
receipt_leaves w place r v h = call_leaves (receive_refusal w place) (received w place) w v h.1 (row_leaves w _ _)

-- and a loss
pub loss_leaves : (w : World) (place : ℕ) (r : Result (Unit {0}) Refusal) (v : World) → Loses w place r v → ledger v ≡ ledger w
loss_leaves w place r v h = call_leaves (lose_refusal w place) (lost_at w place) w v h.1 refl

module _ (K : Kind) (w : World) (M : Meaning) (node : ℕ) (v : World) (N : Meaning) where
  -- and the step of a gathering node
  gathering_leaves : (r : Result Step Refusal) → Gathers K.conflicts w node r v → ledger v ≡ ledger w
  gathering_leaves (Ok Acknowledged) h = ap ledger h.2 ∙ row_leaves w node _
  gathering_leaves (Ok (Closed a b)) h = ap ledger h.3 ∙ row_leaves w node _
  gathering_leaves (Ok Proposed) h = absurd h
  gathering_leaves (Ok Settled) h = absurd h
  gathering_leaves (Err e) h = ap ledger h.1

  -- and a proposal
  proposing_leaves : (r : Result Step Refusal) → Proposing w M node r v N → ledger v ≡ ledger w
  proposing_leaves (Ok Proposed) h = ap ledger h.2 ∙ row_leaves w node _
  proposing_leaves (Ok Acknowledged) h = absurd h
  proposing_leaves (Ok (Closed a b)) h = absurd h
  proposing_leaves (Ok Settled) h = absurd h
  proposing_leaves (Err e) h = ap ledger h.1

  -- and a step of any phase
  phase_leaves : (p : Phase) (r : Result Step Refusal) → ByPhase K p w M node r v N
      → ledger v ≡ ledger w
  phase_leaves Gathering r h = gathering_leaves r h.0
  phase_leaves Closing r h = proposing_leaves r h
  phase_leaves Waiting r h =
      let decision = decision_for w M node in
      call_leaves (settle_refusal decision) (settled_by w node (decided_of decision)) w v h.1 (row_leaves w node _)
  phase_leaves Ahead r h = gathering_leaves r h.0

  -- and one that is turned down before its phase matters
  cause_leaves : (o : Option Refusal) (r : Result Step Refusal) → ByCause o K w M node r v N → ledger v ≡ ledger w
  cause_leaves (Some e) r h = ap ledger h.1
  cause_leaves None r h = phase_leaves (row_of w node).phase r h

  -- so every step
  pub step_leaves : (r : Result Step Refusal) → Steps K w M node r v N → ledger v ≡ ledger w
  step_leaves r h = cause_leaves (stepper_refusal w node) r h

-- ---- accepted and refused calls

-- a call that answers Ok was refused by nothing, answers what it has to tell, and leaves what it changed
pub accepted_call : {X Y : Type 0} (o : Option Refusal) (x y : X) (changed same v : Y) → Ok y ≡ answer o x → v ≡ unless o changed same
    → (o ≡ None) × (y ≡ x) × (v ≡ changed)
accepted_call None x y changed same v r h = (refl, cc, h)
accepted_call (Some e) x y changed same v r h = let clash : ◌≡◌ {A = ℕ} 0 1 = cc in absurd (omega arith)

-- a call that answers Err leaves all
pub refused_call : {X Y : Type 0} (o : Option Refusal) (x : X) (e : Refusal) (changed same v : Y) → Err e ≡ answer o x
    → v ≡ unless o changed same → v ≡ same
refused_call None x e changed same v r h = let clash : ◌≡◌ {A = ℕ} 0 1 = cc in absurd (omega arith)
refused_call (Some _) x e changed same v r h = h

-- ---- broadcasts and crashes

-- the ledger is told by the accepted broadcasts bs and the crashed nodes cs, and its tables have their sizes
record Traced (z : RingSize) (l : Ledger) (bs : List Accepted) (cs : List ℕ) : Type 0 where
  pub size : l.size ≡ Some z
  pub broadcasters_length : length l.broadcasters ≡ 64
  pub nodes_length : l.nodes ≡ 7
  pub messages : l.messages ≡ length bs
  pub answered : (m : ℕ) → m < l.messages → (get_or bs m no_broadcast).answered ≡ m
  pub node : (m : ℕ) → m < l.messages → (get_or bs m no_broadcast).node ≡ get_or l.broadcasters m 0
  pub command : (m : ℕ) → m < l.messages → (get_or bs m no_broadcast).command ≡ command_of l.book m
  pub crashed : (r : ℕ) → Mem r cs → l.crashed r ≡ true
  pub alive : (r : ℕ) → (Mem r cs → ⊥) → l.crashed r ≡ false

-- nothing was accepted at the start
start_traced : (z : RingSize) (u : World) → Traced z (ledger (started z u)) [] []
start_traced z u = record {
  size = refl;
  broadcasters_length = length-replicate {A = ℕ} 64 0;
  nodes_length = length-replicate 7 new_node;
  messages = refl;
  answered = λ m l. absurd (omega (arith, l));
  node = λ m l. absurd (omega (arith, l));
  command = λ m l. absurd (omega (arith, l));
  crashed = λ r h. absurd h;
  alive = λ r h. nobody_crashed r;
}

-- what holds of each of the broadcasts and of one more holds of each after it is added
each_push : (P : ℕ → Accepted → Type 0) (bs : List Accepted) (b : Accepted) (now : ℕ) → now ≡ length bs → P now b
    → ((m : ℕ) → m < now → P m (get_or bs m no_broadcast)) → (m : ℕ) → m < now + 1 → P m (get_or (bs ++ b ∷ []) m no_broadcast)
each_push P bs b now e new old m l = elim (cases_eq m now) [
  | inl same ↦ subst (λ (i : ℕ). P i (get_or (bs ++ b ∷ []) i no_broadcast)) (sym same)
      (subst (λ (x : Accepted). P now x) (sym (get_or_push bs b no_broadcast now (sym e))) new)
  | inr other ↦ subst (λ (x : Accepted). P m x)
      (sym (get_or_append_left bs (b ∷ []) no_broadcast m (omega (arith, l, e, other)))) (old m (omega (arith, l, other)))
]

module _ {z : RingSize} (w : World) {bs : List Accepted} {cs : List ℕ} (t : Traced z (ledger w) bs cs) where
  -- an accepted broadcast is one message more
  broadcast_traced : (K : Kind) (node : ℕ) (c : Command) (m : ℕ) → broadcast_refusal K w node c ≡ None → m ≡ w.ring.messages
      → Traced z (ledger (broadcast_by w node c)) (bs ++ record { node = node; command = c; answered = m } ∷ []) cs
  broadcast_traced K node c m h is =
      let now = w.ring.messages in
      let fits = first_none (table_refusal w) _ h in
      let lives = first_none (live_refusal w.ring node) _ fits.1 in
      let lawful = refuse_none (not (K.taking.lawful c)) _ _ lives.1 in
      let below : now < 64 = leb-false _ _ (refuse_none (leb 64 now) _ _ lawful.1).0 in
      let new : Accepted = record { node = node; command = c; answered = m } in
      record {
        size = t.size;
        broadcasters_length = length-set w.ring.broadcasters now node ∙ t.broadcasters_length;
        nodes_length = t.nodes_length;
        messages = omega (arith, length_push bs new, t.messages);
        answered = each_push (λ i b. b.answered ≡ i) bs new now t.messages is t.answered;
        node = each_push (λ i b. b.node ≡ get_or (set w.ring.broadcasters now node) i 0) bs new now t.messages
            (sym (get_or-set_same w.ring.broadcasters now node 0 (omega (arith, below, t.broadcasters_length))))
            (λ i l. t.node i l ∙ sym (get_or-set_other w.ring.broadcasters now i node 0 (λ e. omega (arith, e, l))));
        command = each_push (λ i b. b.command ≡ command_of (set w.book now c) i) bs new now t.messages
            (sym (get_or-set_same w.book now c no_command (omega (arith, below, (tables_fit w fits.0).book))))
            (λ i l. t.command i l ∙ sym (get_or-set_other w.book now i c no_command (λ e. omega (arith, e, l))));
        crashed = t.crashed;
        alive = t.alive;
      }

  -- after an accepted crash, one node more does not live
  crash_traced : (node : ℕ) → live_refusal w.ring node ≡ None
      → Traced z (ledger (with_ring w (crashed_by w.ring node))) bs (cs ++ node ∷ [])
  crash_traced node h =
      let here = (living z w.ring node t.size h).in_ring in
      record {
        size = t.size;
        broadcasters_length = t.broadcasters_length;
        nodes_length = length-set w.ring.nodes node _ ∙ t.nodes_length;
        messages = t.messages;
        answered = t.answered;
        node = t.node;
        command = t.command;
        crashed = λ r on. elim (cases_eq r node) [
          | inl e ↦ ap (has_crashed (crashed_by w.ring node)) e
              ∙ crashed_here w.ring node (omega (arith, here, t.nodes_length, z.high))
          | inr d ↦ crashed_elsewhere w.ring node r d ∙ t.crashed r (elim (mem_cases r cs (node ∷ []) on) [
            | inl k ↦ k
            | inr (inl e) ↦ absurd (d (sym e))
            | inr (inr k) ↦ absurd k
          ])
        ];
        alive = λ r off. crashed_elsewhere w.ring node r (λ e. off (mem_right r cs (node ∷ []) (inl (sym e))))
            ∙ t.alive r (λ on. off (mem_left r cs (node ∷ []) on));
      }

-- ---- every day

module _ {K : Kind} (z : RingSize) (u : World) {M₀ : Meaning} where
  -- the accepted calls of a day tell the ledger of the world that it comes to
  traced : {w : World} {M : Meaning} (d : Day K (started z u) M₀ w M) → Traced z (ledger w) (broadcast_on d) (crashed_on d)
  traced begins = start_traced z u
  traced (broadcasts w M node c (Ok m) v d h) =
      let a = accepted_call (broadcast_refusal K w node c) w.ring.messages m (broadcast_by w node c) w v h.0 h.1 in
      let new : Accepted = record { node = node; command = c; answered = m } in
      subst (λ (x : World). Traced z (ledger x) (broadcast_on d ++ new ∷ []) (crashed_on d)) (sym a.2)
      (broadcast_traced w (traced d) K node c m a.0 a.1)
  traced (broadcasts w M node c (Err e) v d h) =
      let same = refused_call (broadcast_refusal K w node c) w.ring.messages e (broadcast_by w node c) w v h.0 h.1 in
      subst (λ (x : World). Traced z (ledger x) (broadcast_on d) (crashed_on d)) (sym same) (traced d)
  traced (receives w M place r v d h) =
      subst (λ (l : Ledger). Traced z l (broadcast_on d) (crashed_on d)) (sym (receipt_leaves w place r v h)) (traced d)
  traced (steps w M node r v N d h sound) =
      subst (λ (l : Ledger). Traced z l (broadcast_on d) (crashed_on d)) (sym (step_leaves K w M node v N r h)) (traced d)
  traced (crashes w M node (Ok x) s d h) =
      let a = accepted_call (live_refusal w.ring node) tt x (crashed_by w.ring node) w.ring s h.0 h.1 in
      subst (λ (y : Ring). Traced z (ledger (with_ring w y)) (broadcast_on d) (crashed_on d ++ node ∷ []))
      (sym a.2) (crash_traced w (traced d) node a.0)
  traced (crashes w M node (Err e) s d h) =
      let same = refused_call (live_refusal w.ring node) tt e (crashed_by w.ring node) w.ring s h.0 h.1 in
      subst (λ (y : Ring). Traced z (ledger (with_ring w y)) (broadcast_on d) (crashed_on d)) (sym same) (traced d)
  traced (loses w M place r v d h) =
      subst (λ (l : Ledger). Traced z l (broadcast_on d) (crashed_on d)) (sym (loss_leaves w place r v h)) (traced d)

  -- so every day is told
  pub history_told : {w : World} {M : Meaning} (d : Day K (started z u) M₀ w M) → Told d
  history_told d =
      let t = traced d in
      record {
        messages = t.messages;
        answered = t.answered;
        node = t.node;
        command = t.command;
        crashed = λ r on. ap not (t.crashed r on);
        alive = λ r off. ap not (t.alive r off);
      }
