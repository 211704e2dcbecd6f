-- A ring is quiet just if it is at rest: what a quiet ring rules out is what its calls would do.
use Rattle.std.proofs.Common.{◌≡◌, ℕ, suc, ◌<◌, false, ◌≢◌, sym, ap, subst, inl, inr, arith}
use Rattle.std.proofs.lemmas.Bool.{cases_eq, cases_lt, both_ways, true_from_ne_false, false_from_ne_true}
use Rattle.protocol.specs.Sets.{◌∈◌, ◌∉◌, count}
use Rattle.protocol.specs.Ring.{Size, State, Node, Letter, travelling, taken}
use Rattle.protocol.specs.Nodes.{undelivered, after_acknowledging}
use Rattle.protocol.specs.Calls.{Takes, Acknowledges, Closes, Proposes, Settles, Loses, SameLetters, SameNodes}
use Rattle.protocol.specs.Runs.{Call, broadcasts, receives_known, receives_own, relays, hears, passes_acknowledgement}
use Rattle.protocol.specs.Runs.{keeps_check, passes_check, acknowledges, closes, proposes, settles, crashes, loses, refused}
use Rattle.protocol.specs.Promises.{Quiet}
use Rattle.protocol.specs.Progress.{AtRest, QuietIsRest}
use Rattle.protocol.proofs.Facts.{same_mark}
use Rattle.protocol.proofs.Invariant.{Ok}
use Rattle.protocol.proofs.Acknowledging.{undelivered_parts, undelivered_from}
use Rattle.protocol.proofs.Running.{run_ok}
use Rattle.protocol.proofs.Promises.{has_the_stage}
use Rattle.protocol.proofs.Progress.{can_receive, can_gather, can_propose, can_settle}

-- ---- a ring at rest is quiet: what it rules out could be done

rest_quiet : {z : Size} {s : State} → Ok z s → AtRest z s → Quiet z s
rest_quiet {z} {s} o q = record {
  enough_ack = q.enough_ack;
  enough_chk = q.enough_chk;
  no_receipt = λ i l m v. elim (cases_lt (s.node (s.letter i).receiver).stage (s.letter i).stage) [
    | inl h ↦ h
    | inr h ↦ absurd (let w = can_receive o i l m v h in q.no_receipt w.0 i w.1 l m w.2)
  ];
  no_gathering = λ r m l v c h k. true_from_ne_false ((s.node r).pending m) (λ n.
      let w = can_gather o r (l, v) c in elim w.2 [
        | inl f ↦ both_ways ((w.0.node r).pending m) (q.no_acknowledgement w.0 r m w.1 l n)
            (f m (undelivered_from (s.node r) m h k))
        | inr g ↦ both_ways (w.0.node r).closing (q.no_closing w.0 r w.1 l c) g
      ]);
  no_proposal = λ r l v c p. elim (cases_lt (count z.n (s.node r).kept) z.chk) [
    | inl h ↦ inl h
    | inr h ↦ absurd (let w = can_propose o r (l, v) c p h in both_ways (w.0.node r).proposed (q.no_proposal w.0 r w.1 l p) w.2)
  ];
  no_settling = λ r l v c p. inl (false_from_ne_true (s.decided (s.node r).stage) (λ h.
      let w = can_settle o r (l, v) c p h in q.no_settling w.0 r w.1 l w.2));
}

-- ---- a quiet ring is at rest: each call leaves what a rest asks to be left

-- N does nothing that M had not done
record Still (M N : Node) : Type 0 where
  pending : (m : ℕ) → m ∉ M.pending → m ∉ N.pending
  closing : M.closing ≡ false → N.closing ≡ false
  proposed : M.proposed ≡ false → N.proposed ≡ false
  stage : N.stage ≢ suc M.stage

-- no letter is taken from s to t, and every node is still
record NothingNew (z : Size) (s t : State) : Type 0 where
  letters : (i : ℕ) → i < s.sent → (s.letter i).mark ≡ travelling → (t.letter i).mark ≢ taken
  nodes : (r : ℕ) → r < z.n → Still (s.node r) (t.node r)

-- a node that stays is still
stays_still : (M N : Node) → N ≡ M → Still M N
stays_still M N e = subst (λ (P : Node). Still M P) (sym e) (record {
  pending = λ m h. h;
  closing = λ h. h;
  proposed = λ h. h;
  stage = λ h. omega (arith, h);
})

-- a letter that stays is not taken
stays_travelling : (A B : Letter) → B ≡ A → A.mark ≡ travelling → B.mark ≢ taken
stays_travelling A B e m h = omega (arith, same_mark e, m, h)

-- where letters and nodes stay
all_same : {z : Size} {s t : State} → SameLetters s t → SameNodes z s t → NothingNew z s t
all_same {z} {s} {t} a b = record {
  letters = λ i l. stays_travelling (s.letter i) (t.letter i) (a i l);
  nodes = λ r l. stays_still (s.node r) (t.node r) (b r l);
}

-- what a gathering live node of a quiet ring has to deliver it has acknowledged
has_acknowledged : {z : Size} {s : State} → Quiet z s → (r m : ℕ) → r < z.n → r ∈ s.live → (s.node r).closing ≡ false
    → m ∈ undelivered (s.node r) → m ∈ (s.node r).pending
has_acknowledged {s = s} q r m l v g h = let p = undelivered_parts (s.node r) m h in q.no_gathering r m l v g p.0 p.1

module _ {z : Size} {s t : State} (o : Ok z s) (q : Quiet z s) where
  -- no letter can be taken
  no_taking : {A : Type 0} (i : ℕ) → Takes s t i → A
  no_taking i k = absurd (omega (arith, q.no_receipt i k.place k.travels k.alive, k.not_ahead))

  -- it may acknowledge that again
  again : (r : ℕ) → Acknowledges z s t r → NothingNew z s t
  again r c = record {
    letters = λ i l. stays_travelling (s.letter i) (t.letter i) (c.steps.letters i l);
    nodes = λ x l. elim (cases_eq x r) [
      | inl p ↦ subst (λ (y : ℕ). Still (s.node y) (t.node y)) (sym p)
          (subst (λ (N : Node). Still (s.node r) N) (sym c.becomes.here) same)
      | inr d ↦ stays_still (s.node x) (t.node x) (c.becomes.others x l d)
    ];
  }
    where
      same : Still (s.node r) (after_acknowledging (s.node r))
      same = record {
        pending = λ m h. false_from_ne_true (undelivered (s.node r) m) (λ k.
            both_ways ((s.node r).pending m) h (has_acknowledged q r m c.steps.in_ring c.steps.alive c.gathering k));
        closing = λ h. h;
        proposed = λ h. h;
        stage = λ h. omega (arith, h);
      }

  -- it cannot close: what it acknowledged does not conflict
  no_close : {A : Type 0} (r a b : ℕ) → Closes z s t r a b → A
  no_close r a b c =
      let l = c.steps.in_ring in
      absurd (both_ways (s.conflict a b) ((o.nodes r l).pending.pending_free a b
      (has_acknowledged q r a l c.steps.alive c.gathering c.one) (has_acknowledged q r b l c.steps.alive c.gathering c.other)) c.conflict)

  -- a closing node cannot propose
  no_propose : {A : Type 0} (r : ℕ) → Proposes z s t r → A
  no_propose r c =
      let l = c.steps.in_ring in
      absurd (grind (
        arith,
        q.no_proposal r l c.steps.alive c.closing c.not_yet,
        c.enough,
        has_the_stage o r l c.closing,
        c.hands_in.first,
      ))

  -- nor settle
  no_settle : {A : Type 0} (r : ℕ) → Settles z s t r → A
  no_settle r c =
      let l = c.steps.in_ring in
      absurd (grind (arith, q.no_settling r l c.steps.alive c.closing c.proposed, c.decided, has_the_stage o r l c.closing))

  -- a letter that is lost is not taken
  lost_only : (i : ℕ) → Loses z s t i → NothingNew z s t
  lost_only i c = record {
    letters = λ l k m. elim (cases_eq l i) [
      | inl p ↦ subst (λ (y : ℕ). (t.letter y).mark ≢ taken) (sym p) (λ h. omega (arith, same_mark c.marks.here, h))
      | inr d ↦ stays_travelling (s.letter l) (t.letter l) (c.marks.others l k d) m
    ];
    nodes = λ r l. stays_still (s.node r) (t.node r) (c.nodes r l);
  }

  -- so no call does anything new
  nothing_new : Call z s t → NothingNew z s t
  nothing_new (broadcasts r c) = all_same c.letters c.nodes
  nothing_new (receives_known i m c) = no_taking i c.takes
  nothing_new (receives_own i m c) = no_taking i c.takes
  nothing_new (relays i m c) = no_taking i c.takes
  nothing_new (hears i c) = no_taking i c.takes
  nothing_new (passes_acknowledgement i c) = no_taking i c.takes
  nothing_new (keeps_check i c) = no_taking i c.takes
  nothing_new (passes_check i c) = no_taking i c.takes
  nothing_new (acknowledges r c) = again r c
  nothing_new (closes r a b c) = no_close r a b c
  nothing_new (proposes r c) = no_propose r c
  nothing_new (settles r c) = no_settle r c
  nothing_new (crashes r c) = all_same c.letters c.nodes
  nothing_new (loses i c) = lost_only i c
  nothing_new (refused e) = all_same (λ i l. ap (λ (u : State). u.letter i) e) (λ r l. ap (λ (u : State). u.node r) e)

-- and the ring is at rest
quiet_rests : {z : Size} {s : State} → Ok z s → Quiet z s → AtRest z s
quiet_rests o q = record {
  enough_ack = q.enough_ack;
  enough_chk = q.enough_chk;
  no_receipt = λ t i c. (nothing_new o q c).letters i;
  no_acknowledgement = λ t r m c l. ((nothing_new o q c).nodes r l).pending m;
  no_closing = λ t r c l. ((nothing_new o q c).nodes r l).closing;
  no_proposal = λ t r c l. ((nothing_new o q c).nodes r l).proposed;
  no_settling = λ t r c l. ((nothing_new o q c).nodes r l).stage;
}

-- so the two are one
pub quiet_is_rest : QuietIsRest
quiet_is_rest z s t d = (quiet_rests (run_ok d), rest_quiet (run_ok d))
