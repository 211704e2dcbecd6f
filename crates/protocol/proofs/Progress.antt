-- Every run can go on: where a state allows a call, there is one. The calls are those that are written as functions.
use Rattle.std.proofs.Common.{◌≡◌, ℕ, ◌<◌, ◌≤◌, true, false, not, ◌&&◌, eqb, ltb, leb, ◌⊎◌, refl, ap, ◌∙◌, inl, inr, arith}
use Rattle.std.proofs.lemmas.Bool.{cases_Bool, cases_eq, cases_lt, and_from, and_parts, and_right}
use Rattle.std.proofs.lemmas.Bool.{not_from_true, not_from_false, false_from_ne_true, eq-eqb, ne_eqb, lt-ltb, ltb-true, le-leb}
use Rattle.protocol.specs.Sets.{Set, ◌∈◌, count, only}
use Rattle.protocol.specs.Ring.{Size, State, Node, Letter, data_letter, acknowledgement, check_letter, travelling, taken, lost}
use Rattle.protocol.specs.Setters.{with_closing, with_proposed}
use Rattle.protocol.specs.Nodes.{undelivered, after_acknowledging, after_settling}
use Rattle.protocol.specs.Calls.{marked, new_letter, taker}
use Rattle.protocol.specs.Runs.{Call}
use Rattle.protocol.specs.Progress.{Can, Alive, CanBroadcast, CanReceive, CanGather, CanPropose, CanSettle, CanCrash, CanLose}
use Rattle.protocol.specs.Progress.{RunsCanGoOn}
use Rattle.protocol.proofs.Invariant.{Ok}
use Rattle.protocol.proofs.Counting.{count_one, count_some}
use Rattle.protocol.proofs.Acknowledging.{undelivered_parts}
use Rattle.protocol.proofs.Running.{run_ok}
use Rattle.protocol.proofs.Promises.{awaits_the_proposal}
use Rattle.protocol.proofs.Playing.{update_here, append_old, ready, took, own_data, plays_own, relayed, plays_relay, heard_one}
use Rattle.protocol.proofs.Playing.{plays_hear, kept_one, plays_keep, passed_over, plays_known, plays_pass_acknowledgement}
use Rattle.protocol.proofs.Playing.{plays_pass_check}
use Rattle.protocol.proofs.PlayingSteps.{able, broadcast_by, plays_broadcast, acknowledged, plays_acknowledge, closed}
use Rattle.protocol.proofs.PlayingSteps.{plays_close, settled, plays_settle}
use Rattle.protocol.proofs.PlayingProposals.{proposed_by, plays_propose}
use Rattle.protocol.proofs.PlayingFailures.{crashed, plays_crash, lost_one, plays_loss}

-- ---- receiving

module _ (z : Size) (s : State) (i : ℕ) (place : i < s.sent) (travels : (s.letter i).mark ≡ travelling)
    (alive : (s.letter i).receiver ∈ s.live) (not_ahead : (s.letter i).stage ≤ (taker s i).stage) where
  -- the letter is taken
  abbrev Received : Type 0
  Received = Can z s (λ t. (t.letter i).mark ≡ taken)

  -- it may be taken
  is_ready : ready s i ≡ true
  is_ready =
      and_from (ltb i s.sent && eqb (s.letter i).mark travelling)
      (s.live (s.letter i).receiver && leb (s.letter i).stage (taker s i).stage)
      (and_from (ltb i s.sent) (eqb (s.letter i).mark travelling) (lt-ltb i s.sent place)
      (eq-eqb (s.letter i).mark travelling travels))
      (and_from (s.live (s.letter i).receiver) (leb (s.letter i).stage (taker s i).stage) alive
      (le-leb (s.letter i).stage (taker s i).stage not_ahead))

  -- and then has its mark
  taken_here : (took s i i).mark ≡ taken
  taken_here = ap (λ (L : Letter). L.mark) (update_here s.letter i (marked (s.letter i) taken))

  -- it may be passed over
  over : Call z s (passed_over i s) → Received
  over c = (passed_over i s, c, taken_here)

  -- data
  of_data : (s.letter i).kind ≡ data_letter → (m : ℕ) → (s.letter i).set ≡ only m → Received
  of_data k m e = elim (cases_Bool ((taker s i).received m)) [
    | inl h ↦ over (plays_known z s i m (grind (arith, is_ready, eq-eqb (s.letter i).kind data_letter k, h)) e)
    | inr h ↦ elim (cases_eq (s.broadcaster m) (s.letter i).receiver) [
      | inl p ↦ (
        own_data i m s,
        plays_own z s i m (grind (
          arith,
          is_ready,
          eq-eqb (s.letter i).kind data_letter k,
          h,
          eq-eqb (s.broadcaster m) (s.letter i).receiver p,
        )) e,
        taken_here,
      )
      | inr d ↦ (
        relayed z i m s,
        plays_relay z s i m (grind (
          arith,
          is_ready,
          eq-eqb (s.letter i).kind data_letter k,
          h,
          ne_eqb (s.broadcaster m) (s.letter i).receiver d,
        )) e,
        ap (λ (L : Letter). L.mark)
            (append_old s.sent (took s i) (λ y. new_letter (s.letter i).receiver y data_letter 0 (only m)) i place)
            ∙ taken_here,
      )
    ]
  ]

  -- an acknowledgement
  of_acknowledgement : (s.letter i).kind ≡ acknowledgement → Received
  of_acknowledgement k = elim (cases_Bool (taker s i).closing) [
    | inl h ↦ over (plays_pass_acknowledgement z s i test (inr h))
    | inr h ↦ elim (cases_lt (s.letter i).stage (taker s i).stage) [
      | inl l ↦ over (plays_pass_acknowledgement z s i test (inl l))
      | inr g ↦ (
        heard_one z i s,
        plays_hear z s i (grind (
          arith,
          is_ready,
          eq-eqb (s.letter i).kind acknowledgement k,
          eq-eqb (s.letter i).stage (taker s i).stage (omega (arith, g, not_ahead)),
          h,
        )),
        taken_here,
      )
    ]
  ]
    where
      test : (ready s i && eqb (s.letter i).kind acknowledgement) ≡ true
      test = and_from (ready s i) (eqb (s.letter i).kind acknowledgement) is_ready (eq-eqb (s.letter i).kind acknowledgement k)

  -- a check
  of_check : (s.letter i).kind ≡ check_letter → Received
  of_check k = elim (cases_lt (s.letter i).stage (taker s i).stage) [
    | inl l ↦ over (plays_pass_check z s i test (inl l))
    | inr g ↦ elim (cases_lt (count z.n (taker s i).kept) z.chk) [
      | inr m ↦ over (plays_pass_check z s i test (inr (inl m)))
      | inl f ↦ elim (cases_Bool ((taker s i).kept (s.letter i).sender)) [
        | inl h ↦ over (plays_pass_check z s i test (inr (inr h)))
        | inr h ↦ (
          kept_one i s,
          plays_keep z s i (grind (
            arith,
            is_ready,
            eq-eqb (s.letter i).kind check_letter k,
            eq-eqb (s.letter i).stage (taker s i).stage (omega (arith, g, not_ahead)),
            lt-ltb (count z.n (taker s i).kept) z.chk f,
            h,
          )),
          taken_here,
        )
      ]
    ]
  ]
    where
      test : (ready s i && eqb (s.letter i).kind check_letter) ≡ true
      test = and_from (ready s i) (eqb (s.letter i).kind check_letter) is_ready (eq-eqb (s.letter i).kind check_letter k)

-- ---- a conflict in a set

-- two members of S that conflict
abbrev Clash : State → Set → Type 0
Clash s S = (a b : ℕ) × (a ∈ S) × (b ∈ S) × (s.conflict a b ≡ true)

-- there are two such members below n, or none
clash_or_none : (s : State) (n : ℕ) (S : Set)
    → Clash s S ⊎ ((a b : ℕ) → a < n → b < n → a ∈ S → b ∈ S → s.conflict a b ≡ false)
clash_or_none s n S = elim (cases_lt 0 (count n clashing)) [
  | inl h ↦ inl (
      let w = count_one n clashing h in
      let p = and_parts (S w.0) (ltb 0 (count n (against w.0))) w.2 in
      let v = count_one n (against w.0) (ltb-true 0 (count n (against w.0)) p.1) in
      let q = and_parts (S v.0) (s.conflict w.0 v.0) v.2 in
      (w.0, v.0, p.0, q.0, q.1)
      )
  | inr h ↦ inr (λ a b k l p q. false_from_ne_true (s.conflict a b) (λ c.
      let more = count_some n (against a) b l (and_from (S b) (s.conflict a b) q c) in
      let one = count_some n clashing a k
      (and_from (S a) (ltb 0 (count n (against a))) p (lt-ltb 0 (count n (against a)) more)) in
      omega (arith, h, one)))
]
  where
    against : ℕ → Set
    against a b = S b && s.conflict a b

    clashing : Set
    clashing a = S a && ltb 0 (count n (against a))

-- ---- what a state of a run allows

module _ {z : Size} {s : State} (o : Ok z s) where
  -- a live node may act
  able_now : (r : ℕ) → Alive z s r → able z s r ≡ true
  able_now r (l, a) = and_from (ltb r z.n) (s.live r) (lt-ltb r z.n l) a

  -- broadcasting
  can_broadcast : CanBroadcast z s
  can_broadcast r a l = (
    broadcast_by z r s,
    plays_broadcast z s r (and_from (able z s r) (ltb s.messages 64) (able_now r a) (lt-ltb s.messages 64 l))
        o.book.both_sides o.book.not_itself,
    refl,
  )

  -- receiving: a letter is of one of the three kinds
  pub can_receive : CanReceive z s
  can_receive i l t a n = let u = (o.post.each i l).unspoilt in elim u.kinds [
    | inl k ↦ (let d = u.data_one k in of_data z s i l t a n k d.0 d.1)
    | inr (inl k) ↦ of_acknowledgement z s i l t a n k
    | inr (inr k) ↦ of_check z s i l t a n k
  ]

  -- gathering
  pub can_gather : CanGather z s
  can_gather r a g = elim (clash_or_none s s.messages (undelivered (s.node r))) [
    | inl (x, y, p, q, c) ↦ (
      closed z r s,
      plays_close z s r x y (grind (arith, able_now r a, g, p, q, c)),
      inr (ap (λ (N : Node). N.closing) (update_here s.node r (with_closing (s.node r)))),
    )
    | inr f ↦ (
      acknowledged z r s,
      plays_acknowledge z s r (and_from (able z s r) (not (s.node r).closing) (able_now r a)
          (not_from_false (s.node r).closing g))
          (λ x y p q. f x y (known x p) (known y q) p q),
      inl (λ m h. ap (λ (N : Node). N.pending m) (update_here s.node r (after_acknowledging (s.node r))) ∙ h),
    )
  ]
    where
      known : (m : ℕ) → m ∈ undelivered (s.node r) → m < s.messages
      known m h = (o.nodes r a.0).pending.received_known m (undelivered_parts (s.node r) m h).0

  -- proposing
  pub can_propose : CanPropose z s
  can_propose r a c p k = (
    proposed_by z r s,
    plays_propose z s r (grind (arith, able_now r a, c, p, le-leb z.chk (count z.n (s.node r).kept) k))
        (awaits_the_proposal o r a.0 p) o.chooser.chosen o.chooser.decides,
    ap (λ (N : Node). N.proposed) (update_here s.node r (with_proposed (s.node r))),
  )

  -- settling
  pub can_settle : CanSettle z s
  can_settle r a c p d = (
    settled r s,
    plays_settle z s r (grind (arith, able_now r a, c, p, d)),
    ap (λ (N : Node). N.stage) (update_here s.node r
        (after_settling (s.nonconflicting (s.node r).stage) (s.conflicting (s.node r).stage) (s.node r))),
  )

  -- crashing
  can_crash : CanCrash z s
  can_crash r a = (
    crashed r s,
    plays_crash z s r (able_now r a),
    and_right (s.live r) (not (eqb r r)) (not_from_true (eqb r r) (eq-eqb r r refl)),
  )

  -- losing
  can_lose : CanLose z s
  can_lose i l t c = (
    lost_one i s,
    plays_loss z s i (grind (arith, lt-ltb i s.sent l, eq-eqb (s.letter i).mark travelling t, c)),
    ap (λ (L : Letter). L.mark) (update_here s.letter i (marked (s.letter i) lost)),
  )

-- so every run can go on
pub runs_can_go_on : RunsCanGoOn
runs_can_go_on z s t d = let o = run_ok d in record {
  can_broadcast = can_broadcast o;
  can_receive = can_receive o;
  can_gather = can_gather o;
  can_propose = can_propose o;
  can_settle = can_settle o;
  can_crash = can_crash o;
  can_lose = can_lose o;
}
