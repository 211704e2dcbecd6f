-- When enough nodes live and nothing can be received or stepped, every live node has delivered everything.
-- The lowest stage of the live nodes cannot be closing, or some live node could go on; so all live nodes gather in
-- one stage, have the same messages, have acknowledged them to one another, and have delivered them.
use Rattle.std.proofs.Common.{◌≡◌, ℕ, suc, ◌<◌, ◌≤◌, true, false, ◌⊎◌, sym, refl, ap, ◌∙◌, subst, inl, inr, arith}
use Rattle.std.proofs.lemmas.Bool.{cases_Bool, cases_lt, both_ways, true_from_ne_false, false_from_ne_true}
use Rattle.protocol.specs.Sets.{◌∈◌, ◌∉◌, count}
use Rattle.protocol.specs.Lists.{Mem}
use Rattle.protocol.specs.Ring.{Size, State, data_letter, acknowledgement, check_letter, taken}
use Rattle.protocol.specs.Promises.{Quiet, DeliveredEverywhere, BroadcastIsDelivered}
use Rattle.protocol.specs.Progress.{Alive}
use Rattle.protocol.proofs.Facts.{carry, Posted, Told, past, Settled, Cause, Copy}
use Rattle.protocol.proofs.Invariant.{TakenBy, Ok}
use Rattle.protocol.proofs.Counting.{count_mono, quorums_meet, lowest}
use Rattle.protocol.proofs.Order.{past_up, past_first, early_decided}
use Rattle.protocol.proofs.Stages.{few_stages}

module _ {z : Size} {s : State} (o : Ok z s) (q : Quiet z s) where
  -- ---- what live nodes send arrives

  -- a letter between live nodes that is not ahead of its receiver is taken
  arrived : (i : ℕ) → i < s.sent → (s.letter i).sender ∈ s.live → (s.letter i).receiver ∈ s.live
      → (s.letter i).stage ≤ (s.node (s.letter i).receiver).stage → (s.letter i).mark ≡ taken
  arrived i l a b h = grind (arith, (o.post.each i l).marks, (o.post.each i l).lost_astray, q.no_receipt i l)

  -- the copy for y of what a live node sent
  record Got (i y : ℕ) : Type 0 where
    copy : Copy s i y
    took : TakenBy z (s.node y) (s.letter copy.l)

  -- it has taken that copy
  got : (i k x j y : ℕ) → Posted s i k x j → x ∈ s.live → Alive z s y → j ≤ (s.node y).stage → Got i y
  got i k x j y p a b h =
      let c = o.post.copies i y p.place b.0 in
      let mark : (s.letter c.l).mark ≡ taken = arrived c.l c.place
      (subst (λ (v : ℕ). v ∈ s.live) (sym (c.sender ∙ p.sender)) a) (subst (λ (v : ℕ). v ∈ s.live) (sym c.receiver) b.1)
      (subst (λ (v : ℕ). (s.letter c.l).stage ≤ (s.node v).stage) (sym c.receiver)
      (subst (λ (v : ℕ). v ≤ (s.node y).stage) (sym (c.stage ∙ p.stage)) h)) in
      record { copy = c; took = (o.nodes y b.0).taken_letters c.l c.place c.receiver mark }

  -- what a live node told, every live node has received
  got_data : (x y m : ℕ) → Told s x m → x ∈ s.live → Alive z s y → m ∈ (s.node y).received
  got_data x y m (i, p, h) a b =
      let g = got i data_letter x 0 y p a b (omega arith) in
      g.took.data_in m (g.copy.kind ∙ p.kind) (carry m (sym g.copy.set) h)

  -- live nodes have received the same messages
  same_received : (x y m : ℕ) → Alive z s x → Alive z s y → m ∈ (s.node x).received → m ∈ (s.node y).received
  same_received x y m a b h = got_data x y m ((o.nodes x a.0).pending.received_told m h) a.1 b

  -- a gathering live node has heard what live nodes of its stage acknowledged
  got_ack : (x y m : ℕ) → Alive z s x → Alive z s y → (s.node x).stage ≡ (s.node y).stage → (s.node y).closing ≡ false
      → m ∈ (s.node x).pending → x ∈ (s.node y).heard m
  got_ack x y m a b e c h =
      let p = (o.nodes x a.0).pending.pending_sent m h in
      let g = got p.0 acknowledgement x (s.node x).stage y p.1 a.1 b (omega (arith, e)) in
      subst (λ (v : ℕ). v ∈ (s.node y).heard m) (g.copy.sender ∙ p.1.sender)
      (g.took.ack_in m (g.copy.kind ∙ p.1.kind) (g.copy.stage ∙ p.1.stage ∙ e) c
      (carry m (sym g.copy.set) p.2))

  -- a live node keeps the check of a live node of its stage, or enough others
  got_check : (i x y : ℕ) → Posted s i check_letter x (s.node y).stage → Alive z s x → Alive z s y
      → (x ∈ (s.node y).kept) ⊎ (z.chk ≤ count z.n (s.node y).kept)
  got_check i x y p a b =
      let g = got i check_letter x (s.node y).stage y p a.1 b (omega arith) in
      subst (λ (v : ℕ). (v ∈ (s.node y).kept) ⊎ (z.chk ≤ count z.n (s.node y).kept)) (g.copy.sender ∙ p.sender)
      (g.took.check_in (g.copy.kind ∙ p.kind) (g.copy.stage ∙ p.stage))

  -- ---- the lowest stage K of the live nodes
  module _ (K : ℕ) (low : (y : ℕ) → Alive z s y → K ≤ (s.node y).stage) (one : ℕ) (one-alive : Alive z s one)
      (one_stage : (s.node one).stage ≡ K) where
    -- stages count from 1
    KFirst : 1 ≤ K
    KFirst = subst (λ (j : ℕ). 1 ≤ j) one_stage (o.nodes one one-alive.0).stage.first

    -- all earlier stages are decided
    KSettled : Settled s K
    KSettled = subst (λ (j : ℕ). Settled s j) one_stage (o.nodes one one-alive.0).stage.settled

    -- a live node of that stage delivered the past
    delivered_low : (y m : ℕ) → Alive z s y → (s.node y).stage ≡ K → (s.node y).delivered m ≡ past s K m
    delivered_low y m a e = (o.nodes y a.0).stage.delivered_is m ∙ ap (λ (j : ℕ). past s j m) e

    -- ---- suppose that a live node x sent a check of stage K
    module _ (x : ℕ) (x-alive : Alive z s x) (i : ℕ) (sent : Posted s i check_letter x K) where
      -- x had a cause to close it
      cause : Cause s K (s.node x).received
      cause = subst (λ (j : ℕ). Cause s j (s.node x).received) sent.stage
          (((o.nodes x x-alive.0).sent_letters i sent.place sent.sender).check_cause sent.kind)

      -- so it is one of the first 32 stages
      served : K ≤ 32
      served = omega (
        arith,
        o.book.messages_le,
        few_stages o K (s.node x).received KFirst KSettled cause (o.nodes x x-alive.0).pending.received_known,
      )

      -- then every live node of stage K is closing, since it has received two messages that conflict
      closes : (y : ℕ) → Alive z s y → (s.node y).stage ≡ K → (s.node y).closing ≡ true
      closes y a e = true_from_ne_false (s.node y).closing not_open
        where
          acked : (s.node y).closing ≡ false → (m : ℕ) → m ∈ (s.node x).received → m ∉ past s K → m ∈ (s.node y).pending
          acked f m h n = q.no_gathering y m a.0 a.1 f (same_received x y m x-alive a h) (delivered_low y m a e ∙ n)

          not_open : (s.node y).closing ≡ false → ⊥
          not_open f = both_ways (s.conflict cause.a cause.b)
              ((o.nodes y a.0).pending.pending_free cause.a cause.b (acked f cause.a cause.a_in cause.a_new)
              (acked f cause.b cause.b_in cause.b_new)) cause.conflict

      -- so every live node sent a check of stage K
      all_checked : (y : ℕ) → Alive z s y → (l : ℕ) × Posted s l check_letter y K
      all_checked y a = elim (cases_lt K (s.node y).stage) [
        | inl h ↦ (o.nodes y a.0).closing.closed K KFirst (inl h)
        | inr h ↦ (o.nodes y a.0).closing.closed K KFirst (inr (sym (same h), closes y a (same h)))
      ]
        where
          same : (s.node y).stage ≤ K → (s.node y).stage ≡ K
          same h = omega (arith, low y a)

      -- each keeps enough of them
      enough_kept : (y : ℕ) → Alive z s y → (s.node y).stage ≡ K → z.chk ≤ count z.n (s.node y).kept
      enough_kept y a e = elim (cases_lt (count z.n (s.node y).kept) z.chk) [
        | inl h ↦ omega (arith, q.enough_chk, count_mono z.n s.live (s.node y).kept (each h))
        | inr h ↦ h
      ]
        where
          each : count z.n (s.node y).kept < z.chk → (v : ℕ) → v < z.n → v ∈ s.live → v ∈ (s.node y).kept
          each h v l k = let c = all_checked v (l, k) in
              grind (arith, got_check c.0 v y (subst (λ (j : ℕ). Posted s c.0 check_letter v j) (sym e) c.1) (l, k) a)

      -- and has proposed
      proposed : (y : ℕ) → Alive z s y → (s.node y).stage ≡ K → (s.node y).proposed ≡ true
      proposed y a e = grind (
        arith,
        q.no_proposal y a.0 a.1 (closes y a e),
        enough_kept y a e,
        served,
        (o.nodes y a.0).closing.proposed_when (s.node y).stage,
      )

      -- so the stage is undecided, or one of them could settle it
      undecided : K ∉ s.decided
      undecided =
          let shut = closes one one-alive one_stage in
          let asked = proposed one one-alive one_stage in
          grind (arith, q.no_settling one one-alive.0 one-alive.1 shut asked, served, one_stage)

      -- so no live node is beyond it
      level : (y : ℕ) → Alive z s y → (s.node y).stage ≡ K
      level y a = grind (arith, low y a, undecided, (o.nodes y a.0).stage.settled K KFirst)

      -- but enough nodes have proposed in it
      impossible : ⊥
      impossible = both_ways (s.decided K) undecided
          (o.chooser.decides K (omega (arith, z.need_le, q.enough_chk, count_mono z.n s.live (s.proposers K) each)))
        where
          each : (y : ℕ) → y < z.n → y ∈ s.live → y ∈ s.proposers K
          each y l v = subst (λ (j : ℕ). y ∈ s.proposers j) (level y (l, v))
              ((o.nodes y l).closing.proposed_stands (proposed y (l, v) (level y (l, v))))

    -- ---- so all live nodes gather in stage K

    -- all are in stage K
    stage_is : (y : ℕ) → Alive z s y → (s.node y).stage ≡ K
    stage_is y a = elim (cases_lt K (s.node y).stage) [
      | inl h ↦ absurd (let c = (o.nodes y a.0).closing.closed K KFirst (inl h) in impossible y a c.0 c.1)
      | inr h ↦ omega (arith, low y a)
    ]

    -- and none is closing
    gathers : (y : ℕ) → Alive z s y → (s.node y).closing ≡ false
    gathers y a = false_from_ne_true (s.node y).closing (λ t.
        let c = (o.nodes y a.0).closing.closed K KFirst (inr (sym (stage_is y a), t)) in impossible y a c.0 c.1)

    -- stage K is undecided: a decision rests on the check of some live node
    open_stage : K ∈ s.decided → ⊥
    open_stage d =
        let c = o.chooser.chosen K d in
        let t = (o.chooser.proposal K c.by c.in_ring c.made).tallied in
        let m = quorums_meet z.n s.live t.voters (omega (arith, t.full, q.enough_ack, z.meet, z.ack_le)) in
        let w = t.cast m.0 m.1 m.3 in
        impossible m.0 (m.1, m.2) w.0 w.1

    -- so no node, live or crashed, is beyond it
    not_beyond : (x : ℕ) → x < z.n → (s.node x).stage ≤ K
    not_beyond x l = grind (arith, open_stage, (o.nodes x l).stage.settled K KFirst)

    -- ---- and have delivered everything

    -- a live node has delivered the past
    has_past : (y m : ℕ) → Alive z s y → m ∈ past s K → Mem m (s.node y).sheet
    has_past y m a h = (o.nodes y a.0).sheet.has_delivered m (delivered_low y m a (stage_is y a) ∙ h)

    -- a live node has delivered what it has received: all live nodes acknowledged it
    has_received : (y m : ℕ) → Alive z s y → m ∈ (s.node y).received → Mem m (s.node y).sheet
    has_received y m a h = grind (
      arith,
      cases_Bool ((s.node y).delivered m),
      (o.nodes y a.0).sheet.has_delivered m,
      (o.nodes y a.0).sheet.has_early m,
      (o.nodes y a.0).early.heard_early m (gathers y a),
      quorum,
    )
      where
        each : m ∉ (s.node y).delivered → (v : ℕ) → v < z.n → v ∈ s.live → v ∈ (s.node y).heard m
        each n v l k = got_ack v y m (l, k) a (stage_is v (l, k) ∙ sym (stage_is y a)) (gathers y a)
            (q.no_gathering v m l k (gathers v (l, k)) (same_received y v m a (l, k) h)
            (delivered_low v m (l, k) (stage_is v (l, k)) ∙ sym (delivered_low y m a (stage_is y a)) ∙ n))

        quorum : m ∉ (s.node y).delivered → z.ack ≤ count z.n ((s.node y).heard m)
        quorum n = omega (arith, q.enough_ack, count_mono z.n s.live ((s.node y).heard m) (each n))

    -- what any node, live or crashed, delivered early in stage K was acknowledged by a live node
    has_early : (x m y : ℕ) → x < z.n → Alive z s y → (s.node x).stage ≡ K → m ∈ (s.node x).early → Mem m (s.node y).sheet
    has_early x m y l a e h =
        let n = (o.nodes x l).early in
        let c = quorums_meet z.n ((s.node x).heard m) s.live
        (omega (arith, n.early_heard m h, q.enough_ack, z.meet, z.chk_le)) in
        let w = n.heard_from m c.0 c.1 c.2 in
        let v : Alive z s c.0 = (c.1, c.3) in
        let p = ((o.nodes c.0 c.1).sent_letters w.0 w.1.place w.1.sender).ack_pending m w.1.kind
        (w.1.stage ∙ e ∙ sym (stage_is c.0 v)) w.2 in
        has_received y m a (same_received c.0 y m v a ((o.nodes c.0 c.1).pending.pending_received m p))

    -- a live node has delivered what any node delivered
    has_all : (x m y : ℕ) → x < z.n → Alive z s y → Mem m (s.node x).sheet → Mem m (s.node y).sheet
    has_all x m y l a h = let k = o.nodes x l in elim (k.sheet.has m h) [
      | inl g ↦ has_past y m a (past_up s (s.node x).stage K m (not_beyond x l) (sym (k.stage.delivered_is m) ∙ g))
      | inr g ↦ elim (cases_lt (s.node x).stage K) [
        | inl b ↦ has_past y m a (past_up s (suc (s.node x).stage) K m b
            (past_first s (s.node x).stage m (early_decided o x m l g (KSettled (s.node x).stage k.stage.first b))))
        | inr b ↦ has_early x m y l a (omega (arith, not_beyond x l)) g
      ]
    ]

  -- ---- the two promises, at the live node of the lowest stage

  -- what any node delivered
  pub everywhere : DeliveredEverywhere z s
  everywhere x y m l k v h =
      let w = lowest z.n s.live (λ x. (s.node x).stage) (omega (arith, q.enough_ack, z.meet, z.chk_le)) in
      let low : (y : ℕ) → Alive z s y → (s.node w.0).stage ≤ (s.node y).stage = λ y a. w.3 y a.0 a.1 in
      -- a live node has delivered what any node delivered
      has_all (s.node w.0).stage low w.0 (w.1, w.2) refl x m y l (k, v) h

  -- what any live node broadcast
  pub delivered : BroadcastIsDelivered z s
  delivered m y l v k u =
      let w = lowest z.n s.live (λ x. (s.node x).stage) (omega (arith, q.enough_ack, z.meet, z.chk_le)) in
      let low : (y : ℕ) → Alive z s y → (s.node w.0).stage ≤ (s.node y).stage = λ y a. w.3 y a.0 a.1 in
      has_received (s.node w.0).stage low w.0 (w.1, w.2) refl y m (k, u)
      (got_data (s.broadcaster m) y m (o.book.told m l) v (k, u))
