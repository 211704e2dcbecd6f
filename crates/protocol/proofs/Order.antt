-- The order that the decisions fix goes one way, and the quorums see to it that no early delivery goes against it.
use Rattle.std.proofs.Common.{◌≡◌, ℕ, zero, suc, ◌+◌, ◌-◌, ◌<◌, ◌≤◌, true, false, ◌&&◌, sym, ◌∙◌, arith}
use Rattle.std.proofs.lemmas.Bool.{and_from, and_parts}
use Rattle.protocol.specs.Sets.{Set, ◌∈◌, ◌∉◌, count, ◌∩◌}
use Rattle.protocol.specs.Lists.{Before}
use Rattle.protocol.specs.Ring.{Size, State}
use Rattle.protocol.proofs.Facts.{carry, Acknowledged, Checked, past, Tallied, Precedes, earlier, sooner, lower}
use Rattle.protocol.proofs.Invariant.{Ok}
use Rattle.protocol.proofs.Counting.{count_meet, count_mono, quorums_meet_in}

module _ (s : State) where
  -- ---- the past grows with the stage

  -- what a stage decides as nonconflicting is past afterwards
  pub past_first : (j m : ℕ) → m ∈ s.nonconflicting j → m ∈ past s (suc j)
  unfolding past
  past_first j m h = grind (arith, h)

  -- and so is what it decides as conflicting
  pub past_second : (j m : ℕ) → m ∈ s.conflicting j → m ∈ past s (suc j)
  unfolding past
  past_second j m h = grind (arith, h)

  -- what is past stays past
  pub past_more : (j m : ℕ) → m ∈ past s j → m ∈ past s (suc j)
  unfolding past
  past_more j m h = grind (arith, h)

  -- by any number of stages
  up : (j d m : ℕ) → m ∈ past s j → m ∈ past s (d + j)
  up j zero m h = grind arith
  up j (suc d) m h = grind (arith, past_more (d + j) m (up j d m h))

  -- up to any later stage
  pub past_up : (j l m : ℕ) → j ≤ l → m ∈ past s j → m ∈ past s l
  past_up j l m h i = grind (arith, up j (l - j) m i)

  -- ---- the decided order

  -- an order by stages goes against none within a stage
  across : (j l a b : ℕ) → a ∈ past s j → b ∉ past s j → a ∉ past s l → b ∈ past s (suc l) → ⊥
  across j l a b p q u v = grind (arith, past_up (suc l) j b, past_up j l a)

  -- a message is new in one stage only
  one_stage : (j l a : ℕ) → a ∉ past s j → a ∈ past s (suc j) → a ∉ past s l → a ∈ past s (suc l) → j ≡ l
  one_stage j l a p q u v = grind (arith, past_up (suc j) l a, past_up (suc l) j a)

  -- the decided order goes one way
  precedes_one_way : (a b : ℕ) → Precedes s a b → Precedes s b a → ⊥
  precedes_one_way a b (earlier j d p q) (earlier l e u v) = across j l a b p q v (past_more l b u)
  precedes_one_way a b (earlier j d p q) (sooner l e u v w x y) = across j l a b p q v (past_first l b w)
  precedes_one_way a b (earlier j d p q) (lower l e u v w x y z o) = across j l a b p q v (past_second l b y)
  precedes_one_way a b (sooner j d p q p₁ q₁ r) (earlier l e u v) = across l j b a u v q (past_first j a p₁)
  precedes_one_way a b (sooner j d p q p₁ q₁ r) (sooner l e u v w x y) =
      grind (arith, one_stage j l a p (past_first j a p₁) v (past_second l a y))
  precedes_one_way a b (sooner j d p q p₁ q₁ r) (lower l e u v w x y z t) =
      grind (arith, one_stage j l a p (past_first j a p₁) v (past_second l a z))
  precedes_one_way a b (lower j d p q p₁ q₁ r r₁ t) (earlier l e u v) = across l j b a u v q (past_second j a r)
  precedes_one_way a b (lower j d p q p₁ q₁ r r₁ t) (sooner l e u v w x y) =
      grind (arith, one_stage l j b u (past_first l b w) q (past_second j b r₁))
  precedes_one_way a b (lower j d p q p₁ q₁ r r₁ t) (lower l e u v w x y z o) = omega arith

module _ {z : Size} {s : State} (o : Ok z s) where
  -- ---- what the quorums give

  -- a node that acknowledged m in a stage and sent a check of it has m in the check
  in_check : (j m x : ℕ) (T : Set) → Acknowledged s x j m → Checked s x j T → m ∈ T
  in_check j m x T (i, a, h) (l, c, e) = carry m e
      ((o.post.pairs i l a.place c.place).ack_check m (a.sender ∙ sym c.sender) (a.stage ∙ sym c.stage)
      a.kind c.kind h)

  -- what a quorum acknowledged in stage j is in every tally of stage j
  early_in_tally : (j m : ℕ) (H M : Set) → z.ack ≤ count z.n H → ((x : ℕ) → x < z.n → x ∈ H → Acknowledged s x j m)
      → Tallied z s j M → m ∈ M
  early_in_tally j m H M h f t = t.all m (omega (arith, count_meet z.n H t.voters, t.full, z.meet, z.ack_le, more))
    where
      more : count z.n (H ∩ t.voters) ≤ count z.n (λ x. t.voters x && t.votes x m)
      more = count_mono z.n (H ∩ t.voters) (λ x. t.voters x && t.votes x m) (λ x l e.
          let b = and_parts (H x) (t.voters x) e in
          and_from (t.voters x) (t.votes x m) b.1 (in_check j m x (t.votes x) (f x l b.0) (t.cast x l b.1)))

  -- no two messages of a tally conflict: they share a check
  tally_free : (j a b : ℕ) (M : Set) → Tallied z s j M → a ∈ M → b ∈ M → s.conflict a b ≡ false
  tally_free j a b M t p q =
      let m = quorums_meet_in z.n (λ x. t.voters x && t.votes x a) (λ x. t.voters x && t.votes x b) t.voters
      (λ i l e. grind arith) (λ i l e. grind arith)
      (omega (arith, t.most a p, t.most b q, t.full)) in
      let u = and_parts (t.voters m.0) (t.votes m.0 a) m.2 in
      let v = and_parts (t.voters m.0) (t.votes m.0 b) m.3 in
      go m.0 (t.votes m.0) (t.cast m.0 m.1 u.0) u.1 v.1
    where
      go : (x : ℕ) (T : Set) → Checked s x j T → a ∈ T → b ∈ T → s.conflict a b ≡ false
      go x T (i, c, e) h k =
          (o.post.each i c.place).check_free a b c.kind (carry a (sym e) h) (carry b (sym e) k)

  -- the decision of a stage has every message that was delivered early in it
  pub early_decided : (r m : ℕ) → r < z.n → m ∈ (s.node r).early → (s.node r).stage ∈ s.decided
      → m ∈ s.nonconflicting (s.node r).stage
  early_decided r m l h d =
      let j : ℕ = (s.node r).stage in
      let c = o.chooser.chosen j d in
      let e = (o.nodes r l).early in
      carry m (sym c.nonconflicting)
      (early_in_tally j m ((s.node r).heard m) (s.proposal_nonconflicting j c.by) (e.early_heard m h) (e.heard_from m)
      (o.chooser.proposal j c.by c.in_ring c.made).tallied)

  -- no two messages of its nonconflicting part conflict
  pub decided_free : (j a b : ℕ) → j ∈ s.decided → a ∈ s.nonconflicting j → b ∈ s.nonconflicting j → s.conflict a b ≡ false
  decided_free j a b d p q = let c = o.chooser.chosen j d in
      tally_free j a b (s.proposal_nonconflicting j c.by) (o.chooser.proposal j c.by c.in_ring c.made).tallied
      (carry a c.nonconflicting p) (carry b c.nonconflicting q)

  -- no two sheets have two conflicting messages in two orders
  pub no_two_orders : (r x a b : ℕ) → r < z.n → x < z.n → s.conflict a b ≡ true → Before (s.node r).sheet a b
      → Before (s.node x).sheet b a → ⊥
  no_two_orders r x a b l k c p q =
      precedes_one_way s a b ((o.nodes r l).sheet.ordered a b c p)
      ((o.nodes x k).sheet.ordered b a (o.book.both_sides b a ∙ c) q)
