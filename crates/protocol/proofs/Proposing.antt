-- A closing node that keeps enough checks proposes.
use Rattle.std.proofs.Common.{◌≡◌, ℕ, ◌/◌, ◌<◌, Bool, true, ◌&&◌, ◌||◌, ◌⊎◌, sym, refl, ap, ◌∙◌, subst, inl, inr, arith}
use Rattle.std.proofs.lemmas.Bool.{cases_Bool, or_cases, and_parts, ltb-true, lt-ltb}
use Rattle.protocol.specs.Sets.{Set, ◌∈◌, ◌∖◌, ◌∪◌}
use Rattle.protocol.specs.Ring.{Size, State, Node}
use Rattle.protocol.specs.Setters.{with_proposed}
use Rattle.protocol.specs.Nodes.{undelivered, tally}
use Rattle.protocol.specs.Calls.{Proposes}
use Rattle.protocol.proofs.Facts.{cause_in, carry, Tallied, Cause}
use Rattle.protocol.proofs.Invariant.{ClosingOk, NodeOk, ChooserOk, ProposalOk, Ok}
use Rattle.protocol.proofs.Continuing.{Continues, posted_up, cause_up, proposal_up, stage_up, pending_up, early_up}
use Rattle.protocol.proofs.Continuing.{checks_up, sheet_up}
use Rattle.protocol.proofs.Mail.{Mail, mail_words, mail_sent, mail_taken, mail_none, none_came, post_keeps, NoTurn, NoCome}
use Rattle.protocol.proofs.Acting.{live_same, book_keeps, acts}
use Rattle.protocol.proofs.Counting.{SomeIn, count_one}
use Rattle.protocol.proofs.Acknowledging.{undelivered_parts, undelivered_from}

-- a closing node sent a check of its stage, so it has a cause to close
pub closing_cause : {z : Size} {s : State} {r : ℕ} {N : Node} → NodeOk z s r N → N.closing ≡ true → Cause s N.stage
    N.received
closing_cause {s = s} {N = N} ok c =
    let w = ok.closing.closed N.stage ok.stage.first (inr (refl, c)) in
    subst (λ (j : ℕ). Cause s j N.received) w.1.stage
    ((ok.sent_letters w.0 w.1.place w.1.sender).check_cause w.1.kind)

module _ {z : Size} {s t : State} (r : ℕ) (o : Ok z s) (c : Proposes z s t r) where
  -- the node before the call
  abbrev N : Node
  N = s.node r

  -- the node after the call
  abbrev N' : Node
  N' = with_proposed (s.node r)

  -- what it proposes
  abbrev V : Set
  V = tally z (s.node r)

  -- and what as conflicting
  abbrev D : Set
  D = undelivered (s.node r) ∖ tally z (s.node r)

  -- what holds of the node before
  ok : NodeOk z s r N
  ok = o.nodes r c.steps.in_ring

  -- the letters over the call
  mail : Mail z s t NoTurn NoCome
  mail = mail_none c.silent c.steps.letters

  -- stage 0 is not the stage that is proposed in
  settled_or_other : (j : ℕ) → (j ≡ 0) ⊎ (j ∈ s.decided) → (j ∈ s.decided) ⊎ (j ≡ N.stage → ⊥)
  settled_or_other j (inl p) = inr (λ q. omega (arith, p, q, ok.stage.first))
  settled_or_other j (inr p) = inl p

  -- the new state continues the old one
  e : Continues s t
  e = record {
    sent_le = mail.sent_le;
    words = mail_words mail;
    messages_le = omega (arith, c.steps.book.messages);
    conflict = λ x y p q. ap (λ (f : ℕ → ℕ → Bool). f x y) c.steps.book.conflict;
    decided = c.hands_in.decisions_kept;
    nonconflicting = λ j h. c.hands_in.first_kept j (settled_or_other j h);
    conflicting = λ j h. c.hands_in.second_kept j (settled_or_other j h);
    proposers = c.hands_in.kept;
    live = live_same s t c.steps.live;
  }

  -- ---- the new proposal

  -- the nonconflicting part is tallied from the checks that it keeps
  tallied : Tallied z t N.stage V
  tallied = record {
    voters = N.kept;
    votes = N.check;
    full = omega (arith, c.enough, ok.checks.kept_few);
    cast = (checks_up e ok.checks).kept_from;
    most = λ m h. ltb-true (z.chk / 2) _ h;
    all = λ m h. lt-ltb (z.chk / 2) _ h;
  }

  -- what is received and new is proposed
  in_pair : (m : ℕ) → m ∈ undelivered N → m ∈ (V ∪ D)
  in_pair m h = grind (arith, cases_Bool (V m))

  -- its cause to close is among what it proposes
  cause : Cause t N.stage (V ∪ D)
  cause = let w = closing_cause ok c.closing in
      cause_up e (undelivered N) (λ m. V m || D m) ok.stage.settled
      (λ m h. ok.pending.received_known m (undelivered_parts N m h).0) in_pair
      (cause_in N.received (undelivered N) (λ m h n. undelivered_from N m h (ok.stage.delivered_is m ∙ n)) w)

  -- what a kept check has was broadcast
  in_check : (m : ℕ) → SomeIn z.n (λ x. N.kept x && N.check x m) → m < t.messages
  in_check m (x, l, h) =
      let p = and_parts (N.kept x) (N.check x m) h in
      let k = ok.checks.kept_from x l p.0 in
      omega (arith, e.messages_le, (o.post.each k.0 k.1.place).unspoilt.known m (carry m (sym k.2) p.1))

  -- what it proposes was broadcast: a tallied message is in some check
  known : (m : ℕ) → m ∈ (V ∪ D) → m < t.messages
  known m h = elim (or_cases (V m) (D m) h) [
    | inl v ↦ in_check m (count_one z.n (λ x. N.kept x && N.check x m) (grind (arith, v)))
    | inr d ↦ (pending_up e ok.pending).received_known m (grind (arith, d))
  ]

  -- ---- the chooser: each proposal is an old one or this one

  -- every proposal is good
  proposal : (j x : ℕ) → x < z.n → (x ∈ s.proposers j) ⊎ ((j ≡ N.stage) × (x ≡ r))
      → ProposalOk z t j (t.proposal_nonconflicting j x) (t.proposal_conflicting j x)
  proposal j x l (inl h) =
      subst (λ (M : Set). ProposalOk z t j M (t.proposal_conflicting j x)) (sym (c.hands_in.nonconflicting_kept j x h))
      (subst (λ (M : Set). ProposalOk z t j (s.proposal_nonconflicting j x) M) (sym (c.hands_in.conflicting_kept j x h))
      (proposal_up e (o.chooser.proposal j x l h)))
  proposal j x l (inr (p, q)) =
      subst (λ (i : ℕ). ProposalOk z t i (t.proposal_nonconflicting i x) (t.proposal_conflicting i x)) (sym p)
      (subst (λ (y : ℕ). ProposalOk z t N.stage (t.proposal_nonconflicting N.stage y)
      (t.proposal_conflicting N.stage y)) (sym q)
      (subst (λ (M : Set). ProposalOk z t N.stage M (t.proposal_conflicting N.stage r))
      (sym c.hands_in.nonconflicting_is)
      (subst (λ (M : Set). ProposalOk z t N.stage V M) (sym c.hands_in.conflicting_is)
      (record { tallied = tallied; settled = (stage_up e ok.stage).settled; cause = cause; known = known }))))

  -- the part on the chooser
  chooser : ChooserOk z t
  chooser = record {
    proposer_in = λ j x h. grind (arith, c.hands_in.no_other j x h, o.chooser.proposer_in j x, c.steps.in_ring);
    proposal = λ j x l h. proposal j x l (c.hands_in.no_other j x h);
    chosen = c.hands_in.chosen;
    decides = c.hands_in.decides;
  }

  -- ---- the whole

  -- it stands among the proposers now
  closing : ClosingOk t r N.stage N.closing true
  closing = record {
    closed = λ j l h. let w = ok.closing.closed j l h in (w.0, posted_up e w.1);
    proposed_when = λ j h. grind (arith, c.hands_in.no_other j r h, ok.closing.proposed_when j, c.closing);
    proposed_stands = λ h. c.hands_in.stands;
  }

  -- what holds of the node afterwards
  node_ok : NodeOk z t r N'
  node_ok = record {
    stage = stage_up e ok.stage;
    pending = pending_up e ok.pending;
    early = early_up e ok.early;
    checks = checks_up e ok.checks;
    closing = closing;
    sheet = sheet_up e ok.sheet;
    sent_letters = mail_sent mail e r N N' ok (λ L h. h) (λ L h. absurd h);
    taken_letters = mail_taken mail e r N N' ok (λ L h. h) (λ A B h. absurd h);
  }

  -- the call keeps the invariant
  pub proposes_ok : Ok z t
  proposes_ok = record {
    book = book_keeps e c.steps.book o.book;
    post = post_keeps mail e o.post (λ A B h. absurd h) none_came (λ L B h. absurd h) (λ L i h. absurd h);
    chooser = chooser;
    nodes = acts o e mail r N' c.becomes node_ok
        (λ x j d h. grind (arith, c.hands_in.no_other j x h, d)) (λ L h. absurd h)
        (λ A B h. absurd h);
  }
