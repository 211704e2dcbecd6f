-- A gathering node with two conflicting messages sends its check and closes its stage.
use Rattle.std.proofs.Common.{◌≡◌, ℕ, ◌<◌, Bool, true, sym, refl, ap, ◌∙◌, subst, inl, inr, arith}
use Rattle.std.proofs.lemmas.Bool.{true≢false}
use Rattle.protocol.specs.Sets.{◌∈◌}
use Rattle.protocol.specs.Ring.{Size, State, Node, Letter, check_letter}
use Rattle.protocol.specs.Setters.{with_closing}
use Rattle.protocol.specs.Calls.{Closes}
use Rattle.protocol.proofs.Facts.{same_kind, same_sender, same_set, same_stage, carry, Posted, Cause}
use Rattle.protocol.proofs.Invariant.{EarlyOk, ClosingOk, SentBy, TakenBy, NodeOk, LetterOk, PairOk, Ok}
use Rattle.protocol.proofs.Continuing.{Continues, stage_up, pending_up, early_up, checks_up, closing_up, sheet_up}
use Rattle.protocol.proofs.Mail.{Mail, mail_sent, mail_taken, mail_sends, post_keeps, sent_own, NoTurn, SentNew}
use Rattle.protocol.proofs.Acting.{live_same, proposers_same, continues_same, book_keeps, chooser_keeps, acts}
use Rattle.protocol.proofs.Acknowledging.{undelivered_parts}

module _ {z : Size} {s t : State} (r a b : ℕ) (o : Ok z s) (c : Closes z s t r a b) where
  -- the node before the call
  abbrev N : Node
  N = s.node r

  -- the node after the call
  abbrev N' : Node
  N' = with_closing (s.node r)

  -- the letters that it sends
  abbrev New : Letter → Type 0
  New = SentNew z r check_letter (s.node r).stage (s.node r).pending

  -- what holds of the node before
  ok : NodeOk z s r N
  ok = o.nodes r c.steps.in_ring

  -- the letters over the call
  mail : Mail z s t NoTurn New
  mail = mail_sends c.sends c.steps.letters

  -- the new state continues the old one
  e : Continues s t
  e = continues_same mail c.steps.book c.chooser (live_same s t c.steps.live)

  -- nobody proposes
  back : (j x : ℕ) → x ∈ t.proposers j → x ∈ s.proposers j
  back = proposers_same c.chooser

  -- the two messages are its cause
  cause : Cause t N.stage N.received
  cause =
      let w = stage_up e ok.stage in
      let p = undelivered_parts N a c.one in
      let q = undelivered_parts N b c.other in
      record {
        a = a;
        b = b;
        conflict = ap (λ (f : ℕ → ℕ → Bool). f a b) c.steps.book.conflict ∙ c.conflict;
        a_new = sym (w.delivered_is a) ∙ p.1;
        b_new = sym (w.delivered_is b) ∙ q.1;
        a_in = p.0;
        b_in = q.0;
      }

  -- ---- the letters

  -- a new letter by itself
  new_ok : (L : Letter) → New L → LetterOk z t L
  new_ok L (y, h, p) = let w = pending_up e ok.pending in subst (λ (B : Letter). LetterOk z t B) (sym p) (record {
    unspoilt = record {
      kinds = inr (inr refl);
      sender_in = c.steps.in_ring;
      receiver_in = h;
      known = λ m k. w.received_known m (w.pending_received m k);
      data_stage = λ k. absurd (omega (arith, k));
      data_one = λ k. absurd (omega (arith, k));
      later = λ k. ok.stage.first;
    };
    check_free = λ x y k u v. w.pending_free x y u v;
    marks = inl refl;
    lost_astray = λ k. absurd (omega (arith, k));
  })

  -- a check is no acknowledgement
  check_first : (L B : Letter) → New L → PairOk t L B
  check_first L B (y, h, p) = record {
    ack_check = λ m f g u v. absurd (omega (arith, u, same_kind p));
    ack_free = λ x w f g u v. absurd (omega (arith, u, same_kind p));
  }

  -- and the check has all that was acknowledged before in this stage
  new_old : (L : Letter) (i : ℕ) → New L → i < s.sent → PairOk t L (s.letter i) × PairOk t (s.letter i) L
  new_old L i (y, h, p) l = (
    check_first L (s.letter i) (y, h, p),
    record {
      ack_check = λ m f g u v d. carry m (sym (same_set p))
          ((ok.sent_letters i l (f ∙ same_sender p)).ack_pending m u (g ∙ same_stage p) d);
      ack_free = λ x w f g u v. absurd (omega (arith, v, same_kind p));
    },
  )

  -- the letters that it sent before
  sent_before : (L : Letter) → SentBy t N L → SentBy t N' L
  sent_before L h = record {
    ack_stage = h.ack_stage;
    ack_pending = h.ack_pending;
    check_stage = λ k. elim (h.check_stage k) [ inl w ↦ inl w | inr w ↦ inr (w.0, refl, w.2) ];
    check_cause = h.check_cause;
    check_settled = h.check_settled;
  }

  -- the letters that it sends now
  sent_now : (L : Letter) → New L → L.sender ≡ r → SentBy t N' L
  sent_now L (y, h, p) f = subst (λ (B : Letter). SentBy t N' B) (sym p) (record {
    ack_stage = λ k. absurd (omega (arith, k));
    ack_pending = λ m k. absurd (omega (arith, k));
    check_stage = λ k. inr (refl, refl, refl);
    check_cause = λ k. cause;
    check_settled = λ k. (stage_up e ok.stage).settled;
  })

  -- a closing node need not use an acknowledgement
  taken_before : (L : Letter) → TakenBy z N L → TakenBy z N' L
  taken_before L h = record {
    stage_le = h.stage_le;
    data_in = h.data_in;
    ack_in = λ m p q g k. absurd (true≢false g);
    check_in = h.check_in;
  }

  -- ---- the whole

  -- what it delivered early stays, and a closing node hears no more
  early : EarlyOk z t N.stage N.delivered N.early N.heard true
  early = let b = early_up e ok.early in record {
    heard_from = b.heard_from;
    early_heard = b.early_heard;
    early_new = b.early_new;
    heard_early = λ m g. absurd (true≢false g);
  }

  -- it has sent a check of its own stage now
  closing : ClosingOk t r N.stage true N.proposed
  closing = let b = closing_up e (λ j. back j r) ok.closing in record {
    closed = λ j l h. elim h [
      | inl w ↦ b.closed j l (inl w)
      | inr w ↦ (let v = sent_own s t r c.steps.in_ring c.sends in
          (v.0, subst (λ (k : ℕ). Posted t v.0 check_letter r k) (sym w.0) v.1))
    ];
    proposed_when = λ j h. elim (b.proposed_when j h) [ inl w ↦ inl w | inr w ↦ inr (w.0, refl, w.2) ];
    proposed_stands = b.proposed_stands;
  }

  -- what holds of the node afterwards
  node_ok : NodeOk z t r N'
  node_ok = record {
    stage = stage_up e ok.stage;
    pending = pending_up e ok.pending;
    early = early;
    checks = checks_up e ok.checks;
    closing = closing;
    sheet = sheet_up e ok.sheet;
    sent_letters = mail_sent mail e r N N' ok sent_before sent_now;
    taken_letters = mail_taken mail e r N N' ok taken_before (λ A B h. absurd h);
  }

  -- the call keeps the invariant
  pub closes_ok : Ok z t
  closes_ok = record {
    book = book_keeps e c.steps.book o.book;
    post = post_keeps mail e o.post (λ A B h. absurd h) new_ok (λ L B h k. check_first L B h) new_old;
    chooser = chooser_keeps e c.chooser o.chooser;
    nodes = acts o e mail r N' c.becomes node_ok (λ x j d. back j x) (λ L h. same_sender h.2)
        (λ A B h. absurd h);
  }
