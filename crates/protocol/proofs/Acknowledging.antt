-- A gathering node acknowledges what it has not delivered.
use Rattle.std.proofs.Common.{◌≡◌, ℕ, ◌<◌, Bool, false, sym, refl, ap, ◌∙◌, subst, inl, inr, arith}
use Rattle.protocol.specs.Sets.{Set, ◌∈◌, ◌∉◌}
use Rattle.protocol.specs.Ring.{Size, State, Node, Letter, acknowledgement, check_letter}
use Rattle.protocol.specs.Nodes.{undelivered, after_acknowledging}
use Rattle.protocol.specs.Calls.{Acknowledges}
use Rattle.protocol.proofs.Facts.{same_kind, same_sender, same_set, same_stage, carry}
use Rattle.protocol.proofs.Invariant.{PendingOk, SentBy, NodeOk, LetterOk, PairOk, Ok}
use Rattle.protocol.proofs.Continuing.{Continues, stage_up, pending_up, early_up, checks_up, closing_up, sheet_up}
use Rattle.protocol.proofs.Mail.{Mail, mail_sent, mail_taken, mail_sends, post_keeps, sent_own, NoTurn, SentNew}
use Rattle.protocol.proofs.Acting.{live_same, proposers_same, continues_same, book_keeps, chooser_keeps, acts}

-- what a node has not delivered: it received it
pub undelivered_parts : (N : Node) (m : ℕ) → m ∈ undelivered N → (m ∈ N.received) × (m ∉ N.delivered)
undelivered_parts N m h = (grind arith, grind arith)

-- and the other way round
pub undelivered_from : (N : Node) (m : ℕ) → m ∈ N.received → m ∉ N.delivered → m ∈ undelivered N
undelivered_from N m h k = grind arith

module _ {z : Size} {s t : State} (r : ℕ) (o : Ok z s) (c : Acknowledges z s t r) where
  -- the node before the call
  abbrev N : Node
  N = s.node r

  -- the node after the call
  abbrev N' : Node
  N' = after_acknowledging (s.node r)

  -- what it acknowledges
  abbrev D : Set
  D = undelivered (s.node r)

  -- the letters that it sends
  abbrev New : Letter → Type 0
  New = SentNew z r acknowledgement (s.node r).stage (undelivered (s.node r))

  -- what holds of the node before
  ok : NodeOk z s r N
  ok = o.nodes r c.steps.in_ring

  -- the letters over the call
  mail : Mail z s t NoTurn New
  mail = mail_sends c.sends c.steps.letters

  -- the new state continues the old one
  e : Continues s t
  e = continues_same mail c.steps.book c.chooser (live_same s t c.steps.live)

  -- nobody proposes
  back : (j x : ℕ) → x ∈ t.proposers j → x ∈ s.proposers j
  back = proposers_same c.chooser

  -- it still acknowledges what was pending
  pending_still : (m : ℕ) → m ∈ N.pending → m ∈ D
  pending_still m h = undelivered_from N m (ok.pending.pending_received m h) (ok.pending.pending_new m h)

  -- no two of them conflict afterwards either
  free : (a b : ℕ) → a ∈ D → b ∈ D → t.conflict a b ≡ false
  free a b p q = ap (λ (f : ℕ → ℕ → Bool). f a b) c.steps.book.conflict ∙ c.free a b p q

  -- all that it acknowledges is pending
  pending : PendingOk t r N.stage N.received N.delivered D
  pending = let b = pending_up e ok.pending in record {
    received_known = b.received_known;
    received_told = b.received_told;
    pending_received = λ m h. (undelivered_parts N m h).0;
    pending_new = λ m h. (undelivered_parts N m h).1;
    pending_free = free;
    pending_sent = λ m h. let w = sent_own s t r c.steps.in_ring c.sends in (w.0, w.1, ap (λ (Y : Set). Y m) w.2 ∙ h);
  }

  -- ---- the letters

  -- a gathering node has sent no check of its stage
  no_check : (L : Letter) → SentBy s N L → L.kind ≡ check_letter → L.stage ≡ N.stage → ⊥
  no_check L h k p = grind (arith, h.check_stage k, c.gathering)

  -- what it acknowledged before in this stage it acknowledges again
  older : (i m : ℕ) → i < s.sent → (s.letter i).kind ≡ acknowledgement → (s.letter i).sender ≡ r → (s.letter i).stage ≡ N.stage
      → m ∈ (s.letter i).set → m ∈ D
  older i m l k f g h = pending_still m ((ok.sent_letters i l f).ack_pending m k g h)

  -- a new letter by itself
  new_ok : (L : Letter) → New L → LetterOk z t L
  new_ok L (y, h, p) = subst (λ (B : Letter). LetterOk z t B) (sym p) (record {
    unspoilt = record {
      kinds = inr (inl refl);
      sender_in = c.steps.in_ring;
      receiver_in = h;
      known = λ m k. pending.received_known m (undelivered_parts N m k).0;
      data_stage = λ k. absurd (omega (arith, k));
      data_one = λ k. absurd (omega (arith, k));
      later = λ k. ok.stage.first;
    };
    check_free = λ x y k. absurd (omega (arith, k));
    marks = inl refl;
    lost_astray = λ k. absurd (omega (arith, k));
  })

  -- two new letters
  new_pair : (L B : Letter) → New L → New B → PairOk t L B
  new_pair L B (y, h, p) (x, k, q) = record {
    ack_check = λ m f g u v. absurd (omega (arith, v, same_kind q));
    ack_free = λ a b f g u v i j. free a b (carry a (same_set p) i) (carry b (same_set q) j);
  }

  -- a new letter and an old one
  new_old : (L : Letter) (i : ℕ) → New L → i < s.sent → PairOk t L (s.letter i) × PairOk t (s.letter i) L
  new_old L i (y, h, p) l = (after, before)
    where
      from : L.sender ≡ r
      from = same_sender p

      at : L.stage ≡ N.stage
      at = same_stage p

      in_new : (m : ℕ) → m ∈ L.set → m ∈ D
      in_new m k = carry m (same_set p) k

      after : PairOk t L (s.letter i)
      after = record {
        ack_check = λ m f g u v k. absurd (no_check (s.letter i) (ok.sent_letters i l (sym f ∙ from)) v (sym g ∙ at));
        ack_free = λ a b f g u v j k. free a b (in_new a j) (older i b l v (sym f ∙ from) (sym g ∙ at) k);
      }

      before : PairOk t (s.letter i) L
      before = record {
        ack_check = λ m f g u v. absurd (omega (arith, v, same_kind p));
        ack_free = λ a b f g u v j k. free a b (older i a l u (f ∙ from) (g ∙ at) j) (in_new b k);
      }

  -- the letters that it sent before
  sent_before : (L : Letter) → SentBy t N L → SentBy t N' L
  sent_before L h = record {
    ack_stage = h.ack_stage;
    ack_pending = λ m k p q. pending_still m (h.ack_pending m k p q);
    check_stage = λ k. grind (arith, h.check_stage k, c.gathering);
    check_cause = h.check_cause;
    check_settled = h.check_settled;
  }

  -- the letters that it sends now
  sent_now : (L : Letter) → New L → L.sender ≡ r → SentBy t N' L
  sent_now L (y, h, p) f = subst (λ (B : Letter). SentBy t N' B) (sym p) (record {
    ack_stage = λ k. omega arith;
    ack_pending = λ m k q u. u;
    check_stage = λ k. absurd (omega (arith, k));
    check_cause = λ k. absurd (omega (arith, k));
    check_settled = λ k. absurd (omega (arith, k));
  })

  -- ---- the whole

  -- what holds of the node afterwards
  node_ok : NodeOk z t r N'
  node_ok = record {
    stage = stage_up e ok.stage;
    pending = pending;
    early = early_up e ok.early;
    checks = checks_up e ok.checks;
    closing = closing_up e (λ j. back j r) ok.closing;
    sheet = sheet_up e ok.sheet;
    sent_letters = mail_sent mail e r N N' ok sent_before sent_now;
    taken_letters = mail_taken mail e r N N' ok (λ L h. h) (λ A B h. absurd h);
  }

  -- the call keeps the invariant
  pub acknowledges_ok : Ok z t
  acknowledges_ok = record {
    book = book_keeps e c.steps.book o.book;
    post = post_keeps mail e o.post (λ A B h. absurd h) new_ok new_pair new_old;
    chooser = chooser_keeps e c.chooser o.chooser;
    nodes = acts o e mail r N' c.becomes node_ok (λ x j d. back j x) (λ L h. same_sender h.2)
        (λ A B h. absurd h);
  }
