-- How a call keeps the invariant of all that it leaves alone: the book, the chooser, and every node but the one that acts.
use Rattle.std.proofs.Common.{◌≡◌, ℕ, ◌<◌, ◌≤◌, Bool, false, sym, ap, ◌∙◌, subst, inl, inr, arith}
use Rattle.std.proofs.lemmas.Bool.{cases_eq}
use Rattle.protocol.specs.Sets.{Set, ◌∈◌, ◌∉◌, count}
use Rattle.protocol.specs.Ring.{Size, State, Node, Letter, taken}
use Rattle.protocol.specs.Calls.{SameBook, SameChooser, SameLive, Becomes, Chosen}
use Rattle.protocol.proofs.Facts.{Told}
use Rattle.protocol.proofs.Invariant.{SentBy, TakenBy, NodeOk, BookOk, ChooserOk, ProposalOk, Ok}
use Rattle.protocol.proofs.Continuing.{Continues, told_up, proposal_up, stage_up, pending_up, early_up, checks_up}
use Rattle.protocol.proofs.Continuing.{closing_up, sheet_up}
use Rattle.protocol.proofs.Mail.{Mail, mail_words, mail_sent, mail_taken}

-- who lives afterwards lived before
pub live_same : (s t : State) → SameLive s t → (x : ℕ) → x ∉ s.live → x ∉ t.live
live_same s t p x h = ap (λ (f : Set). f x) p ∙ h

-- an unchanged chooser has no new proposal
pub proposers_same : {s t : State} → SameChooser s t → (j x : ℕ) → x ∈ t.proposers j → x ∈ s.proposers j
proposers_same c j x h = sym (ap (λ (f : ℕ → Set). f j x) c.proposers) ∙ h

-- a call that leaves book and chooser continues the state
pub continues_same : {z : Size} {s t : State} {Turn : Letter → Letter → Type 0} {Come : Letter → Type 0} → Mail z s t Turn Come
    → SameBook s t → SameChooser s t → ((x : ℕ) → x ∉ s.live → x ∉ t.live) → Continues s t
continues_same mail b c l = record {
  sent_le = mail.sent_le;
  words = mail_words mail;
  messages_le = omega (arith, b.messages);
  conflict = λ x y p q. ap (λ (f : ℕ → ℕ → Bool). f x y) b.conflict;
  decided = λ j h. ap (λ (f : Set). f j) c.decided ∙ h;
  nonconflicting = λ j h. ap (λ (f : ℕ → Set). f j) c.nonconflicting;
  conflicting = λ j h. ap (λ (f : ℕ → Set). f j) c.conflicting;
  proposers = λ j x h. ap (λ (f : ℕ → Set). f j x) c.proposers ∙ h;
  live = l;
}

module _ {z : Size} {s t : State} (e : Continues s t) where
  -- the book, where no message is broadcast
  pub book_keeps : SameBook s t → BookOk z s → BookOk z t
  book_keeps b o = record {
    messages_le = subst (λ (y : ℕ). y ≤ 64) (sym b.messages) o.messages_le;
    both_sides = λ x y. subst (λ (c : ℕ → ℕ → Bool). c x y ≡ c y x) (sym b.conflict) (o.both_sides x y);
    not_itself = λ x. subst (λ (c : ℕ → ℕ → Bool). c x x ≡ false) (sym b.conflict) (o.not_itself x);
    told = λ m l. subst (λ (f : ℕ → ℕ). Told t (f m) m) (sym b.broadcaster)
        (told_up e (s.broadcaster m) m (o.told m (subst (λ (y : ℕ). m < y) b.messages l)));
  }

  -- the chooser, where nothing is proposed
  pub chooser_keeps : SameChooser s t → ChooserOk z s → ChooserOk z t
  chooser_keeps c o = record {
    proposer_in = λ j r h. o.proposer_in j r (proposers_same c j r h);
    proposal = λ j r l h.
        subst (λ (f : ℕ → ℕ → Set). ProposalOk z t j (f j r) (t.proposal_conflicting j r)) (sym c.proposal_nonconflicting)
        (subst (λ (f : ℕ → ℕ → Set). ProposalOk z t j (s.proposal_nonconflicting j r) (f j r)) (sym c.proposal_conflicting)
        (proposal_up e (o.proposal j r l (proposers_same c j r h))));
    chosen = λ j h. again j (o.chosen j (sym (ap (λ (f : Set). f j) c.decided) ∙ h));
    decides = λ j h. ap (λ (f : Set). f j) c.decided
        ∙ o.decides j (subst (λ (f : ℕ → Set). z.need ≤ count z.n (f j)) c.proposers h);
  }
    where
      again : (j : ℕ) → Chosen z s j → Chosen z t j
      again j w = record {
        by = w.by;
        in_ring = w.in_ring;
        made = ap (λ (f : ℕ → Set). f j w.by) c.proposers ∙ w.made;
        nonconflicting = ap (λ (f : ℕ → Set). f j) c.nonconflicting ∙ w.nonconflicting
            ∙ sym (ap (λ (f : ℕ → ℕ → Set). f j w.by) c.proposal_nonconflicting);
        conflicting = ap (λ (f : ℕ → Set). f j) c.conflicting ∙ w.conflicting
            ∙ sym (ap (λ (f : ℕ → ℕ → Set). f j w.by) c.proposal_conflicting);
      }

module _ {z : Size} {s t : State} {Turn : Letter → Letter → Type 0} {Come : Letter → Type 0}
    (o : Ok z s) (e : Continues s t) (mail : Mail z s t Turn Come) where
  -- a node that does not act
  pub left : (x : ℕ) → x < z.n → t.node x ≡ s.node x → ((j : ℕ) → x ∈ t.proposers j → x ∈ s.proposers j)
      → ((L : Letter) → Come L → L.sender ≡ x → SentBy t (s.node x) L)
      → ((A B : Letter) → Turn A B → B.receiver ≡ x → B.mark ≡ taken → TakenBy z (s.node x) B) → NodeOk z t x (t.node x)
  left x l p back new turned = let ok = o.nodes x l in subst (λ (N : Node). NodeOk z t x N) (sym p) (record {
    stage = stage_up e ok.stage;
    pending = pending_up e ok.pending;
    early = early_up e ok.early;
    checks = checks_up e ok.checks;
    closing = closing_up e back ok.closing;
    sheet = sheet_up e ok.sheet;
    sent_letters = mail_sent mail e x (s.node x) (s.node x) ok (λ L h. h) new;
    taken_letters = mail_taken mail e x (s.node x) (s.node x) ok (λ L h. h) turned;
  })

  -- node r acts and becomes N, the others do not
  pub acts : (r : ℕ) (N : Node) → Becomes z s t r N → NodeOk z t r N
      → ((x j : ℕ) → (x ≡ r → ⊥) → x ∈ t.proposers j → x ∈ s.proposers j)
      → ((L : Letter) → Come L → L.sender ≡ r) → ((A B : Letter) → Turn A B → B.receiver ≡ r)
      → (x : ℕ) → x < z.n → NodeOk z t x (t.node x)
  acts r N b k back u v x l = elim (cases_eq x r) [
    | inl p ↦ subst (λ (y : ℕ). NodeOk z t y (t.node y)) (sym p) (subst (λ (M : Node). NodeOk z t r M) (sym b.here) k)
    | inr d ↦ left x l (b.others x l d) (λ j h. back x j d h) (λ L c h. absurd (d (sym h ∙ u L c)))
        (λ A B c h m. absurd (d (sym h ∙ v A B c)))
  ]
