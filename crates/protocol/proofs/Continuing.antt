-- What no call takes back: letters keep their words, decisions stand, crashed nodes stay crashed. So what the letters
-- and the decisions of one state say, they say in every later state, and so do the parts of the invariant about a node.
use Rattle.std.proofs.Common.{◌≡◌, ℕ, zero, suc, ◌<◌, ◌≤◌, Bool, true, false, ◌||◌, ◌⊎◌, List, sym, refl, ap, ◌∙◌, subst, ap₂}
use Rattle.std.proofs.Common.{inl, inr, arith}
use Rattle.protocol.specs.Sets.{Set, ◌∈◌, ◌∉◌}
use Rattle.protocol.specs.Lists.{Before}
use Rattle.protocol.specs.Ring.{Size, State, Letter}
use Rattle.protocol.proofs.Facts.{carry, Posted, Told, Acknowledged, Checked, past, Settled, Tallied, Cause, Precedes}
use Rattle.protocol.proofs.Facts.{earlier, sooner, lower}
use Rattle.protocol.proofs.Invariant.{StageOk, PendingOk, EarlyOk, ChecksOk, ClosingOk, SheetOk, SentOk, ProposalOk}
use Rattle.protocol.proofs.Lists.{before_mem}

-- B is the letter A, but for the mark
pub record SameWords (A B : Letter) : Type 0 where
  pub sender : B.sender ≡ A.sender
  pub receiver : B.receiver ≡ A.receiver
  pub kind : B.kind ≡ A.kind
  pub stage : B.stage ≡ A.stage
  pub set : B.set ≡ A.set

-- t comes after s
pub record Continues (s t : State) : Type 0 where
  pub sent_le : s.sent ≤ t.sent
  pub words : (i : ℕ) → i < s.sent → SameWords (s.letter i) (t.letter i)
  pub messages_le : s.messages ≤ t.messages
  pub conflict : (a b : ℕ) → a < s.messages → b < s.messages → t.conflict a b ≡ s.conflict a b
  pub decided : (j : ℕ) → j ∈ s.decided → j ∈ t.decided
  pub nonconflicting : (j : ℕ) → (j ≡ 0) ⊎ (j ∈ s.decided) → t.nonconflicting j ≡ s.nonconflicting j
  pub conflicting : (j : ℕ) → (j ≡ 0) ⊎ (j ∈ s.decided) → t.conflicting j ≡ s.conflicting j
  pub proposers : (j x : ℕ) → x ∈ s.proposers j → x ∈ t.proposers j
  pub live : (x : ℕ) → x ∉ s.live → x ∉ t.live

module _ {s t : State} (e : Continues s t) where
  -- ---- letters

  -- a letter stays where it was posted
  pub posted_up : {i k x j : ℕ} → Posted s i k x j → Posted t i k x j
  posted_up {i} h = let w = e.words i h.place in
      record {
        place = omega (arith, e.sent_le, h.place);
        kind = w.kind ∙ h.kind;
        sender = w.sender ∙ h.sender;
        stage = w.stage ∙ h.stage;
      }

  -- and keeps its messages
  pub said_up : {i k x j : ℕ} (m : ℕ) → Posted s i k x j → m ∈ (s.letter i).set → m ∈ (t.letter i).set
  said_up {i} m h k = carry m (sym (e.words i h.place).set) k

  -- what x told is told
  pub told_up : (x m : ℕ) → Told s x m → Told t x m
  told_up x m (i, h, k) = (i, posted_up h, said_up m h k)

  -- what x acknowledged is acknowledged
  pub acknowledged_up : (x j m : ℕ) → Acknowledged s x j m → Acknowledged t x j m
  acknowledged_up x j m (i, h, k) = (i, posted_up h, said_up m h k)

  -- the check that x sent is sent
  pub checked_up : (x j : ℕ) (T : Set) → Checked s x j T → Checked t x j T
  checked_up x j T (i, h, k) = (i, posted_up h, (e.words i h.place).set ∙ k)

  -- a tally stays a tally
  tallied_up : {z : Size} (j : ℕ) (M : Set) → Tallied z s j M → Tallied z t j M
  tallied_up j M h = record {
    voters = h.voters;
    votes = h.votes;
    full = h.full;
    cast = λ x l k. checked_up x j (h.votes x) (h.cast x l k);
    most = h.most;
    all = h.all;
  }

  -- messages that do not conflict never will
  pub free_up : (a b : ℕ) → a < s.messages → b < s.messages → s.conflict a b ≡ false → t.conflict a b ≡ false
  free_up a b p q h = e.conflict a b p q ∙ h

  -- ---- decisions

  -- settled stages stay settled
  pub settled_up : {j : ℕ} → Settled s j → Settled t j
  settled_up h i a b = e.decided i (h i a b)

  -- the decision of a settled stage stands
  stands : (j : ℕ) → Settled s (suc j) → (j ≡ 0) ⊎ (j ∈ s.decided)
  stands zero h = inl refl
  stands (suc j) h = inr (h (suc j) (omega arith) (omega arith))

  -- what the settled stages decided is the same
  pub past_same : (j m : ℕ) → Settled s j → past t j m ≡ past s j m
  unfolding past
  past_same zero m h = refl
  past_same (suc j) m h =
      ap₂ ◌||◌ (past_same j m (λ i a b. h i a (omega arith)))
      (ap₂ ◌||◌ (ap (λ (Y : Set). Y m) (e.nonconflicting j (stands j h)))
      (ap (λ (Y : Set). Y m) (e.conflicting j (stands j h))))

  -- fewer stages are settled too
  less : {j : ℕ} → Settled s (suc j) → Settled s j
  less h i a b = h i a (omega arith)

  -- the nonconflicting part of a settled stage stands
  first_up : {v : Bool} (j m : ℕ) → Settled s (suc j) → s.nonconflicting j m ≡ v → t.nonconflicting j m ≡ v
  first_up j m h k = ap (λ (Y : Set). Y m) (e.nonconflicting j (stands j h)) ∙ k

  -- and so does the conflicting part
  second_up : {v : Bool} (j m : ℕ) → Settled s (suc j) → s.conflicting j m ≡ v → t.conflicting j m ≡ v
  second_up j m h k = ap (λ (Y : Set). Y m) (e.conflicting j (stands j h)) ∙ k

  -- the decided order stands
  precedes_up : {a b : ℕ} → Precedes s a b → Precedes t a b
  precedes_up {a} {b} (earlier j h p q) = earlier j (settled_up h) (past_same j a h ∙ p) (past_same j b h ∙ q)
  precedes_up {a} {b} (sooner j h p q u v w) =
      sooner j (settled_up h) (past_same j a (less h) ∙ p) (past_same j b (less h) ∙ q)
      (first_up j a h u) (first_up j b h v) (second_up j b h w)
  precedes_up {a} {b} (lower j h p q u v w x y) =
      lower j (settled_up h) (past_same j a (less h) ∙ p) (past_same j b (less h) ∙ q)
      (first_up j a h u) (first_up j b h v) (second_up j a h w) (second_up j b h x) y

  -- a cause to close stays one, in a larger set too
  pub cause_up : {j : ℕ} (X Y : Set) → Settled s j → ((m : ℕ) → m ∈ X → m < s.messages) → ((m : ℕ) → m ∈ X → m ∈ Y)
      → Cause s j X → Cause t j Y
  cause_up {j} X Y h k u c = record {
    a = c.a;
    b = c.b;
    conflict = e.conflict c.a c.b (k c.a c.a_in) (k c.b c.b_in) ∙ c.conflict;
    a_new = past_same j c.a h ∙ c.a_new;
    b_new = past_same j c.b h ∙ c.b_new;
    a_in = u c.a c.a_in;
    b_in = u c.b c.b_in;
  }

  -- a good proposal stays one
  pub proposal_up : {z : Size} {j : ℕ} {M D : Set} → ProposalOk z s j M D → ProposalOk z t j M D
  proposal_up {z} {j} {M} {D} h = record {
    tallied = tallied_up j M h.tallied;
    settled = settled_up h.settled;
    cause = cause_up (λ m. M m || D m) (λ m. M m || D m) h.settled h.known (λ m k. k) h.cause;
    known = λ m k. omega (arith, h.known m k, e.messages_le);
  }

  -- ---- the parts of a node's invariant

  -- the stage of a node
  pub stage_up : {j : ℕ} {G : Set} → StageOk s j G → StageOk t j G
  stage_up {j} h = record {
    first = h.first;
    settled = settled_up h.settled;
    delivered_is = λ m. h.delivered_is m ∙ sym (past_same j m h.settled);
  }

  -- what a node received and keeps pending
  pub pending_up : {r j : ℕ} {R G P : Set} → PendingOk s r j R G P → PendingOk t r j R G P
  pending_up {r} {j} h = record {
    received_known = λ m k. omega (arith, h.received_known m k, e.messages_le);
    received_told = λ m k. told_up r m (h.received_told m k);
    pending_received = h.pending_received;
    pending_new = h.pending_new;
    pending_free = λ a b p q. free_up a b (h.received_known a (h.pending_received a p))
        (h.received_known b (h.pending_received b q)) (h.pending_free a b p q);
    pending_sent = λ m k. acknowledged_up r j m (h.pending_sent m k);
  }

  -- whom a node heard and what it delivered early
  pub early_up : {z : Size} {j : ℕ} {G E : Set} {H : ℕ → Set} {c : Bool} → EarlyOk z s j G E H c → EarlyOk z t j G E H c
  early_up {j = j} h = record {
    heard_from = λ m x l k. acknowledged_up x j m (h.heard_from m x l k);
    early_heard = h.early_heard;
    early_new = h.early_new;
    heard_early = h.heard_early;
  }

  -- the checks that a node keeps
  pub checks_up : {z : Size} {j : ℕ} {K : Set} {T : ℕ → Set} → ChecksOk z s j K T → ChecksOk z t j K T
  checks_up {j = j} {T = T} h = record {
    kept_from = λ x l k. checked_up x j (T x) (h.kept_from x l k);
    kept_few = h.kept_few;
  }

  -- where the node has not proposed meanwhile
  pub closing_up : {r j : ℕ} {c p : Bool} → ((i : ℕ) → r ∈ t.proposers i → r ∈ s.proposers i)
      → ClosingOk s r j c p → ClosingOk t r j c p
  closing_up {r} {j} back h = record {
    closed = λ i l k. let w = h.closed i l k in (w.0, posted_up w.1);
    proposed_when = λ i k. h.proposed_when i (back i k);
    proposed_stands = λ k. e.proposers j r (h.proposed_stands k);
  }

  -- the sheet of a node
  pub sheet_up : {G E : Set} {l : List ℕ} → SheetOk s G E l → SheetOk t G E l
  sheet_up {l = l} h = record {
    once = h.once;
    has = h.has;
    has_delivered = h.has_delivered;
    has_early = h.has_early;
    known = λ m k. omega (arith, h.known m k, e.messages_le);
    ordered = order;
  }
    where
      order : (a b : ℕ) → t.conflict a b ≡ true → Before l a b → Precedes t a b
      order a b c k = let w = before_mem l a b k in
          precedes_up (h.ordered a b (sym (e.conflict a b (h.known a w.0) (h.known b w.1)) ∙ c) k)

  -- a letter that a node sent, with its words as they were
  pub sent_up : {j : ℕ} {R P : Set} {c : Bool} (A B : Letter) → SameWords A B → ((m : ℕ) → m ∈ R → m < s.messages)
      → SentOk s j R P c A → SentOk t j R P c B
  sent_up {j} {R} A B w k h = record {
    ack_stage = λ p. subst (λ (y : ℕ). y ≤ j) (sym w.stage) (h.ack_stage (sym w.kind ∙ p));
    ack_pending = λ m p q r. h.ack_pending m (sym w.kind ∙ p) (sym w.stage ∙ q) (carry m w.set r);
    check_stage = λ p. elim (h.check_stage (sym w.kind ∙ p)) [
      | inl x ↦ inl (subst (λ (y : ℕ). y < j) (sym w.stage) x)
      | inr x ↦ inr (w.stage ∙ x.0, x.1, w.set ∙ x.2)
    ];
    check_cause = λ p. subst (λ (y : ℕ). Cause t y R) (sym w.stage)
        (cause_up R R (h.check_settled (sym w.kind ∙ p)) k (λ m x. x) (h.check_cause (sym w.kind ∙ p)));
    check_settled = λ p. subst (λ (y : ℕ). Settled t y) (sym w.stage) (settled_up (h.check_settled (sym w.kind ∙ p)));
  }
