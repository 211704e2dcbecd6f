-- A closing node settles its stage by the decision: its sheet goes on as the decided order says.
use Rattle.std.proofs.Common.{◌≡◌, ℕ, suc, ◌<◌, Bool, true, false, ◌⊎◌, ◌++◌, sym, refl, ap, ◌∙◌, inl}
use Rattle.std.proofs.Common.{inr, arith}
use Rattle.std.proofs.lemmas.Bool.{cases_Bool, cases_eq, both_ways}
use Rattle.std.proofs.lemmas.Bool.{false≢true}
use Rattle.protocol.specs.Sets.{Set, ◌∈◌, ◌∉◌, none}
use Rattle.protocol.specs.Lists.{Mem, Once, Before, ascending}
use Rattle.protocol.specs.Ring.{Size, State, Node, Letter}
use Rattle.protocol.specs.Nodes.{after_settling, settled_first, settled_then}
use Rattle.protocol.specs.Calls.{Settles}
use Rattle.protocol.proofs.Facts.{past, Settled, Precedes, earlier, sooner, lower}
use Rattle.protocol.proofs.Invariant.{StageOk, PendingOk, EarlyOk, ChecksOk, ClosingOk, SheetOk, SentBy, TakenBy}
use Rattle.protocol.proofs.Invariant.{NodeOk, Ok}
use Rattle.protocol.proofs.Continuing.{Continues, settled_up, past_same, stage_up, pending_up, closing_up, sheet_up}
use Rattle.protocol.proofs.Mail.{Mail, mail_sent, mail_taken, mail_none, none_came, post_keeps, NoTurn, NoCome}
use Rattle.protocol.proofs.Acting.{live_same, proposers_same, continues_same, book_keeps, chooser_keeps, acts}
use Rattle.protocol.proofs.Counting.{count_none}
use Rattle.protocol.proofs.Lists.{mem_left, mem_right, mem_cases, once_join, before_cases, before_mem, ascending_mem}
use Rattle.protocol.proofs.Lists.{mem_ascending, ascending_once, ascending_before}
use Rattle.protocol.proofs.Order.{early_decided, decided_free}
use Rattle.protocol.proofs.Stages.{decided_known}

-- ---- at the beginning of a stage a node has nothing pending, early, heard or kept

-- nothing pending
none_pending : (s : State) {r j l : ℕ} {R G P F : Set} → PendingOk s r j R G P → PendingOk s r l R F none
none_pending s h = record {
  received_known = h.received_known;
  received_told = h.received_told;
  pending_received = λ m k. absurd (false≢true k);
  pending_new = λ m k. absurd (false≢true k);
  pending_free = λ a b k. absurd (false≢true k);
  pending_sent = λ m k. absurd (false≢true k);
}

-- nothing heard or early
pub none_early : (z : Size) (s : State) (j : ℕ) (G : Set) → EarlyOk z s j G none (λ m. none) false
none_early z s j G = record {
  heard_from = λ m x l h. absurd (false≢true h);
  early_heard = λ m h. absurd (false≢true h);
  early_new = λ m h. absurd (false≢true h);
  heard_early = λ m c h. absurd (omega (arith, h, count_none z.n none (λ i l. refl), z.meet, z.chk_le));
}

-- no check kept
pub none_kept : (z : Size) (s : State) (j : ℕ) → ChecksOk z s j none (λ x. none)
none_kept z s j = record {
  kept_from = λ x l h. absurd (false≢true h);
  kept_few = omega (arith, count_none z.n none (λ i l. refl));
}

module _ {z : Size} {s t : State} (r : ℕ) (o : Ok z s) (c : Settles z s t r) where
  -- the node before the call
  abbrev N : Node
  N = s.node r

  -- the decision
  abbrev NC : Set
  NC = s.nonconflicting (s.node r).stage

  -- and its conflicting part
  abbrev C : Set
  C = s.conflicting (s.node r).stage

  -- the node after the call
  abbrev N' : Node
  N' = after_settling (s.nonconflicting (s.node r).stage) (s.conflicting (s.node r).stage) (s.node r)

  -- what comes onto the sheet, first and then
  abbrev A : Set
  A = settled_first (s.node r) (s.nonconflicting (s.node r).stage)

  -- and then
  abbrev B : Set
  B = settled_then (s.node r) (s.nonconflicting (s.node r).stage) (s.conflicting (s.node r).stage)

  -- what holds of the node before
  ok : NodeOk z s r N
  ok = o.nodes r c.steps.in_ring

  -- the letters over the call
  mail : Mail z s t NoTurn NoCome
  mail = mail_none c.silent c.steps.letters

  -- the new state continues the old one
  e : Continues s t
  e = continues_same mail c.steps.book c.chooser (live_same s t c.steps.live)

  -- nobody proposes
  back : (j x : ℕ) → x ∈ t.proposers j → x ∈ s.proposers j
  back = proposers_same c.chooser

  -- ---- what comes onto the sheet

  -- what was early is in the decision
  early : (m : ℕ) → m ∈ N.early → m ∈ NC
  early m h = early_decided o r m c.steps.in_ring h c.decided

  -- what comes first is nonconflicting and new
  first_parts : (m : ℕ) → Mem m (ascending 64 A) → (m ∈ NC) × (m ∉ N.delivered) × (m ∉ N.early)
  first_parts m h = let p : m ∈ A = (ascending_mem 64 A m h).1 in (grind arith, grind arith, grind arith)

  -- what comes then is conflicting and new
  then_parts : (m : ℕ) → Mem m (ascending 64 B) → (m ∈ C) × (m ∉ N.delivered) × (m ∉ N.early) × (m ∉ NC)
  then_parts m h = let p : m ∈ B = (ascending_mem 64 B m h).1 in (grind arith, grind arith, grind arith, grind arith)

  -- the decision was broadcast
  known : (m : ℕ) → (m ∈ NC) ⊎ (m ∈ C) → m < s.messages
  known m h = decided_known o N.stage m c.decided h

  -- ---- the new stage

  -- its stage is settled too
  settled : Settled s (suc N.stage)
  settled i l h = grind (arith, cases_eq i N.stage, c.decided, ok.stage.settled i l)

  -- the part on the stage
  stage : StageOk t (suc N.stage) N'.delivered
  unfolding past
  stage = record {
    first = omega arith;
    settled = settled_up e settled;
    delivered_is = λ m. grind (arith, early m, ok.stage.delivered_is m, past_same e (suc N.stage) m settled);
  }

  -- ---- the order on the new sheet

  -- a message of the old sheet was delivered in an earlier stage, or early in this one
  from : (m : ℕ) → Mem m N.sheet → (m ∈ N.delivered) ⊎ ((m ∈ N.early) × (m ∉ N.delivered))
  from m h = grind (arith, cases_Bool (N.delivered m), ok.sheet.has m h)

  -- what it has not delivered is not past
  new : (m : ℕ) → m ∉ N.delivered → m ∉ past t N.stage
  new m h = sym ((stage_up e ok.stage).delivered_is m) ∙ h

  -- the decision stands afterwards
  first_same : {v : Bool} (m : ℕ) → NC m ≡ v → t.nonconflicting N.stage m ≡ v
  first_same m h = ap (λ (f : ℕ → Set). f N.stage m) c.chooser.nonconflicting ∙ h

  -- in both parts
  second_same : {v : Bool} (m : ℕ) → C m ≡ v → t.conflicting N.stage m ≡ v
  second_same m h = ap (λ (f : ℕ → Set). f N.stage m) c.chooser.conflicting ∙ h

  module _ (a b : ℕ) (k : t.conflict a b ≡ true) where
    -- two nonconflicting messages do not conflict
    both_first : a ∈ NC → b ∈ NC → Precedes t a b
    both_first p q = absurd (both_ways (t.conflict a b)
        (ap (λ (f : ℕ → ℕ → Bool). f a b) c.steps.book.conflict ∙ decided_free o N.stage a b c.decided p q) k)

    -- a message of an earlier stage comes before a new one
    before_new : a ∈ N.delivered → b ∉ N.delivered → Precedes t a b
    before_new p q = let w = stage_up e ok.stage in earlier N.stage w.settled (sym (w.delivered_is a) ∙ p) (new b q)

    -- a nonconflicting one before a conflicting one
    first_then : a ∈ NC → a ∉ N.delivered → Mem b (ascending 64 B) → Precedes t a b
    first_then p g q = let w = then_parts b q in
        sooner N.stage (settled_up e settled) (new a g) (new b w.1) (first_same a p) (first_same b w.3)
        (second_same b w.0)

    -- and the lower of two conflicting ones first
    both_then : Before (ascending 64 B) a b → Precedes t a b
    both_then p =
        let w = before_mem (ascending 64 B) a b p in
        let u = then_parts a w.0 in
        let v = then_parts b w.1 in
        lower N.stage (settled_up e settled) (new a u.1) (new b v.1) (first_same a u.3) (first_same b v.3)
        (second_same a u.0) (second_same b v.0) (ascending_before 64 B a b p)

    -- on the sheet with what comes first
    ordered_first : Before (N.sheet ++ ascending 64 A) a b → Precedes t a b
    ordered_first h = elim (before_cases N.sheet (ascending 64 A) a b h) [
      | inl p ↦ (sheet_up e ok.sheet).ordered a b k p
      | inr (inl p) ↦ elim (from a p.0) [
        | inl g ↦ before_new g (first_parts b p.1).1
        | inr g ↦ both_first (early a g.0) (first_parts b p.1).0
      ]
      | inr (inr p) ↦ let w = before_mem (ascending 64 A) a b p in both_first (first_parts a w.0).0 (first_parts b w.1).0
    ]

    -- on the whole sheet
    ordered : Before N'.sheet a b → Precedes t a b
    ordered h = elim (before_cases (N.sheet ++ ascending 64 A) (ascending 64 B) a b h) [
      | inl p ↦ ordered_first p
      | inr (inl p) ↦ elim (mem_cases a N.sheet (ascending 64 A) p.0) [
        | inl q ↦ elim (from a q) [
          | inl g ↦ before_new g (then_parts b p.1).1
          | inr g ↦ first_then (early a g.0) g.1 p.1
        ]
        | inr q ↦ first_then (first_parts a q).0 (first_parts a q).1 p.1
      ]
      | inr (inr p) ↦ both_then p
    ]

  -- ---- what is on the new sheet

  -- nothing comes twice
  once : Once N'.sheet
  once = once_join (N.sheet ++ ascending 64 A) (ascending 64 B)
      (once_join N.sheet (ascending 64 A) ok.sheet.once (ascending_once 64 A)
      (λ m p q. grind (arith, ok.sheet.has m p, first_parts m q))) (ascending_once 64 B)
      (λ m p q. grind (
        arith,
        mem_cases m N.sheet (ascending 64 A) p,
        ok.sheet.has m,
        first_parts m,
        then_parts m q,
      ))

  -- all that is on it is delivered
  into_delivered : (m : ℕ) → Mem m N'.sheet → m ∈ N'.delivered
  into_delivered m h = grind (
    arith,
    mem_cases m (N.sheet ++ ascending 64 A) (ascending 64 B) h,
    mem_cases m N.sheet (ascending 64 A),
    ok.sheet.has m,
    first_parts m,
    then_parts m,
  )

  -- and every delivered message is on it
  has_delivered : (m : ℕ) → m ∈ N'.delivered → Mem m N'.sheet
  has_delivered m h = grind (
    arith,
    ok.sheet.has_delivered m,
    ok.sheet.has_early m,
    known m,
    o.book.messages_le,
    mem_ascending 64 A m,
    mem_ascending 64 B m,
    mem_left m N.sheet (ascending 64 A),
    mem_right m N.sheet (ascending 64 A),
    mem_left m (N.sheet ++ ascending 64 A) (ascending 64 B),
    mem_right m (N.sheet ++ ascending 64 A) (ascending 64 B),
  )

  -- it was broadcast
  on_known : (m : ℕ) → Mem m N'.sheet → m < t.messages
  on_known m h = grind (
    arith,
    mem_cases m (N.sheet ++ ascending 64 A) (ascending 64 B) h,
    mem_cases m N.sheet (ascending 64 A),
    (sheet_up e ok.sheet).known m,
    known m,
    first_parts m,
    then_parts m,
    e.messages_le,
  )

  -- the part on the sheet
  sheet : SheetOk t N'.delivered none N'.sheet
  sheet = record {
    once = once;
    has = λ m h. inl (into_delivered m h);
    has_delivered = has_delivered;
    has_early = λ m h. absurd (false≢true h);
    known = on_known;
    ordered = ordered;
  }

  -- ---- the whole

  -- the part on closing: a new stage is open
  closing : ClosingOk t r (suc N.stage) false false
  closing = let b = closing_up e (λ j. back j r) ok.closing in record {
    closed = λ j l h. elim h [
      | inl w ↦ elim (cases_eq j N.stage) [
        | inl p ↦ b.closed j l (inr (p, c.closing))
        | inr d ↦ b.closed j l (inl (omega (arith, w, d)))
      ]
      | inr w ↦ absurd (false≢true w.1)
    ];
    proposed_when = λ j h. inl (grind (arith, b.proposed_when j h));
    proposed_stands = λ h. absurd (false≢true h);
  }

  -- every letter so far is of an earlier stage
  sent_before : (L : Letter) → SentBy t N L → SentBy t N' L
  sent_before L h = record {
    ack_stage = λ k. omega (arith, h.ack_stage k);
    ack_pending = λ m k p q. absurd (omega (arith, h.ack_stage k, p));
    check_stage = λ k. inl (grind (arith, h.check_stage k));
    check_cause = h.check_cause;
    check_settled = h.check_settled;
  }

  -- the letters that it took before
  taken_before : (L : Letter) → TakenBy z N L → TakenBy z N' L
  taken_before L h = record {
    stage_le = omega (arith, h.stage_le);
    data_in = h.data_in;
    ack_in = λ m k p. absurd (omega (arith, h.stage_le, p));
    check_in = λ k p. absurd (omega (arith, h.stage_le, p));
  }

  -- what holds of the node afterwards
  node_ok : NodeOk z t r N'
  node_ok = record {
    stage = stage;
    pending = none_pending t (pending_up e ok.pending);
    early = none_early z t (suc N.stage) N'.delivered;
    checks = none_kept z t (suc N.stage);
    closing = closing;
    sheet = sheet;
    sent_letters = mail_sent mail e r N N' ok sent_before (λ L h. absurd h);
    taken_letters = mail_taken mail e r N N' ok taken_before (λ A B h. absurd h);
  }

  -- the call keeps the invariant
  pub settles_ok : Ok z t
  settles_ok = record {
    book = book_keeps e c.steps.book o.book;
    post = post_keeps mail e o.post (λ A B h. absurd h) none_came (λ L B h. absurd h) (λ L i h. absurd h);
    chooser = chooser_keeps e c.chooser o.chooser;
    nodes = acts o e mail r N' c.becomes node_ok (λ x j d. back j x) (λ L h. absurd h) (λ A B h. absurd h);
  }
