-- A gathering node hears an acknowledgement of its stage, and delivers early what now has a quorum.
use Rattle.std.proofs.Common.{◌≡◌, ℕ, ◌<◌, ◌≤◌, true, false, ◌&&◌, eqb, ◌⊎◌, sym, refl, ◌∙◌, subst, inl, inr, arith}
use Rattle.std.proofs.lemmas.Bool.{cases_Bool, both_ways, or_cases, and_parts, eqb-true, eq-eqb}
use Rattle.std.proofs.lemmas.Bool.{leb-true, le-leb}
use Rattle.protocol.specs.Sets.{Set, ◌∈◌, ◌∉◌, count}
use Rattle.protocol.specs.Lists.{Mem, Before, ascending}
use Rattle.protocol.specs.Ring.{Size, State, Node, Letter, taken}
use Rattle.protocol.specs.Nodes.{after_hearing, newly}
use Rattle.protocol.specs.Calls.{Hears, taker}
use Rattle.protocol.proofs.Facts.{Acknowledged, Precedes, earlier}
use Rattle.protocol.proofs.Invariant.{EarlyOk, SheetOk, TakenBy, NodeOk, PostOk, Ok}
use Rattle.protocol.proofs.Continuing.{Continues, acknowledged_up, stage_up, pending_up, checks_up, closing_up, sheet_up}
use Rattle.protocol.proofs.Mail.{mail_sent, mail_taken, turned_is, Turned}
use Rattle.protocol.proofs.Counting.{count_mono, count_one, quorums_meet}
use Rattle.protocol.proofs.Lists.{mem_left, mem_right, mem_cases, once_join, before_cases, before_mem, ascending_mem}
use Rattle.protocol.proofs.Lists.{mem_ascending, ascending_once}
use Rattle.protocol.proofs.Receiving as receiving

-- two messages that a quorum each acknowledged in one stage do not conflict: some node acknowledged both
quorum_free : {z : Size} {t : State} → PostOk z t → (j a b : ℕ) (H K : Set) → z.ack ≤ count z.n H → z.ack ≤ count z.n K
    → ((x : ℕ) → x < z.n → x ∈ H → Acknowledged t x j a) → ((x : ℕ) → x < z.n → x ∈ K → Acknowledged t x j b)
    → t.conflict a b ≡ false
quorum_free {z} p j a b H K h k f g =
    let o = quorums_meet z.n H K (omega (arith, h, k, z.meet, z.chk_le)) in
    let u = f o.0 o.1 o.2 in
    let v = g o.0 o.1 o.3 in
    (p.pairs u.0 v.0 u.1.place v.1.place).ack_free a b (u.1.sender ∙ sym v.1.sender)
    (u.1.stage ∙ sym v.1.stage) u.1.kind v.1.kind u.2 v.2

module _ {z : Size} {s t : State} (i : ℕ) (o : Ok z s) (c : Hears z s t i) where
  -- the receiver
  abbrev r : ℕ
  r = (s.letter i).receiver

  -- the node before the call
  abbrev N : Node
  N = taker s i

  -- the sender
  abbrev x : ℕ
  x = (s.letter i).sender

  -- what the letter holds
  abbrev S : Set
  S = (s.letter i).set

  -- the node after the call
  abbrev N' : Node
  N' = after_hearing z x S (taker s i)

  -- what it delivers now
  abbrev D : Set
  D = newly z (taker s i) x S

  -- what holds of the node before
  ok : NodeOk z s r N
  ok = receiving.receiver_ok o i c.takes

  -- the new state continues the old one
  e : Continues s t
  e = receiving.continues o i c.takes c.silent

  -- ---- whom it has heard

  -- nobody is forgotten
  more : (m y : ℕ) → y ∈ N.heard m → y ∈ N'.heard m
  more m y h = grind (arith, h)

  -- everybody that it heard acknowledged the message
  heard_from : (m y : ℕ) → y < z.n → y ∈ N'.heard m → Acknowledged t y N.stage m
  heard_from m y l h = elim (or_cases (N.heard m y) (eqb y x && S m) h) [
    | inl p ↦ acknowledged_up e y N.stage m (ok.early.heard_from m y l p)
    | inr p ↦ new (and_parts (eqb y x) (S m) p)
  ]
    where
      new : (eqb y x ≡ true) × (S m ≡ true) → Acknowledged t y N.stage m
      new w = acknowledged_up e y N.stage m
          (i, record { place = c.takes.place; kind = c.kind; sender = sym (eqb-true y x w.0); stage = c.stage }, w.1)

  -- ---- what it delivers

  -- what is delivered now has a quorum and was not delivered before
  fresh : (m : ℕ) → m ∈ D → (z.ack ≤ count z.n (N'.heard m)) × (m ∉ N.delivered) × (m ∉ N.early)
  fresh m h = (
    leb-true z.ack (count z.n (N'.heard m)) (grind (arith, h)),
    grind (arith, h),
    grind (arith, h),
  )

  -- what it delivered early has a quorum
  early_heard : (m : ℕ) → m ∈ N'.early → z.ack ≤ count z.n (N'.heard m)
  early_heard m h =
      grind (arith, ok.early.early_heard m, fresh m, count_mono z.n (N.heard m) (N'.heard m) (λ y l q. more m y q))

  -- what a quorum acknowledged was broadcast
  quorum_known : (m : ℕ) → z.ack ≤ count z.n (N'.heard m) → m < t.messages
  quorum_known m h =
      let w = count_one z.n (N'.heard m) (omega (arith, h, z.meet, z.chk_le)) in
      let a = heard_from m w.0 w.1 w.2 in
      ((receiving.post o i c.takes c.silent).each a.0 a.1.place).unspoilt.known m a.2

  -- no two early messages conflict
  early_free : (a b : ℕ) → a ∈ N'.early → b ∈ N'.early → t.conflict a b ≡ false
  early_free a b h k =
      quorum_free (receiving.post o i c.takes c.silent) N.stage a b (N'.heard a) (N'.heard b) (early_heard a h)
      (early_heard b k) (heard_from a) (heard_from b)

  -- the part on early delivery
  early : EarlyOk z t N.stage N.delivered N'.early N'.heard N.closing
  early = record {
    heard_from = heard_from;
    early_heard = early_heard;
    early_new = λ m h. grind (arith, ok.early.early_new m, fresh m);
    heard_early = λ m g h. grind (
      arith,
      le-leb z.ack (count z.n (N'.heard m)) h,
      cases_Bool (N.delivered m),
      cases_Bool (N.early m),
    );
  }

  -- ---- its sheet

  -- what comes onto the sheet is delivered now
  on_new : (m : ℕ) → Mem m (ascending 64 D) → m ∈ D
  on_new m h = (ascending_mem 64 D m h).1

  -- and is early
  into_early : (m : ℕ) → m ∈ D → m ∈ N'.early
  into_early m h = grind (arith, h)

  -- the sheet has delivered and early messages only
  has : (m : ℕ) → Mem m N'.sheet → (m ∈ N.delivered) ⊎ (m ∈ N'.early)
  has m h = grind (arith, mem_cases m N.sheet (ascending 64 D) h, ok.sheet.has m, on_new m)

  -- a conflicting pair on the new sheet: the first is of an earlier stage
  ordered : (a b : ℕ) → t.conflict a b ≡ true → Before N'.sheet a b → Precedes t a b
  ordered a b k h = elim (before_cases N.sheet (ascending 64 D) a b h) [
    | inl p ↦ (sheet_up e ok.sheet).ordered a b k p
    | inr (inl p) ↦ go (has a (mem_left a N.sheet (ascending 64 D) p.0)) (on_new b p.1)
    | inr (inr p) ↦ let w = before_mem (ascending 64 D) a b p in
        both_early (into_early a (on_new a w.0)) (into_early b (on_new b w.1))
  ]
    where
      both_early : a ∈ N'.early → b ∈ N'.early → Precedes t a b
      both_early p q = absurd (both_ways (t.conflict a b) (early_free a b p q) k)

      go : (a ∈ N.delivered) ⊎ (a ∈ N'.early) → b ∈ D → Precedes t a b
      go (inl g) p = let w = stage_up e ok.stage in
          earlier N.stage w.settled (sym (w.delivered_is a) ∙ g) (sym (w.delivered_is b) ∙ (fresh b p).1)
      go (inr g) p = both_early g (into_early b p)

  -- the part on the sheet
  sheet : SheetOk t N.delivered N'.early N'.sheet
  sheet = let b = sheet_up e ok.sheet in record {
    once = once_join N.sheet (ascending 64 D) ok.sheet.once (ascending_once 64 D) (λ m p q.
        let w = fresh m (on_new m q) in
        grind (arith, ok.sheet.has m p, w.1, w.2));
    has = has;
    has_delivered = λ m h. mem_left m N.sheet (ascending 64 D) (ok.sheet.has_delivered m h);
    has_early = λ m h. grind (
      arith,
      ok.sheet.has_early m,
      mem_left m N.sheet (ascending 64 D),
      mem_right m N.sheet (ascending 64 D),
      mem_ascending 64 D m,
      quorum_known m,
      fresh m,
      c.takes.book.messages,
      o.book.messages_le,
    );
    known = λ m h. grind (arith, mem_cases m N.sheet (ascending 64 D) h, b.known m, quorum_known m, on_new m, fresh m);
    ordered = ordered;
  }

  -- ---- the whole

  -- the letters that it took before
  taken_before : (L : Letter) → TakenBy z N L → TakenBy z N' L
  taken_before L h = record {
    stage_le = h.stage_le;
    data_in = h.data_in;
    ack_in = λ m p q g k. more m L.sender (h.ack_in m p q g k);
    check_in = h.check_in;
  }

  -- the letter that it takes now
  taken_now : (A B : Letter) → Turned s i taken A B → B.receiver ≡ r → B.mark ≡ taken → TakenBy z N' B
  taken_now A B h f v = subst (λ (L : Letter). TakenBy z N' L) (sym (turned_is s i taken A B h)) (record {
    stage_le = c.takes.not_ahead;
    data_in = λ a p. absurd (omega (arith, p, c.kind));
    ack_in = λ m p q g k. grind (arith, k, eq-eqb x x refl);
    check_in = λ p. absurd (omega (arith, p, c.kind));
  })

  -- the call keeps the invariant
  pub hears_ok : Ok z t
  hears_ok = let mail = receiving.mail o i c.takes c.silent in
      receiving.whole o i c.takes c.silent N' c.becomes (record {
        stage = stage_up e ok.stage;
        pending = pending_up e ok.pending;
        early = early;
        checks = checks_up e ok.checks;
        closing = closing_up e (λ j. receiving.no_proposal o i c.takes j r) ok.closing;
        sheet = sheet;
        sent_letters = mail_sent mail e r N N' ok (λ L h. h) (λ L h. absurd h);
        taken_letters = mail_taken mail e r N N' ok taken_before taken_now;
      })
