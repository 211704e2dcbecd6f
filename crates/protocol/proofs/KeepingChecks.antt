-- A node receives a check of its stage and keeps it.
use Rattle.std.proofs.Common.{◌≡◌, ℕ, ◌<◌, ◌≤◌, true, false, cond, eqb, ◌⊎◌, sym, refl, subst, inl, inr, arith}
use Rattle.std.proofs.lemmas.Bool.{or_cases, eqb-true, eq-eqb, cond-true, cond-false}
use Rattle.protocol.specs.Sets.{Set, ◌∈◌, count, only}
use Rattle.protocol.specs.Ring.{Size, State, Node, Letter, taken}
use Rattle.protocol.specs.Setters.{with_check}
use Rattle.protocol.specs.Calls.{KeepsCheck, taker}
use Rattle.protocol.proofs.Facts.{Checked}
use Rattle.protocol.proofs.Invariant.{TakenBy, NodeOk, Ok}
use Rattle.protocol.proofs.Continuing.{Continues, checked_up, stage_up, pending_up, early_up, closing_up, sheet_up}
use Rattle.protocol.proofs.Mail.{mail_sent, mail_taken, turned_is, Turned}
use Rattle.protocol.proofs.Counting.{count_mono, count_join, count_only}
use Rattle.protocol.proofs.Receiving as receiving

module _ {z : Size} {s t : State} (i : ℕ) (o : Ok z s) (c : KeepsCheck z s t i) where
  -- the receiver
  abbrev r : ℕ
  r = (s.letter i).receiver

  -- the node before the call
  abbrev N : Node
  N = taker s i

  -- the sender
  abbrev x : ℕ
  x = (s.letter i).sender

  -- what the letter holds
  abbrev S : Set
  S = (s.letter i).set

  -- the node after the call
  abbrev N' : Node
  N' = with_check x S (taker s i)

  -- what holds of the node before
  ok : NodeOk z s r N
  ok = receiving.receiver_ok o i c.takes

  -- the new state continues the old one
  e : Continues s t
  e = receiving.continues o i c.takes c.silent

  -- each kept check was sent: an old one, or this one
  checked : (y : ℕ) → y < z.n → (y ∈ N.kept) ⊎ (eqb y x ≡ true) → Checked t y N.stage (cond (eqb y x) S (N.check y))
  checked y l (inl h) =
      let other : eqb y x ≡ false = grind (arith, c.new, eqb-true y x) in
      subst (λ (T : Set). Checked t y N.stage T) (sym (cond-false (eqb y x) S (N.check y) other))
      (checked_up e y N.stage (N.check y) (ok.checks.kept_from y l h))
  checked y l (inr h) =
      subst (λ (T : Set). Checked t y N.stage T) (sym (cond-true (eqb y x) S (N.check y) h))
      (checked_up e y N.stage S
      (i, record { place = c.takes.place; kind = c.kind; sender = sym (eqb-true y x h); stage = c.stage }, refl))

  -- the check that was kept counts, and so do the others
  more : count z.n N.kept ≤ count z.n N'.kept
  more = count_mono z.n N.kept N'.kept (λ y l h. grind arith)

  -- the letters that it took before
  taken_before : (L : Letter) → TakenBy z N L → TakenBy z N' L
  taken_before L h = record {
    stage_le = h.stage_le;
    data_in = h.data_in;
    ack_in = h.ack_in;
    check_in = λ p q. grind (arith, h.check_in p q, more);
  }

  -- the letter that it takes now
  taken_now : (A B : Letter) → Turned s i taken A B → B.receiver ≡ r → B.mark ≡ taken → TakenBy z N' B
  taken_now A B h f v = subst (λ (L : Letter). TakenBy z N' L) (sym (turned_is s i taken A B h)) (record {
    stage_le = c.takes.not_ahead;
    data_in = λ a p. absurd (omega (arith, p, c.kind));
    ack_in = λ a p. absurd (omega (arith, p, c.kind));
    check_in = λ p q. inl (grind (arith, eq-eqb x x refl));
  })

  -- the call keeps the invariant
  pub keeps_check_ok : Ok z t
  keeps_check_ok = let mail = receiving.mail o i c.takes c.silent in
      receiving.whole o i c.takes c.silent N' c.becomes (record {
        stage = stage_up e ok.stage;
        pending = pending_up e ok.pending;
        early = early_up e ok.early;
        checks = record {
          kept_from = λ y l h. checked y l (or_cases (N.kept y) (eqb y x) h);
          kept_few = omega (arith, c.few, count_join z.n N.kept (only x), count_only z.n x);
        };
        closing = closing_up e (λ j. receiving.no_proposal o i c.takes j r) ok.closing;
        sheet = sheet_up e ok.sheet;
        sent_letters = mail_sent mail e r N N' ok (λ L h. h) (λ L h. absurd h);
        taken_letters = mail_taken mail e r N N' ok taken_before taken_now;
      })
