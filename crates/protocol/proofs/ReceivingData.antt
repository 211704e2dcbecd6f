-- What the two receipts of data of a new message have in common: the receiver has it from then on.
use Rattle.std.proofs.Common.{◌≡◌, ℕ, ◌<◌, eqb, sym, refl, subst, inl, inr, arith}
use Rattle.std.proofs.lemmas.Bool.{or_cases, eqb-true, eq-eqb}
use Rattle.protocol.specs.Sets.{◌∈◌, only}
use Rattle.protocol.specs.Ring.{Size, State, Node, Letter, data_letter, taken}
use Rattle.protocol.specs.Nodes.{after_data}
use Rattle.protocol.specs.Calls.{Takes, taker}
use Rattle.protocol.proofs.Facts.{cause_in, carry, Told}
use Rattle.protocol.proofs.Invariant.{PendingOk, SentBy, TakenBy, NodeOk, Ok}
use Rattle.protocol.proofs.Continuing.{Continues, stage_up, pending_up, early_up, checks_up, closing_up, sheet_up}
use Rattle.protocol.proofs.Mail.{Mail, mail_sent, mail_taken, turned_is, Turned}
use Rattle.protocol.proofs.Broadcasting.{data_sent_ok}
use Rattle.protocol.proofs.Receiving as receiving

module _ {z : Size} {s t : State} (o : Ok z s) (i m : ℕ) (k : Takes s t i) (kind : (s.letter i).kind ≡ data_letter)
    (message : (s.letter i).set ≡ only m) where
  -- the receiver
  abbrev r : ℕ
  r = (s.letter i).receiver

  -- the node before the call
  abbrev N : Node
  N = taker s i

  -- the node after the call
  abbrev N' : Node
  N' = after_data m (taker s i)

  -- what holds of the node before
  ok : NodeOk z s r N
  ok = receiving.receiver_ok o i k

  -- the message was broadcast
  pub m_known : m < s.messages
  m_known = (o.post.each i k.place).unspoilt.known m (carry m (sym message) (eq-eqb m m refl))

  -- what was received before is received still
  wider : (a : ℕ) → a ∈ N.received → a ∈ N'.received
  wider a h = grind arith

  module _ {Come : Letter → Type 0} (e : Continues s t) (mail : Mail z s t (Turned s i taken) Come)
      (data-only : (L : Letter) → Come L → L.kind ≡ data_letter) (told : Told t r m) where
    -- the part on what it received
    pending : PendingOk t r N.stage N'.received N.delivered N.pending
    pending = let b = pending_up e ok.pending in record {
      received_known = λ a h. grind (arith, b.received_known a, eqb-true a m, m_known, e.messages_le);
      received_told = λ a h. elim (or_cases (N.received a) (eqb a m) h) [
        | inl p ↦ b.received_told a p
        | inr p ↦ subst (λ (y : ℕ). Told t r y) (sym (eqb-true a m p)) told
      ];
      pending_received = λ a h. wider a (ok.pending.pending_received a h);
      pending_new = b.pending_new;
      pending_free = b.pending_free;
      pending_sent = b.pending_sent;
    }

    -- the cause of an older check stays in the received set
    sent_before : (L : Letter) → SentBy t N L → SentBy t N' L
    sent_before L h = record {
      ack_stage = h.ack_stage;
      ack_pending = h.ack_pending;
      check_stage = h.check_stage;
      check_cause = λ p. cause_in N.received N'.received (λ a k n. wider a k) (h.check_cause p);
      check_settled = h.check_settled;
    }

    -- the letters that it took before
    taken_before : (L : Letter) → TakenBy z N L → TakenBy z N' L
    taken_before L h = record {
      stage_le = h.stage_le;
      data_in = λ a p q. wider a (h.data_in a p q);
      ack_in = h.ack_in;
      check_in = h.check_in;
    }

    -- the letter that it takes now
    taken_now : (A B : Letter) → Turned s i taken A B → B.receiver ≡ r → B.mark ≡ taken → TakenBy z N' B
    taken_now A B h f v = subst (λ (L : Letter). TakenBy z N' L) (sym (turned_is s i taken A B h)) (record {
      stage_le = k.not_ahead;
      data_in = λ a p q. grind (arith, carry a message q);
      ack_in = λ a p. absurd (omega (arith, p, kind));
      check_in = λ p. absurd (omega (arith, p, kind));
    })

    -- what holds of the receiver afterwards
    pub data_node_ok : NodeOk z t r N'
    data_node_ok = record {
      stage = stage_up e ok.stage;
      pending = pending;
      early = early_up e ok.early;
      checks = checks_up e ok.checks;
      closing = closing_up e (λ j. receiving.no_proposal o i k j r) ok.closing;
      sheet = sheet_up e ok.sheet;
      sent_letters = mail_sent mail e r N N' ok sent_before (λ L c h. data_sent_ok N' L (data-only L c));
      taken_letters = mail_taken mail e r N N' ok taken_before taken_now;
    }
