-- A node receives data of a new message of another node, and sends it on to all.
use Rattle.std.proofs.Common.{ℕ, inl, inr, arith}
use Rattle.protocol.specs.Sets.{only}
use Rattle.protocol.specs.Ring.{Size, State, data_letter, taken}
use Rattle.protocol.specs.Nodes.{after_data}
use Rattle.protocol.specs.Calls.{Relays, taker}
use Rattle.protocol.proofs.Facts.{same_sender}
use Rattle.protocol.proofs.Invariant.{Ok}
use Rattle.protocol.proofs.Continuing.{Continues}
use Rattle.protocol.proofs.Mail.{Mail, mail_both, post_keeps, Turned, SentNew}
use Rattle.protocol.proofs.Acting.{continues_same, book_keeps, chooser_keeps, acts}
use Rattle.protocol.proofs.Broadcasting.{data_letter_ok, data_pair_ok, data_kind, data_told}
use Rattle.protocol.proofs.Receiving as receiving
use Rattle.protocol.proofs.ReceivingData.{m_known, data_node_ok}

-- the call keeps the invariant
pub relays_ok : {z : Size} {s t : State} (i m : ℕ) → Ok z s → Relays z s t i m → Ok z t
relays_ok {z} {s} {t} i m o c =
    let k = c.takes in
    let r : ℕ = (s.letter i).receiver in
    let r-in = receiving.receiver_in o i k in
    let known = m_known o i m k c.kind c.message in
    let mail : Mail z s t (Turned s i taken) (SentNew z r data_letter 0 (only m)) = mail_both i taken c.sends k.marks in
    let e : Continues s t = continues_same mail k.book k.chooser (receiving.live o i k) in
    record {
      book = book_keeps e k.book o.book;
      post = post_keeps mail e o.post (receiving.turned_mark o i k)
          (data_letter_ok r m r-in (omega (arith, known, e.messages_le)))
          (λ L M h k. data_pair_ok L M (inl (data_kind z r m L h))) (λ L l h k. (
            data_pair_ok L (s.letter l) (inl (data_kind z r m L h)),
            data_pair_ok (s.letter l) L (inr (data_kind z r m L h)),
          ));
      chooser = chooser_keeps e k.chooser o.chooser;
      nodes = acts o e mail r (after_data m (taker s i)) c.becomes
          (data_node_ok o i m k c.kind c.message e mail (data_kind z r m) (data_told {s = s} r m r-in c.sends))
          (λ x j d. receiving.no_proposal o i k j x) (λ L h. same_sender h.2)
          (receiving.turned_receiver o i k);
    }
