-- A node receives data of a new message that it broadcast itself: it need not send it on.
use Rattle.std.proofs.Common.{ℕ, subst}
use Rattle.protocol.specs.Ring.{Size, State}
use Rattle.protocol.specs.Nodes.{after_data}
use Rattle.protocol.specs.Calls.{ReceivesOwn, taker}
use Rattle.protocol.proofs.Facts.{Told}
use Rattle.protocol.proofs.Invariant.{Ok}
use Rattle.protocol.proofs.Continuing.{told_up}
use Rattle.protocol.proofs.Receiving as receiving
use Rattle.protocol.proofs.ReceivingData.{m_known, data_node_ok}

-- the call keeps the invariant
pub receives_own_ok : {z : Size} {s t : State} (i m : ℕ) → Ok z s → ReceivesOwn z s t i m → Ok z t
receives_own_ok {z} {s} {t} i m o c =
    let k = c.takes in
    let e = receiving.continues o i k c.silent in
    let known = m_known o i m k c.kind c.message in
    let told : Told t (s.letter i).receiver m =
    subst (λ (x : ℕ). Told t x m) c.own (told_up e (s.broadcaster m) m (o.book.told m known)) in
    receiving.whole o i k c.silent (after_data m (taker s i)) c.becomes
    (data_node_ok o i m k c.kind c.message e (receiving.mail o i k c.silent) (λ L h. absurd h) told)
