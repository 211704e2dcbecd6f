-- A node receives data of a message that it has.
use Rattle.std.proofs.Common.{ℕ, refl, inl, arith}
use Rattle.std.proofs.lemmas.Bool.{eqb-true}
use Rattle.protocol.specs.Ring.{Size, State, taken}
use Rattle.protocol.specs.Calls.{ReceivesKnown}
use Rattle.protocol.proofs.Facts.{carry}
use Rattle.protocol.proofs.Invariant.{Ok}
use Rattle.protocol.proofs.Marking.{marks_ok}

-- the call keeps the invariant
pub receives_known_ok : {z : Size} {s t : State} (i m : ℕ) → Ok z s → ReceivesKnown z s t i m → Ok z t
receives_known_ok {z} {s} i m o c = let k = c.takes in
    marks_ok o i taken k.marks c.silent c.nodes k.book k.chooser k.live (inl refl) (λ v. record {
      stage_le = k.not_ahead;
      data_in = λ a q w. grind (arith, eqb-true a m (carry a c.message w), c.known);
      ack_in = λ a q. absurd (omega (arith, q, c.kind));
      check_in = λ q. absurd (omega (arith, q, c.kind));
    })
