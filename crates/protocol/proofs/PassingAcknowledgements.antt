-- A node receives an acknowledgement of an earlier stage, or one while it closes: it passes it over.
use Rattle.std.proofs.Common.{ℕ, refl, inl, arith}
use Rattle.protocol.specs.Ring.{Size, State, taken}
use Rattle.protocol.specs.Calls.{PassesAcknowledgement}
use Rattle.protocol.proofs.Invariant.{Ok}
use Rattle.protocol.proofs.Marking.{marks_ok}

-- the call keeps the invariant
pub passes_acknowledgement_ok : {z : Size} {s t : State} (i : ℕ) → Ok z s → PassesAcknowledgement z s t i → Ok z t
passes_acknowledgement_ok {z} {s} i o c = let k = c.takes in
    marks_ok o i taken k.marks c.silent c.nodes k.book k.chooser k.live (inl refl) (λ v. record {
      stage_le = k.not_ahead;
      data_in = λ a q. absurd (omega (arith, q, c.kind));
      ack_in = λ a q g f h. grind (arith, c.late, g, f);
      check_in = λ q. absurd (omega (arith, q, c.kind));
    })
