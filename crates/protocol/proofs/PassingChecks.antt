-- A node receives a check that it does not keep: of an earlier stage, one too many, or a second one of its sender.
use Rattle.std.proofs.Common.{ℕ, refl, inl, arith}
use Rattle.protocol.specs.Ring.{Size, State, taken}
use Rattle.protocol.specs.Calls.{PassesCheck}
use Rattle.protocol.proofs.Invariant.{Ok}
use Rattle.protocol.proofs.Marking.{marks_ok}

-- the call keeps the invariant
pub passes_check_ok : {z : Size} {s t : State} (i : ℕ) → Ok z s → PassesCheck z s t i → Ok z t
passes_check_ok i o c = let k = c.takes in
    marks_ok o i taken k.marks c.silent c.nodes k.book k.chooser k.live (inl refl) (λ v. record {
      stage_le = k.not_ahead;
      data_in = λ a q. absurd (omega (arith, q, c.kind));
      ack_in = λ a q. absurd (omega (arith, q, c.kind));
      check_in = λ q g. grind (arith, c.late, g);
    })
