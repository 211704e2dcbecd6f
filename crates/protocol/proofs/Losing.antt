-- A letter of a crashed sender, or to a crashed receiver, is lost.
use Rattle.std.proofs.Common.{ℕ, refl, inr, arith}
use Rattle.protocol.specs.Ring.{Size, State, lost}
use Rattle.protocol.specs.Calls.{Loses}
use Rattle.protocol.proofs.Invariant.{Ok}
use Rattle.protocol.proofs.Marking.{marks_ok}

-- the call keeps the invariant
pub loses_ok : {z : Size} {s t : State} (i : ℕ) → Ok z s → Loses z s t i → Ok z t
loses_ok i o c =
    marks_ok o i lost c.marks c.silent c.nodes c.book c.chooser c.live (inr (refl, c.crashed))
    (λ v. absurd (omega (arith, v)))
