-- A receipt keeps all that holds of a world of a day.
use Rattle.std.proofs.Common.{ℕ, ◌≤◌, Result, inl, inr}
use Rattle.record.specs.Kind.{Kind}
use Rattle.chooser.specs.Meaning.{Meaning}
use Rattle.rows.specs.declared.refusal.Refusal.{Refusal}
use Rattle.rows.specs.declared.size.RingSize.{RingSize}
use Rattle.ring.specs.World.{World}
use Rattle.ring.specs.Receive.{Receives, receive_refusal, received}
use Rattle.ring.proofs.Called.{Called, refused_called}
use Rattle.ring.proofs.Causes.{either_way}
use Rattle.ring.proofs.CheckJoined.{check_joined}
use Rattle.ring.proofs.DataJoined.{data_joined}
use Rattle.ring.proofs.HearingJoined.{acknowledgement_joined}
use Rattle.ring.proofs.ReceiptWays.{Accepted, accepted, unspoilt}
use Rattle.ring.proofs.Seeing.{Joined}

module _ {K : Kind} {z : RingSize} {need : ℕ} {low : 1 ≤ need} {high : need ≤ z.q} {w : World} {M : Meaning}
    (j : Joined K z need low high w M) (place : ℕ) where
  -- one that nothing refuses, of a letter of any kind
  received_joined : Accepted w place → Called K z need low high w M (received w place) M
  received_joined t = elim (unspoilt j place t).kinds [
    | inl kind ↦ data_joined j place t kind
    | inr (inl kind) ↦ acknowledgement_joined j place t kind
    | inr (inr kind) ↦ check_joined j place t kind
  ]

  -- any receipt: one that is refused changes nothing
  pub receives_joined : (r : Result (Unit {0}) Refusal) (v : World) → Receives w place r v → Called K z need low high w M v M
  receives_joined r v h =
      either_way (λ (u : World). Called K z need low high w M u M) (receive_refusal w place) (received w place) w v h.1
      (λ e. received_joined (accepted w place e)) (refused_called j)
