-- What a call of the ring makes of a world of a day: it is a call of the protocol, so that the world stays joined.
use Rattle.std.proofs.Common.{ℕ, ◌≤◌, refl}
use Rattle.record.specs.Kind.{Kind}
use Rattle.chooser.specs.Meaning.{Meaning}
use Rattle.protocol.specs.Runs.{Call, refused}
use Rattle.protocol.proofs.Running.{call_ok}
use Rattle.rows.specs.declared.size.RingSize.{RingSize}
use Rattle.ring.specs.World.{World}
use Rattle.ring.proofs.Seeing.{seen, ChooserFine, Fine, size_of, Joined}

-- the worlds before and after it are seen as a call of the protocol, and what is known besides holds after it
pub record Called (K : Kind) (z : RingSize) (need : ℕ) (low : 1 ≤ need) (high : need ≤ z.q) (w : World) (M : Meaning)
    (v : World) (N : Meaning) : Type 0 where
  pub call : Call (size_of z need low high) (seen K w M) (seen K v N)
  pub fine : Fine K z v
  pub chooser : ChooserFine z need N

module _ {K : Kind} {z : RingSize} {need : ℕ} {low : 1 ≤ need} {high : need ≤ z.q} {w : World} {M : Meaning}
    (j : Joined K z need low high w M) where
  -- so the world after it is joined
  pub stays_joined : {v : World} {N : Meaning} → Called K z need low high w M v N → Joined K z need low high v N
  stays_joined c = record { ok = call_ok j.ok c.call; fine = c.fine; chooser = c.chooser }

  -- a refused call changes nothing
  pub refused_called : Called K z need low high w M w M
  refused_called = record { call = refused refl; fine = j.fine; chooser = j.chooser }
