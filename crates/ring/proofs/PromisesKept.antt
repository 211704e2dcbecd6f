-- What a world of a day promises: each promise, from what is known of the state that the world is seen as.
use Rattle.std.proofs.Common.{ℕ, ◌≤◌}
use Rattle.record.specs.Kind.{Kind, Laws}
use Rattle.chooser.specs.Meaning.{Meaning}
use Rattle.protocol.proofs.Promises.{one_order}
use Rattle.protocol.proofs.Rest.{everywhere, delivered}
use Rattle.rows.specs.declared.size.RingSize.{RingSize}
use Rattle.ring.specs.World.{World}
use Rattle.ring.specs.Promises.{Kept}
use Rattle.ring.proofs.QuietSeen.{quiet_seen}
use Rattle.ring.proofs.Seeing.{Joined}
use Rattle.ring.proofs.SheetsPlayed.{never_unplayable, same_list}

-- every promise is kept
pub promises_kept : (K : Kind) → Laws K → (z : RingSize) (need : ℕ) (low : 1 ≤ need) (high : need ≤ z.q)
    (w : World) (M : Meaning) → Joined K z need low high w M → Kept K z w M
promises_kept K laws z need low high w M j = record {
  one_order = one_order j.ok;
  once = λ r l. (j.ok.nodes r l).sheet.once;
  broadcast = λ r m l h. (j.ok.nodes r l).sheet.known m h;
  playable = never_unplayable laws j;
  same_list = same_list laws j;
  everywhere = λ q. everywhere j.ok (quiet_seen j q);
  delivered = λ q r m l b k v. delivered j.ok (quiet_seen j q) m r l b k v;
}
