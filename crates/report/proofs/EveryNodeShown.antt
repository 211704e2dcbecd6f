-- After a day every node's sheet can be shown, so that every node has its line.
use Rattle.std.proofs.Common.{◌≡◌, ℕ, ◌<◌, [], length, is_ok, Some, None, Ok, Option, refl, ap}
use Rattle.std.proofs.lemmas.Bool.{false≢true}
use Rattle.record.specs.Kind.{Kind}
use Rattle.chooser.specs.Meaning.{Meaning}
use Rattle.rows.specs.Causes.{first, answer, unless}
use Rattle.rows.specs.declared.refusal.Refusal.{Refusal}
use Rattle.rows.specs.declared.size.RingSize.{RingSize}
use Rattle.ring.specs.World.{World}
use Rattle.ring.specs.CatchUp.{catch_up_refusal, played, since}
use Rattle.ring.specs.Promises.{Kept}
use Rattle.ring.specs.Show.{sheet_of, show_refusal}

-- an answer that is no refusal has no first cause
no_cause : (o n : Option Refusal) (j k : ℕ) → answer (first o n) j ≡ Ok k → o ≡ None
no_cause None n j k e = refl
no_cause (Some d) n j k e = absurd (false≢true (ap is_ok e))

-- playing is never refused, and what can be played can be shown
pub every_node_shown : (K : Kind) (z : RingSize) (w : World) (M : Meaning) → Kept K z w M → (r : ℕ) → r < z.n →
    show_refusal w r ≡ None
every_node_shown K z w M k r l =
    no_cause (show_refusal w r) _ (length (sheet_of w r)) (length (sheet_of w r))
    (k.playable r l (answer (catch_up_refusal K w r 0) (length (sheet_of w r))) []
    (unless (catch_up_refusal K w r 0) (played K w.book [] (since w r 0)) []) (refl, refl))
