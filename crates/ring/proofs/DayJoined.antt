-- Every day from an accepted start stays joined to the protocol, and so keeps every promise.
use Rattle.std.proofs.Common.{ℕ, ◌≤◌, Result}
use Rattle.record.specs.Kind.{Kind, Laws}
use Rattle.chooser.specs.Meaning.{Meaning, Sound}
use Rattle.rows.specs.declared.refusal.Refusal.{Refusal}
use Rattle.rows.specs.declared.size.RingSize.{RingSize}
use Rattle.ring.specs.World.{World}
use Rattle.ring.specs.Start.{Starts}
use Rattle.ring.specs.Day.{Day, begins, broadcasts, receives, steps, crashes, loses}
use Rattle.ring.specs.Theorem.{EveryDayKeeps}
use Rattle.ring.proofs.BroadcastJoined.{broadcasts_joined}
use Rattle.ring.proofs.Called.{stays_joined}
use Rattle.ring.proofs.FailureJoined.{crashes_joined, loses_joined}
use Rattle.ring.proofs.HistoryTold.{history_told}
use Rattle.ring.proofs.PromisesKept.{promises_kept}
use Rattle.ring.proofs.ReceiptJoined.{receives_joined}
use Rattle.ring.proofs.Seeing.{Joined}
use Rattle.ring.proofs.StartJoined.{start_high, start_joined, each_start}
use Rattle.ring.proofs.StepJoined.{steps_joined}

-- call by call
pub day_joined : {K : Kind} {z : RingSize} {need : ℕ} {low : 1 ≤ need} {high : need ≤ z.q} {w₀ : World} {M₀ : Meaning}
    → Laws K → Joined K z need low high w₀ M₀ → (w : World) (M : Meaning) → Day K w₀ M₀ w M → Joined K z need low high w M
day_joined laws j _ _ begins = j
day_joined laws j _ _ (broadcasts w M node c r v d h) =
    let before = day_joined laws j w M d in stays_joined before (broadcasts_joined laws before node c r v h)
day_joined laws j _ _ (receives w M place r v d h) =
    let before = day_joined laws j w M d in stays_joined before (receives_joined before place r v h)
day_joined laws j _ _ (steps w M node r v N d h sound) =
    let before = day_joined laws j w M d in stays_joined before (steps_joined before node r v N sound h)
day_joined laws j _ _ (crashes w M node r s d h) =
    let before = day_joined laws j w M d in stays_joined before (crashes_joined before node r s h)
day_joined laws j _ _ (loses w M place r v d h) =
    let before = day_joined laws j w M d in stays_joined before (loses_joined before place r v h)

-- whatever a start answers and leaves
pub every_day_keeps : (z : RingSize) (u v : World) (M : Meaning) (r : Result (Unit {0}) Refusal) → Sound M → Starts z u M r v →
    EveryDayKeeps z r v M
every_day_keeps z u v M r sound h = each_start (λ a w. EveryDayKeeps z a w M) z u v M r h
    (λ e K laws w N d. (
      promises_kept K laws z M.need sound.need_low (start_high z u M e) w N
          (day_joined laws (start_joined z u M e sound K laws) w N d),
      history_told z u d,
    ))
    (λ e. tt)
