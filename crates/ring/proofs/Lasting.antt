-- What lasts over a day: messages keep their numbers and their commands, and what stands on a sheet stays there.
use Rattle.std.proofs.Common.{◌≡◌, ℕ, ◌<◌, ◌≤◌, List, [], ◌++◌, Result, sym, refl, ap, ◌∙◌, arith}
use Rattle.std.proofs.lemmas.List.{append-nil, append_assoc, get_or-set_other}
use Rattle.record.specs.Kind.{Kind, Laws}
use Rattle.record.specs.declared.command.Command.{Command}
use Rattle.chooser.specs.Meaning.{Meaning}
use Rattle.protocol.proofs.Orderly.{call_orderly}
use Rattle.rows.specs.Conflicts.{no_command, command_of}
use Rattle.rows.specs.declared.refusal.Refusal.{Refusal}
use Rattle.rows.specs.declared.size.RingSize.{RingSize}
use Rattle.ring.specs.World.{World, live_refusal}
use Rattle.ring.specs.Broadcast.{broadcast_refusal, broadcast_by, Broadcasts}
use Rattle.ring.specs.Day.{Day, begins, broadcasts, receives, steps, crashes, loses, with_ring}
use Rattle.ring.specs.Fail.{crashed_by, Crashes}
use Rattle.ring.specs.Show.{sheet_of}
use Rattle.ring.specs.declared.ring.Ring.{Ring}
use Rattle.ring.proofs.BroadcastJoined.{broadcasts_joined}
use Rattle.ring.proofs.Called.{Called}
use Rattle.ring.proofs.Causes.{either_way}
use Rattle.ring.proofs.DayJoined.{day_joined}
use Rattle.ring.proofs.FailureJoined.{crashes_joined, loses_joined}
use Rattle.ring.proofs.HistoryTold.{Ledger, ledger, receipt_leaves, loss_leaves, step_leaves}
use Rattle.ring.proofs.ReceiptJoined.{receives_joined}
use Rattle.ring.proofs.Seeing.{Joined}
use Rattle.ring.proofs.StepJoined.{steps_joined}

-- ---- the book

-- the messages of w are messages of v, with the same commands
pub record BookLasts (w v : World) : Type 0 where
  pub messages : w.ring.messages ≤ v.ring.messages
  pub commands : (m : ℕ) → m < w.ring.messages → command_of v.book m ≡ command_of w.book m

-- a call that leaves the ledger leaves them
ledger_book : (w v : World) → ledger v ≡ ledger w → BookLasts w v
ledger_book w v e =
    let same : v.ring.messages ≡ w.ring.messages = ap (λ (l : Ledger). l.messages) e in
    record { messages = omega (arith, same); commands = λ m k. ap (λ (l : Ledger). command_of l.book m) e }

-- a broadcast writes behind them
broadcast_book : (K : Kind) (w v : World) (node : ℕ) (c : Command) (r : Result ℕ Refusal) → Broadcasts K w node c r v
    → BookLasts w v
broadcast_book K w v node c r h =
    either_way (λ (x : World). BookLasts w x) (broadcast_refusal K w node c) (broadcast_by w node c) w v h.1
    (λ _. record {
      messages = omega arith;
      commands = λ m k. get_or-set_other w.book w.ring.messages m c no_command (λ e. omega (arith, e, k));
    })
    (ledger_book w w refl)

-- a crash leaves the book
crash_book : (w : World) (node : ℕ) (r : Result (Unit {0}) Refusal) (s : Ring) → Crashes w.ring node r s
    → BookLasts w (with_ring w s)
crash_book w node r s h =
    either_way (λ (q : Ring). BookLasts w (with_ring w q)) (live_refusal w.ring node) (crashed_by w.ring node) w.ring s h.1
    (λ _. record { messages = omega arith; commands = λ m k. refl })
    (record { messages = omega arith; commands = λ m k. refl })

-- ---- book and sheets

-- each sheet of v begins with what it was in w
pub record Lasts (z : RingSize) (w v : World) : Type 0 where
  pub book : BookLasts w v
  pub sheets : (r : ℕ) → r < z.n → (l : List ℕ) × (sheet_of v r ≡ sheet_of w r ++ l)

-- after one call more this still holds, since that is a call of the protocol, on which sheets only grow
then_called : {K : Kind} {z : RingSize} {need : ℕ} {low : 1 ≤ need} {high : need ≤ z.q} {w₀ w v : World} {M N : Meaning}
    → Lasts z w₀ w → Joined K z need low high w M → Called K z need low high w M v N → BookLasts w v → Lasts z w₀ v
then_called {w₀ = w₀} a j c b = record {
  book = record {
    messages = omega (arith, a.book.messages, b.messages);
    commands = λ m k. b.commands m (omega (arith, k, a.book.messages)) ∙ a.book.commands m k;
  };
  sheets = λ r l.
      let old = a.sheets r l in
      let more = (call_orderly j.ok c.call).sheets_grow r l in (
        old.0 ++ more.0,
        more.1.grows ∙ ap (λ (xs : List ℕ). xs ++ more.0) old.1 ∙ append_assoc (sheet_of w₀ r) old.0 more.0,
      );
}

module _ {K : Kind} {z : RingSize} {need : ℕ} {low : 1 ≤ need} {high : need ≤ z.q} {w₀ : World} {M₀ : Meaning} (laws : Laws K)
    (j : Joined K z need low high w₀ M₀) where
  -- over a day, call by call
  pub day_lasts : (w : World) (M : Meaning) → Day K w₀ M₀ w M → Lasts z w₀ w
  day_lasts _ _ begins = record { book = ledger_book w₀ w₀ refl; sheets = λ r l. ([], sym (append-nil (sheet_of w₀ r))) }
  day_lasts _ _ (broadcasts w M node c r v d h) =
      let before = day_joined laws j w M d in
      then_called (day_lasts w M d) before (broadcasts_joined laws before node c r v h) (broadcast_book K w v node c r h)
  day_lasts _ _ (receives w M place r v d h) =
      let before = day_joined laws j w M d in
      then_called (day_lasts w M d) before (receives_joined before place r v h) (ledger_book w v (receipt_leaves w place r v h))
  day_lasts _ _ (steps w M node r v N d h sound) =
      let before = day_joined laws j w M d in
      then_called (day_lasts w M d) before (steps_joined before node r v N sound h)
      (ledger_book w v (step_leaves K w M node v N r h))
  day_lasts _ _ (crashes w M node r s d h) =
      let before = day_joined laws j w M d in
      then_called (day_lasts w M d) before (crashes_joined before node r s h) (crash_book w node r s h)
  day_lasts _ _ (loses w M place r v d h) =
      let before = day_joined laws j w M d in
      then_called (day_lasts w M d) before (loses_joined before place r v h) (ledger_book w v (loss_leaves w place r v h))
