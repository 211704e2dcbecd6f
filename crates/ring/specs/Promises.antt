-- What every day promises of the world that it comes to.
use Rattle.std.specs.Prelude.{◌≡◌, ℕ, ◌<◌, ◌≤◌, Bool, true, not, ◌&&◌, List, length, Ok, Err, Result, ◌==◌, slice_index}
use Rattle.record.specs.Kind.{Kind}
use Rattle.chooser.specs.Meaning.{Meaning, Sound}
use Rattle.protocol.specs.Lists.{Mem, Once, Before}
use Rattle.protocol.specs.Sets.{count}
use Rattle.rows.specs.Conflicts.{command_of}
use Rattle.rows.specs.Refusals.{number_of}
use Rattle.rows.specs.declared.refusal.Refusal.{Refusal}
use Rattle.rows.specs.declared.size.RingSize.{RingSize}
use Rattle.ring.specs.World.{World, has_crashed}
use Rattle.ring.specs.Receive.{Receives}
use Rattle.ring.specs.Step.{Steps}
use Rattle.ring.specs.Show.{sheet_of}
use Rattle.ring.specs.CatchUp.{CatchesUp}
use Rattle.ring.specs.declared.step.Step.{Step}

-- two different messages whose commands conflict
abbrev pub conflict : Kind → World → ℕ → ℕ → Bool
conflict K w a b = not (a == b) && K.conflicts (command_of w.book a) (command_of w.book b)

-- the node has not crashed
abbrev pub lives : World → ℕ → Bool
lives w node = not (has_crashed w.ring node)

-- the node that broadcast a message
abbrev pub broadcaster : World → ℕ → ℕ
broadcaster w m = slice_index w.ring.broadcasters m

-- ---- the sheets

-- Two conflicting messages that stand on two sheets stand in the same order on both, whether the nodes live or not.
abbrev pub ConflictsInOneOrder : Kind → RingSize → World → Type 0
ConflictsInOneOrder K z w =
    (r x a b : ℕ) → r < z.n → x < z.n → conflict K w a b ≡ true →
    Mem a (sheet_of w x) → Mem b (sheet_of w x) → Before (sheet_of w r) a b → Before (sheet_of w x) a b

-- No message stands on a sheet twice.
abbrev pub DeliveredOnce : RingSize → World → Type 0
DeliveredOnce z w = (r : ℕ) → r < z.n → Once (sheet_of w r)

-- Every message on a sheet was broadcast.
abbrev pub DeliveredIsBroadcast : RingSize → World → Type 0
DeliveredIsBroadcast z w = (r m : ℕ) → r < z.n → Mem m (sheet_of w r) → m < w.ring.messages

-- Playing a sheet from mark 0 is never refused.
abbrev pub NeverUnplayable : Kind → RingSize → World → Type 0
NeverUnplayable K z w =
    (r : ℕ) → r < z.n → (a : Result ℕ Refusal) (l l' : List ℕ) → CatchesUp K w r 0 a l l' → a ≡ Ok (length (sheet_of w r))

-- Two sheets with the same messages, played from mark 0 into records that tell the same list, leave one list.
abbrev pub SameSheetsSameList : Kind → RingSize → World → Type 0
SameSheetsSameList K z w =
    (r x : ℕ) → r < z.n → x < z.n →
    ((m : ℕ) → Mem m (sheet_of w r) → Mem m (sheet_of w x)) → ((m : ℕ) → Mem m (sheet_of w x) → Mem m (sheet_of w r)) →
    (l l₁ l₂ : List ℕ) (a₁ a₂ : Result ℕ Refusal) → K.taking.tells l ≡ true →
    CatchesUp K w r 0 a₁ l l₁ → CatchesUp K w x 0 a₂ l l₂ → l₁ ≡ l₂

-- ---- rest

-- an answer that is a refusal, and not for a full tray
abbrev pub TurnedDown : {X : Type 0} → Result X Refusal → Type 0
TurnedDown (Ok x) = ⊥
TurnedDown (Err e) = number_of e ≡ 12 → ⊥

-- At least q nodes live, and every receipt, of whatever place, and every step, of whatever node, would be refused,
-- none for a full tray.
pub record Quiet (K : Kind) (z : RingSize) (w : World) (M : Meaning) : Type 0 where
  pub enough : z.q ≤ count z.n (lives w)
  pub no_receipt : (place : ℕ) (a : Result (Unit {0}) Refusal) (v : World) → Receives w place a v → TurnedDown a
  pub no_step : (node : ℕ) (a : Result Step Refusal) (v : World) (N : Meaning) → Steps K w M node a v N → Sound N → TurnedDown a

-- Each live node has delivered what stands on any sheet.
abbrev pub DeliveredEverywhere : RingSize → World → Type 0
DeliveredEverywhere z w =
    (x r m : ℕ) → x < z.n → r < z.n → lives w r ≡ true → Mem m (sheet_of w x) → Mem m (sheet_of w r)

-- Each live node has delivered what a live node broadcast.
abbrev pub BroadcastIsDelivered : RingSize → World → Type 0
BroadcastIsDelivered z w =
    (r m : ℕ) → m < w.ring.messages → lives w (broadcaster w m) ≡ true → r < z.n → lives w r ≡ true → Mem m (sheet_of w r)

-- ---- all of it

pub record Kept (K : Kind) (z : RingSize) (w : World) (M : Meaning) : Type 0 where
  pub one_order : ConflictsInOneOrder K z w
  pub once : DeliveredOnce z w
  pub broadcast : DeliveredIsBroadcast z w
  pub playable : NeverUnplayable K z w
  pub same_list : SameSheetsSameList K z w
  pub everywhere : Quiet K z w M → DeliveredEverywhere z w
  pub delivered : Quiet K z w M → BroadcastIsDelivered z w
