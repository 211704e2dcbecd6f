-- A run: the entries of a schedule, given to a ring in order.
use Rattle.std.specs.Prelude.{◌≡◌, ℕ, ◌+◌, true, false, List, length, Some, None, Ok, Err, Option, ◌==◌}
use Rattle.record.specs.Kind.{Kind}
use Rattle.chooser.specs.Meaning.{Meaning}
use Rattle.ring.specs.World.{World}
use Rattle.schedule.specs.Entries.{Act, entry_at}
use Rattle.schedule.specs.declared.fault.EntryFault.{EntryFault}
use Rattle.replay.specs.Turns.{Turn}

-- how far a run has come from place p₀ of the bytes, and how many entries were accepted and refused on the way
pub data Walk (K : Kind) (bytes : List ℕ) (p₀ : ℕ) (w₀ : World) (M₀ : Meaning) : ℕ → World → Meaning → ℕ → ℕ → Type 0 where
  sets_out : Walk K bytes p₀ w₀ M₀ p₀ w₀ M₀ 0 0
  accepts : (p q : ℕ) (w v : World) (M N : Meaning) (a : Act) (accepted refused : ℕ) → Walk K bytes p₀ w₀ M₀ p w M accepted refused →
      entry_at bytes p ≡ Ok (a, q) → Turn K w M a true v N → Walk K bytes p₀ w₀ M₀ q v N (accepted + 1) refused
  refuses : (p q : ℕ) (w v : World) (M N : Meaning) (a : Act) (accepted refused : ℕ) → Walk K bytes p₀ w₀ M₀ p w M accepted refused →
      entry_at bytes p ≡ Ok (a, q) → Turn K w M a false v N → Walk K bytes p₀ w₀ M₀ q v N accepted (refused + 1)

-- a whole run, to the end of the bytes or to the first entry at fault: what it leaves, and the two counts
pub data Runs (K : Kind) (bytes : List ℕ) (p₀ : ℕ) (w₀ : World) (M₀ : Meaning) :
    World → Meaning → ℕ → ℕ → Option EntryFault → Type 0 where
  ends : (p : ℕ) (w : World) (M : Meaning) (accepted refused : ℕ) → Walk K bytes p₀ w₀ M₀ p w M accepted refused →
      (p == length bytes) ≡ true → Runs K bytes p₀ w₀ M₀ w M accepted refused None
  stops : (p : ℕ) (w : World) (M : Meaning) (accepted refused : ℕ) (f : EntryFault) → Walk K bytes p₀ w₀ M₀ p w M accepted refused →
      (p == length bytes) ≡ false → entry_at bytes p ≡ Err f → Runs K bytes p₀ w₀ M₀ w M accepted refused (Some f)
