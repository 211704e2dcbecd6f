-- A day told in the words of its calls: which broadcasts and which crashes were accepted, and what that says of the world.
use Rattle.std.specs.Prelude.{◌≡◌, ℕ, ◌<◌, true, false, List, [], ◌∷◌, ◌++◌, length, Ok, Err, slice_index_or}
use Rattle.record.specs.Kind.{Kind}
use Rattle.record.specs.declared.command.Command.{Command}
use Rattle.chooser.specs.Meaning.{Meaning}
use Rattle.protocol.specs.Lists.{Mem}
use Rattle.rows.specs.Conflicts.{no_command, command_of}
use Rattle.ring.specs.World.{World}
use Rattle.ring.specs.Day.{Day, begins, broadcasts, receives, steps, crashes, loses}
use Rattle.ring.specs.Promises.{lives, broadcaster}

-- an accepted broadcast: its node, its command, and the number that it answered
pub record Accepted : Type 0 where
  pub node : ℕ
  pub command : Command
  pub answered : ℕ

-- what stands beyond the last of them
abbrev pub no_broadcast : Accepted
no_broadcast = record { node = 0; command = no_command; answered = 0 }

-- the accepted broadcasts of a day, in order
abbrev pub broadcast_on : {K : Kind} {w₀ : World} {M₀ : Meaning} {w : World} {M : Meaning} → Day K w₀ M₀ w M → List Accepted
broadcast_on begins = []
broadcast_on (broadcasts w M node c (Ok m) v d h) = broadcast_on d ++ record { node = node; command = c; answered = m } ∷ []
broadcast_on (broadcasts w M node c (Err e) v d h) = broadcast_on d
broadcast_on (receives w M place r v d h) = broadcast_on d
broadcast_on (steps w M node r v N d h sound) = broadcast_on d
broadcast_on (crashes w M node r s d h) = broadcast_on d
broadcast_on (loses w M place r v d h) = broadcast_on d

-- the nodes whose crash was accepted, in order
abbrev pub crashed_on : {K : Kind} {w₀ : World} {M₀ : Meaning} {w : World} {M : Meaning} → Day K w₀ M₀ w M → List ℕ
crashed_on begins = []
crashed_on (broadcasts w M node c r v d h) = crashed_on d
crashed_on (receives w M place r v d h) = crashed_on d
crashed_on (steps w M node r v N d h sound) = crashed_on d
crashed_on (crashes w M node (Ok u) s d h) = crashed_on d ++ node ∷ []
crashed_on (crashes w M node (Err e) s d h) = crashed_on d
crashed_on (loses w M place r v d h) = crashed_on d

-- the accepted broadcast at a place, counted from 0
abbrev pub broadcast_at : {K : Kind} {w₀ : World} {M₀ : Meaning} {w : World} {M : Meaning} → Day K w₀ M₀ w M → ℕ → Accepted
broadcast_at d m = slice_index_or (broadcast_on d) m no_broadcast

-- What a day that began with a start says of the world w that it comes to.
pub record Told {K : Kind} {w₀ : World} {M₀ : Meaning} {w : World} {M : Meaning} (d : Day K w₀ M₀ w M) : Type 0 where
  -- There are as many messages as accepted broadcasts.
  pub messages : w.ring.messages ≡ length (broadcast_on d)
  -- Message m is the broadcast at place m: that one answered m, and its node and command are those of m.
  pub answered : (m : ℕ) → m < w.ring.messages → (broadcast_at d m).answered ≡ m
  pub node : (m : ℕ) → m < w.ring.messages → (broadcast_at d m).node ≡ broadcaster w m
  pub command : (m : ℕ) → m < w.ring.messages → (broadcast_at d m).command ≡ command_of w.book m
  -- A node whose crash was accepted does not live, and every other node does.
  pub crashed : (r : ℕ) → Mem r (crashed_on d) → lives w r ≡ false
  pub alive : (r : ℕ) → (Mem r (crashed_on d) → ⊥) → lives w r ≡ true
