use Rattle.std.proofs.Common.{◌≡◌, ℕ, ◌<◌, Bool}
use Rattle.rows.specs.Masks.{those}
use Rattle.rows.proofs.mask.all_that.Given as goal

-- the messages below m that pass are found
abbrev pub invariant-loop-m : goal.invariant-loop-m
invariant-loop-m g l =
    (p : ℕ → Bool) → ((m : ℕ) → m < 64 → (b : Bool) → goal.F-post g l.passes m b → b ≡ p m) → l.found ≡ those p l.m
