-- Which numbers make a ring size.
use Rattle.std.specs.Prelude.{◌≡◌, ℕ, ◌+◌, ◌*◌, ◌||◌, Some, None, Ok, Err, Option, Result, ◌==◌, nat_lt}
use Rattle.rows.specs.Causes.{refuse}
use Rattle.rows.specs.declared.size.RingSize.{RingSize}
use Rattle.rows.specs.declared.refusal.Refusal.{Refusal}
use Rattle.rows.specs.declared.refusal.Refusal.TheVariants.{NodesOutOfRange, QuorumTooLarge, QuorumTooSmall}

-- n is 1 to 7, q at most n, and any three quorums of q nodes have a node in common
abbrev pub size_refusal : ℕ → ℕ → Option Refusal
size_refusal n q =
    refuse (n == 0 || nat_lt 7 n) NodesOutOfRange
    (refuse (nat_lt n q) QuorumTooLarge
    (refuse (nat_lt (3 * q) (2 * n + 1)) QuorumTooSmall None))

-- what making a size answers
abbrev pub Sized : ℕ → ℕ → Result RingSize Refusal → Type 0
Sized n q (Ok z) = (size_refusal n q ≡ None) × (z.n ≡ n) × (z.q ≡ q)
Sized n q (Err e) = size_refusal n q ≡ Some e
