-- One turn of the loop that writes the lines of the nodes.
use Rattle.std.proofs.Common.{◌≡◌, ℕ, ◌+◌, [], ◌++◌, refl, add-one}
use Rattle.ring.specs.World.{World}
use Rattle.report.specs.Lines.{node_text, nodes_text}

-- of no nodes nothing is told
pub nodes_none : (w : World) → nodes_text w 0 ≡ []
unfolding nodes_text
nodes_none w = refl

-- one node more
pub nodes_more : (w : World) (n : ℕ) → nodes_text w (n + 1) ≡ nodes_text w n ++ node_text w n
unfolding nodes_text
nodes_more w n = rw add-one refl
