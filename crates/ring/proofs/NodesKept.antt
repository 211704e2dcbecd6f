-- A ring in which one node's row is another, or in which it has crashed: what stays of that node and of the others.
use Rattle.std.proofs.Common.{◌≡◌, ℕ, ◌<◌, Bool, true, false, not, List, length, get_or, set, replicate, sym, refl, ap, ◌∙◌}
use Rattle.std.proofs.Math.ListN.{get_or-map}
use Rattle.std.proofs.Math.Path.{fun_ext}
use Rattle.std.proofs.Math.Seq.{map-set_same}
use Rattle.std.proofs.lemmas.List.{get_or-set_same, get_or-set_other}
use Rattle.protocol.specs.Sets.{Set}
use Rattle.rows.specs.declared.row.Row.{Row}
use Rattle.ring.specs.World.{no_node, node_of, has_crashed, with_row}
use Rattle.ring.specs.Fail.{crashed_by}
use Rattle.ring.specs.Start.{new_node}
use Rattle.ring.specs.declared.ring.Node.{Node}
use Rattle.ring.specs.declared.ring.Ring.{Ring}
use Rattle.ring.proofs.BlankRows.{same_everywhere}

-- what the new node shares with the one in whose place it stands, f, all nodes share with those before
shared : {A : Type 0} (f : Node → A) (nodes : List Node) (i : ℕ) (new : Node) → f new ≡ f (get_or nodes i no_node) → (x : ℕ)
    → f (get_or (set nodes i new) x no_node) ≡ f (get_or nodes x no_node)
shared {A} f nodes i new e x =
    sym (get_or-map f (set nodes i new) x no_node)
    ∙ ap (λ (xs : List A). get_or xs x (f no_node)) (map-set_same f nodes i new no_node e)
    ∙ get_or-map f nodes x no_node

module _ (r : Ring) (node : ℕ) (row : Row) where
  -- another row of a node leaves who has crashed
  pub crashed_kept : has_crashed (with_row node row r) ≡ has_crashed r
  crashed_kept = fun_ext (shared (λ n. n.crashed) r.nodes node (record { row = row; crashed = has_crashed r node }) refl)

  -- so it leaves who lives
  pub lives_kept : ◌≡◌ {A = Set} (λ x. not (has_crashed (with_row node row r) x)) (λ x. not (has_crashed r x))
  lives_kept = ap {B = Set} (λ (crashed : ℕ → Bool) (x : ℕ). not (crashed x)) crashed_kept

  -- the node has it
  pub row_here : node < length r.nodes → (node_of (with_row node row r) node).row ≡ row
  row_here l = ap (λ (n : Node). n.row) (get_or-set_same r.nodes node _ no_node l)

  -- and the others have the rows that they had
  pub row_elsewhere : (x : ℕ) → (x ≡ node → ⊥) → (node_of (with_row node row r) x).row ≡ (node_of r x).row
  row_elsewhere x d = ap (λ (n : Node). n.row) (get_or-set_other r.nodes node x _ no_node d)

module _ (r : Ring) (node : ℕ) where
  -- a crash leaves the rows
  pub rows_kept : (x : ℕ) → (node_of (crashed_by r node) x).row ≡ (node_of r x).row
  rows_kept = shared (λ n. n.row) r.nodes node (record { row = (node_of r node).row; crashed = true }) refl

  -- the node has crashed
  pub crashed_here : node < length r.nodes → has_crashed (crashed_by r node) node ≡ true
  crashed_here l = ap (λ (n : Node). n.crashed) (get_or-set_same r.nodes node _ no_node l)

  -- and the others have if they had
  pub crashed_elsewhere : (x : ℕ) → (x ≡ node → ⊥) → has_crashed (crashed_by r node) x ≡ has_crashed r x
  crashed_elsewhere x d = ap (λ (n : Node). n.crashed) (get_or-set_other r.nodes node x _ no_node d)

-- nobody has crashed at the start
pub nobody_crashed : (x : ℕ) → (get_or (replicate 7 new_node) x no_node).crashed ≡ false
nobody_crashed x = sym (get_or-map (λ (n : Node). n.crashed) (replicate 7 new_node) x no_node) ∙ same_everywhere 7 x false
