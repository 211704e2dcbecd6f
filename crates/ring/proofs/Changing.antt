-- A world in which one node's row is another: what stays known of it, and how it is seen.
use Rattle.std.proofs.Common.{◌≡◌, ℕ, ◌^◌, ◌<◌, ◌≤◌, List, length, get_or, sym, ap, ◌∙◌, subst, ap₂, inl, inr, arith}
use lib.Bits.{or_lt}
use Rattle.std.proofs.lemmas.Bool.{cases_eq}
use Rattle.std.proofs.lemmas.List.{length-set}
use Rattle.record.specs.Kind.{Kind}
use Rattle.chooser.specs.Meaning.{Meaning}
use Rattle.rows.specs.Rows.{on_sheet}
use Rattle.rows.specs.declared.letter.Letter.{Letter}
use Rattle.rows.specs.declared.row.Check.{Check}
use Rattle.rows.specs.declared.row.Row.{Row}
use Rattle.rows.specs.declared.size.RingSize.{RingSize}
use Rattle.ring.specs.World.{World, nodes_of, quorum_of, node_of, row_of, with_row, with_used, wrong_sizes}
use Rattle.ring.specs.declared.ring.Ring.{Ring}
use Rattle.ring.proofs.Membership.{known_small}
use Rattle.ring.proofs.NodesKept.{row_here, row_elsewhere}
use Rattle.ring.proofs.Seeing.{seen_node, Apart, RowFine, Fine, Joined}

-- what holds of every row and of the new one holds of every row after it is set
rows_set : (P : ℕ → Row → Type 0) (q : Ring) (i : ℕ) (row : Row) (r : ℕ) → P i row
    → ((r ≡ i → ⊥) → P r (node_of q r).row) → i < length q.nodes → P r (node_of (with_row i row q) r).row
rows_set P q i row r p old l = elim (cases_eq r i) [
  | inl e ↦ subst (λ (x : ℕ). P x (node_of (with_row i row q) x).row) (sym e)
      (subst (λ (m : Row). P i m) (sym (row_here q i row l)) p)
  | inr d ↦ subst (λ (m : Row). P r m) (sym (row_elsewhere q i row r d)) (old d)
]

-- the world with another row of a node, and other places used, tray and sheets
abbrev changed : World → ℕ → Row → ℕ → List Letter → List ℕ → World
changed w node row used tray sheets = record {
  ring = with_row node row (with_used used w.ring);
  tray = tray;
  book = w.book;
  sheets = sheets;
}

module _ {K : Kind} {z : RingSize} {w : World} (f : Fine K z w) where
  -- the ring has the nodes of its size
  pub nodes_are : nodes_of w.ring.size ≡ z.n
  nodes_are = ap nodes_of f.size

  -- and its quorum
  pub quorum_is : quorum_of w.ring.size ≡ z.q
  quorum_is = ap quorum_of f.size

  -- a node of the ring has a row
  pub has_row : (node : ℕ) → node < z.n → node < length w.ring.nodes
  has_row node l = omega (arith, l, f.nodes_length, z.high)

  -- what is known stays so, if it is of the new row
  pub fine_changed : (node : ℕ) → node < z.n → (row : Row) → RowFine z row → (used : ℕ) (tray : List Letter) (sheets : List ℕ)
      → length tray ≡ length w.tray → used ≤ length tray → length sheets ≡ length w.sheets
      → Fine K z (changed w node row used tray sheets)
  fine_changed node l row g used tray sheets same-tray fits same-sheets = record {
    size = f.size;
    nodes_length = length-set w.ring.nodes node _ ∙ f.nodes_length;
    broadcasters_length = f.broadcasters_length;
    rows = λ r k. rows_set (λ i m. RowFine z m) w.ring node row r g (λ d. f.rows r k) (has_row node l);
    tables = ap₂ (λ (t s : ℕ). wrong_sizes t (length w.book) s) same-tray same-sheets ∙ f.tables;
    used_in_tray = fits;
    lawful = f.lawful;
  }

-- another node than the changed one is seen as before, where the sheets stay
pub other_seen : (sheets : List ℕ) (r : Ring) (node : ℕ) (row : Row) (x : ℕ) → (x ≡ node → ⊥)
    → seen_node sheets x (node_of (with_row node row r) x).row ≡ seen_node sheets x (node_of r x).row
other_seen sheets r node row x d = ap (seen_node sheets x) (row_elsewhere r node row x d)

-- the changed one is seen as it is now
pub row_seen : (sheets : List ℕ) (r : Ring) (node : ℕ) (row : Row) → node < length r.nodes
    → seen_node sheets node (node_of (with_row node row r) node).row ≡ seen_node sheets node row
row_seen sheets r node row l = ap (seen_node sheets node) (row_here r node row l)

-- a row with the same tables is as fine
pub fine_row : {z : RingSize} {old new : Row} → RowFine z old → new.heard ≡ old.heard → new.checks ≡ old.checks
    → new.checked ≡ old.checked → RowFine z new
fine_row {z} {old} {new} g h c k = record {
  heard_length = ap length h ∙ g.heard_length;
  heard_nodes = λ m. subst (λ (t : List ℕ). get_or t m 0 < 2 ^ z.n) (sym h) (g.heard_nodes m);
  checks_length = ap length c ∙ g.checks_length;
  checks_few = subst (λ (n : ℕ). n ≤ z.q) (sym k) g.checks_few;
  checks_apart = subst (λ (cs : List Check). Apart z.n cs new.checked) (sym c)
      (subst (λ (n : ℕ). Apart z.n old.checks n) (sym k) g.checks_apart);
}

-- the masks of a row have 64 digits
pub record Bounds (row : Row) : Type 0 where
  pub received : row.received < 2 ^ 64
  pub delivered : row.delivered < 2 ^ 64
  pub pending : row.pending < 2 ^ 64
  pub early : row.early < 2 ^ 64

-- in a world of a day they do
pub bounds : {K : Kind} {z : RingSize} {need : ℕ} {low : 1 ≤ need} {high : need ≤ z.q} {w : World} {M : Meaning}
    → Joined K z need low high w M → (r : ℕ) → r < z.n → Bounds (row_of w r)
bounds {w = w} j r l =
    let o = j.ok.nodes r l in
    let few = j.ok.book.messages_le in
    record {
      received = known_small 64 (row_of w r).received (λ m h. omega (arith, few, o.pending.received_known m h));
      delivered = known_small 64 (row_of w r).delivered
          (λ m h. omega (arith, few, o.sheet.known m (o.sheet.has_delivered m h)));
      pending = known_small 64 (row_of w r).pending
          (λ m h. omega (arith, few, o.pending.received_known m (o.pending.pending_received m h)));
      early = known_small 64 (row_of w r).early (λ m h. omega (arith, few, o.sheet.known m (o.sheet.has_early m h)));
    }

-- so on a sheet are messages below 64
pub sheet_small : {K : Kind} {z : RingSize} {need : ℕ} {low : 1 ≤ need} {high : need ≤ z.q} {w : World} {M : Meaning}
    → Joined K z need low high w M → (r : ℕ) → r < z.n → on_sheet (row_of w r) < 2 ^ 64
sheet_small {w = w} j r l =
    let b = bounds j r l in
    or_lt 64 (row_of w r).delivered (row_of w r).early b.delivered b.early
