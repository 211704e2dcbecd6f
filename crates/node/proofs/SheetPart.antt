-- A node's 64 bytes of the sheets, where messages are written behind the used part of one of the sheets.
use Rattle.std.proofs.Common.{◌≡◌, ℕ, ◌+◌, ◌*◌, ◌^◌, ◌<◌, ◌≤◌, List, [], ◌∷◌, length, take, drop, set, sym, refl, ap, ◌∙◌, inl, inr}
use Rattle.std.proofs.Common.{arith}
use lib.Bits.{or_lt}
use lib.Count.{ones}
use Rattle.std.proofs.Math.Seq.{take-set-lt}
use Rattle.std.proofs.lemmas.Bool.{cases_Bool, cond-true, cond-false}
use Rattle.std.proofs.lemmas.List.{drop-set-add}
use Rattle.rows.specs.Masks.{minus, members, put}
use Rattle.rows.specs.Receipts.{taken_sheets, counts, reached, heard_also, is_reached}
use Rattle.rows.specs.Rows.{on_sheet}
use Rattle.rows.specs.Settlements.{with_first, settled_sheets}
use Rattle.rows.specs.declared.letter.Letter.{Letter}
use Rattle.rows.specs.declared.row.Row.{Row}
use Rattle.rows.proofs.Masks.{those_lt}
use Rattle.ring.proofs.SheetsGrow.{grown, fits, grown_elsewhere}

-- the 64 bytes of a node
abbrev pub part : ℕ → List ℕ → List ℕ
part i sheets = take 64 (drop (64 * i) sheets)

-- what is written inside a part is written on that part
put_inside : (n start : ℕ) (xs : List ℕ) (k : ℕ) (ys : List ℕ) → k + length ys ≤ n
    → take n (drop start (put xs (start + k) ys)) ≡ put (take n (drop start xs)) k ys
put_inside n start xs k [] h = refl
put_inside n start xs k (y ∷ ys) h =
    let next : start + k + 1 ≡ start + (k + 1) = omega arith in
    let inside : k < n = omega arith in
    ap (λ m. take n (drop start (put (set xs (start + k) y) m ys))) next
    ∙ put_inside n start (set xs (start + k) y) (k + 1) ys (omega arith)
    ∙ ap (λ t. put (take n t) (k + 1) ys) (drop-set-add start xs k y)
    ∙ ap (λ t. put t (k + 1) ys) (take-set-lt n (drop start xs) k y inside)

-- a sheet with the messages of a, on which those of b that are not there are written too
module _ (sheets : List ℕ) (node a b : ℕ) (small-a : a < 2 ^ 64) (small_b : b < 2 ^ 64) where
  -- in the node's own bytes the same is written
  pub part_here : part node (grown sheets node a b) ≡ grown (part node sheets) 0 a b
  part_here =
      let first : ones a ≡ 64 * 0 + ones a = omega arith in
      put_inside 64 (64 * node) sheets (ones a) (members (minus b a) 64) (fits sheets node a b small-a small_b)
      ∙ ap (λ k. put (part node sheets) k (members (minus b a) 64)) first

  -- and those of the others stay
  pub part_elsewhere : (x : ℕ) → (x ≡ node → ⊥) → part x (grown sheets node a b) ≡ part x sheets
  part_elsewhere x d = grown_elsewhere sheets node a b small-a small_b x 64 d (omega arith)

-- ---- a letter

module _ (n q : ℕ) (l : Letter) (row : Row) (node : ℕ) (sheets : List ℕ) (small : on_sheet row < 2 ^ 64) where
  -- what a quorum has acknowledged
  abbrev fresh : ℕ
  fresh = reached (heard_also l row) q

  fresh_small : fresh < 2 ^ 64
  fresh_small = those_lt (is_reached (heard_also l row) q) 64

  -- it writes the same in the node's own bytes
  pub taken_here : part node (taken_sheets n q l row node sheets) ≡ taken_sheets n q l row 0 (part node sheets)
  taken_here = elim (cases_Bool (counts n l row)) [
    | inl e ↦ ap (part node) (cond-true (counts n l row) _ _ e)
        ∙ part_here sheets node (on_sheet row) fresh small fresh_small ∙ sym (cond-true (counts n l row) _ _ e)
    | inr e ↦ ap (part node) (cond-false (counts n l row) _ _ e) ∙ sym (cond-false (counts n l row) _ _ e)
  ]

  -- and nothing in those of the others
  pub taken_elsewhere : (x : ℕ) → (x ≡ node → ⊥) → part x (taken_sheets n q l row node sheets) ≡ part x sheets
  taken_elsewhere x d = elim (cases_Bool (counts n l row)) [
    | inl e ↦ ap (part x) (cond-true (counts n l row) _ _ e)
        ∙ part_elsewhere sheets node (on_sheet row) fresh small fresh_small x d
    | inr e ↦ ap (part x) (cond-false (counts n l row) _ _ e)
  ]

-- ---- a decision

module _ (decided : ℕ × ℕ) (row : Row) (node : ℕ) (sheets : List ℕ) (small : on_sheet row < 2 ^ 64) (first : decided.0 < 2 ^ 64)
    (second : decided.1 < 2 ^ 64) where
  -- what is on the sheet halfway
  halfway : with_first decided row < 2 ^ 64
  halfway = or_lt 64 (on_sheet row) decided.0 small first

  -- it writes the same in the node's own bytes
  pub settled_here : part node (settled_sheets decided row node sheets) ≡ settled_sheets decided row 0 (part node sheets)
  settled_here =
      part_here (grown sheets node (on_sheet row) decided.0) node (with_first decided row) decided.1 halfway second
      ∙ ap (λ (t : List ℕ). grown t 0 (with_first decided row) decided.1)
      (part_here sheets node (on_sheet row) decided.0 small first)

  -- and nothing in those of the others
  pub settled_elsewhere : (x : ℕ) → (x ≡ node → ⊥) → part x (settled_sheets decided row node sheets) ≡ part x sheets
  settled_elsewhere x d =
      part_elsewhere (grown sheets node (on_sheet row) decided.0) node (with_first decided row) decided.1 halfway second x d
      ∙ part_elsewhere sheets node (on_sheet row) decided.0 small first x d
