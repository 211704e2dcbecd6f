-- The step of a closing node that settles its stage keeps a world joined to the protocol.
use Rattle.std.proofs.Common.{◌≡◌, ℕ, suc, ◌+◌, ◌*◌, ◌^◌, ◌<◌, ◌≤◌, Bool, true, false, cond, not, List, ◌++◌, take, drop, Some}
use Rattle.std.proofs.Common.{None, Ok as Done, Err, Option, Result, sym, refl, ap, ◌∙◌, subst, ap₂, add-one, arith}
use lib.Bits.{bit_or, or_lt, or_zero_r}
use lib.Count.{ones, ones-le}
use mathlib.Core.Path.{fun_ext}
use Rattle.std.proofs.lemmas.Bool.{or_left, or_right}
use Rattle.record.specs.Kind.{Kind}
use Rattle.chooser.specs.Meaning.{Meaning, served}
use Rattle.chooser.specs.declared.refusal.Refusal.TheVariants.{NoSuchStage}
use Rattle.protocol.specs.Lists.{ascending}
use Rattle.protocol.specs.Nodes.{after_settling, settled_first, settled_then}
use Rattle.protocol.specs.Ring.{Node as Seen-node}
use Rattle.protocol.specs.Runs.{settles}
use Rattle.protocol.specs.Sets.{Set, ◌∈◌, ◌∖◌, ◌∪◌}
use Rattle.rows.specs.Masks.{has}
use Rattle.rows.specs.Receipts.{is_gathering, is_proposed}
use Rattle.rows.specs.Rows.{on_sheet}
use Rattle.rows.specs.Settlements.{with_first, settled_row, settled_sheets, settle_refusal, decided_of}
use Rattle.rows.specs.declared.refusal.Refusal.{Refusal}
use Rattle.rows.specs.declared.refusal.Refusal.TheVariants.{Undecided, Chooser}
use Rattle.rows.specs.declared.row.Phase.{Phase}
use Rattle.rows.specs.declared.row.Phase.TheVariants.{Waiting}
use Rattle.rows.specs.declared.row.Row.{Row}
use Rattle.rows.specs.declared.size.RingSize.{RingSize}
use Rattle.ring.specs.World.{World, row_of}
use Rattle.ring.specs.Close.{decision_for, settled_by, Settling}
use Rattle.ring.specs.declared.step.Step.{Step}
use Rattle.ring.proofs.BlankRows.{begins_fine, beginning, begins_seen}
use Rattle.ring.proofs.Called.{Called, refused_called}
use Rattle.ring.proofs.Causes.{not_some, either_way, tables_of, Lives}
use Rattle.ring.proofs.Changing.{has_row, fine_changed, other_seen, row_seen, sheet_small}
use Rattle.ring.proofs.Effects.{same_chooser}
use Rattle.ring.proofs.Membership.{neither, known_small, set_or}
use Rattle.ring.proofs.NodesKept.{lives_kept}
use Rattle.ring.proofs.Seeing.{seen, seen_node, seen_row, shown, left_of, right_of, stands, Joined}
use Rattle.ring.proofs.SheetsGrow.{grown, grown_length, grown_here, grown_elsewhere}

-- what a union has not, neither of its parts has
without_both : (A B C : Set) → (A ∖ (B ∪ C)) ≡ (A ∖ B ∖ C)
without_both A B C = fun_ext (λ m. neither (A m) (B m) (C m))

-- a decision that is asked for and told stands
pub told_stands : (serves : Bool) (o : Option (ℕ × ℕ)) → settle_refusal (cond serves (Done o) (Err NoSuchStage)) ≡ None
    → o ≡ Some (decided_of (cond serves (Done o) (Err NoSuchStage)))
told_stands true None h = not_some Undecided h
told_stands true (Some decided) h = refl
told_stands false o h = not_some (Chooser NoSuchStage) h

module _ {K : Kind} {z : RingSize} {need : ℕ} {low : 1 ≤ need} {high : need ≤ z.q} {w : World} {M : Meaning}
    (j : Joined K z need low high w M) (node : ℕ) (lives : Lives z w.ring node)
    (waiting : (row_of w node).phase ≡ Waiting) where
  -- its row
  abbrev row : Row
  row = row_of w node

  -- the node as it is seen
  abbrev seen_one : Seen-node
  seen_one = seen_node w.sheets node row

  -- the stage is decided
  module _ (decided : ℕ × ℕ) (decision : M.decision row.stage ≡ Some decided) where
    -- the nonconflicting set of the decision, as it is seen
    abbrev nonconflicting : Set
    nonconflicting = (seen K w M).nonconflicting row.stage

    -- the conflicting one
    abbrev conflicting : Set
    conflicting = (seen K w M).conflicting row.stage

    -- the mask of the first
    first_seen : has decided.0 ≡ nonconflicting
    first_seen = ap (λ (o : Option (ℕ × ℕ)). has (left_of o)) (sym decision)

    -- and of the second
    second_seen : has decided.1 ≡ conflicting
    second_seen = ap (λ (o : Option (ℕ × ℕ)). has (right_of o)) (sym decision)

    -- both have messages of the book only
    decided_known : (m : ℕ) → m ∈ (nonconflicting ∪ conflicting) → m < 64
    decided_known m h =
        let c = j.ok.chooser.chosen row.stage (ap stands decision) in
        let made = j.ok.chooser.proposal row.stage c.by c.in_ring c.made in
        omega (
          arith,
          j.ok.book.messages_le,
          made.known m (subst (λ (S : Set). m ∈ S) (ap₂ ◌∪◌ c.nonconflicting c.conflicting) h),
        )

    -- so the first mask has 64 digits
    pub first_small : decided.0 < 2 ^ 64
    first_small = known_small 64 decided.0 (λ m h. decided_known m (or_left _ _ (subst (λ (S : Set). m ∈ S) first_seen h)))

    -- and so has the second
    pub second_small : decided.1 < 2 ^ 64
    second_small =
        known_small 64 decided.1 (λ m h.
        decided_known m (or_right (nonconflicting m) _ (subst (λ (S : Set). m ∈ S) second_seen h)))

    -- and so has what is on the sheet once the nonconflicting ones are written
    halfway_small : with_first decided row < 2 ^ 64
    halfway_small = or_lt 64 (on_sheet row) decided.0 (sheet_small j node lives.in_ring) first_small

    -- the sheets halfway, when those are written
    abbrev halfway : List ℕ
    halfway = grown w.sheets node (on_sheet row) decided.0

    -- the sheets at the end, when the conflicting ones are too
    abbrev written : List ℕ
    written = settled_sheets decided row node w.sheets

    -- what is on the node's sheet at the end
    abbrev everything : ℕ
    everything = bit_or (with_first decided row) decided.1

    -- what is on it halfway, as it is seen
    halfway_seen : has (with_first decided row) ≡ (seen_one.delivered ∪ seen_one.early ∪ nonconflicting)
    halfway_seen = set_or (on_sheet row) decided.0 ∙ ap₂ ◌∪◌ (set_or row.delivered row.early) first_seen

    -- and at the end
    all_seen : has everything ≡ (seen_one.delivered ∪ seen_one.early ∪ nonconflicting ∪ conflicting)
    all_seen = set_or (with_first decided row) decided.1 ∙ ap₂ ◌∪◌ halfway_seen second_seen

    -- what is written first
    first_part : (has decided.0 ∖ has (on_sheet row)) ≡ settled_first seen_one nonconflicting
    first_part =
        ap₂ ◌∖◌ first_seen (set_or row.delivered row.early)
        ∙ without_both nonconflicting seen_one.delivered seen_one.early

    -- and then
    second_part : (has decided.1 ∖ has (with_first decided row)) ≡ settled_then seen_one nonconflicting conflicting
    second_part =
        ap₂ ◌∖◌ second_seen halfway_seen
        ∙ without_both conflicting (seen_one.delivered ∪ seen_one.early) nonconflicting
        ∙ ap (λ (S : Set). S ∖ nonconflicting) (without_both conflicting seen_one.delivered seen_one.early)

    -- the sheet at the end
    sheet_seen : shown written node (settled_row decided row)
        ≡ seen_one.sheet ++ ascending 64 (settled_first seen_one nonconflicting)
        ++ ascending 64 (settled_then seen_one nonconflicting conflicting)
    sheet_seen =
        let seven : node < 7 = omega (arith, lives.in_ring, z.high) in
        let sheets = (tables_of w j.fine.tables).sheets in
        ap (λ (k : ℕ). take (ones k) (drop (64 * node) written)) (or_zero_r everything)
        ∙ grown_here halfway node (with_first decided row) decided.1 halfway_small second_small seven
        (grown_length w.sheets node (on_sheet row) decided.0 ∙ sheets)
        ∙ ap₂ (λ (xs ys : List ℕ). xs ++ ys)
        (grown_here w.sheets node (on_sheet row) decided.0 (sheet_small j node lives.in_ring) first_small seven sheets
        ∙ ap (λ (S : Set). seen_one.sheet ++ ascending 64 S) first_part)
        (ap (ascending 64) second_part)

    -- the node at the end
    node_seen : seen_node written node (settled_row decided row) ≡ after_settling nonconflicting conflicting seen_one
    node_seen =
        let sheet = shown written node (settled_row decided row) in
        begins_seen (row.stage + 1) row.received everything sheet
        ∙ ap (λ (stage : ℕ). beginning stage (has row.received) (has everything) sheet) (add-one row.stage)
        ∙ ap₂ (beginning (suc row.stage) (has row.received)) all_seen sheet_seen

    -- any other node's sheet stays
    elsewhere : (x : ℕ) → x < z.n → (x ≡ node → ⊥) → shown written x (row_of w x) ≡ shown w.sheets x (row_of w x)
    elsewhere x l d =
        let few = ones-le 64 (on_sheet (row_of w x)) (sheet_small j x l) in
        grown_elsewhere halfway node (with_first decided row) decided.1 halfway_small second_small x _ d few
        ∙ grown_elsewhere w.sheets node (on_sheet row) decided.0 (sheet_small j node lives.in_ring) first_small x _ d few

    -- the node settles its stage
    settled_joined : Called K z need low high w M (settled_by w node decided) M
    settled_joined =
        let f = j.fine in
        record {
          call = settles node (record {
            steps = record {
              in_ring = lives.in_ring;
              alive = lives.alive;
              letters = λ i l. refl;
              book = record { messages = refl; conflict = refl; broadcaster = refl };
              live = lives_kept w.ring node (settled_row decided row);
            };
            closing = ap (λ (phase : Phase). not (is_gathering phase)) waiting;
            proposed = ap is_proposed waiting;
            decided = ap stands decision;
            becomes = record {
              here = row_seen written w.ring node (settled_row decided row) (has_row f node lives.in_ring)
                  ∙ node_seen;
              others = λ x l d. other_seen written w.ring node (settled_row decided row) x d
                  ∙ ap (seen_row (row_of w x)) (elsewhere x l d);
            };
            chooser = same_chooser K w (settled_by w node decided) M;
            silent = refl;
          });
          fine = fine_changed f node lives.in_ring (settled_row decided row) (begins_fine z (row.stage + 1) row.received _)
              w.ring.used w.tray written refl f.used_in_tray
              (grown_length halfway node (with_first decided row) decided.1
              ∙ grown_length w.sheets node (on_sheet row) decided.0);
          chooser = j.chooser;
        }

  -- the step of a closing node that has proposed, refused or not
  pub settling_joined : (r : Result Step Refusal) (v : World) (N : Meaning) → Settling w M node r v N
      → Called K z need low high w M v N
  settling_joined r v N h =
      let told = decision_for w M node in
      subst (Called K z need low high w M v) (sym h.2)
      (either_way (λ (q : World). Called K z need low high w M q M) (settle_refusal told) (settled_by w node (decided_of told)) w v
      h.1 (λ e. settled_joined (decided_of told) (told_stands (served row.stage) (M.decision row.stage) e))
      (refused_called j))
