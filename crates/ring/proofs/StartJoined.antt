-- An accepted start joins the world to a start of the protocol.
use Rattle.std.proofs.Common.{◌≡◌, ℕ, ◌-◌, ◌*◌, ◌<◌, ◌≤◌, false, not, ltb, leb, List, [], length, get_or, take, drop}
use Rattle.std.proofs.Common.{replicate, Some, None, Ok, Err, Option, Result, sym, refl, ap, ◌∙◌, subst, ap₂, inl, inr, arith}
use lib.Count.{ones, ones-ones}
use Rattle.std.proofs.lemmas.List.{length-replicate, get_or-replicate, nil_from_length}
use Rattle.std.proofs.lemmas.List.Folds.{list_any_at}
use Rattle.std.proofs.lemmas.List.FromFn.{length-range_with_len, get_or-range_with_len}
use Rattle.std.specs.List.{range_with_len}
use Rattle.std.proofs.lemmas.Bool.{cases_Bool, and_parts, eqb-true, leb-true, ltb-false, not-false, both_ways}
use Rattle.record.specs.Kind.{Kind, Laws}
use Rattle.chooser.specs.Meaning.{Meaning, Sound, served, has_proposed}
use Rattle.chooser.specs.declared.proposal.Proposal.{Proposal}
use Rattle.protocol.specs.Nodes.{fresh}
use Rattle.protocol.specs.Sets.{Set}
use Rattle.protocol.proofs.Running.{start_ok}
use Rattle.rows.specs.Causes.{outcome, unless}
use Rattle.rows.specs.Conflicts.{no_command}
use Rattle.rows.specs.Letters.{no_letter}
use Rattle.rows.specs.Masks.{has}
use Rattle.rows.specs.Rows.{new_row}
use Rattle.rows.specs.declared.refusal.Refusal.{Refusal}
use Rattle.rows.specs.declared.row.Row.{Row}
use Rattle.rows.specs.declared.size.RingSize.{RingSize}
use Rattle.ring.specs.World.{World, no_node, wrong_sizes, table_refusal}
use Rattle.ring.specs.Start.{new_node, is_used, in_use, start_refusal, started, Starts}
use Rattle.ring.specs.declared.ring.Node.{Node}
use Rattle.ring.proofs.BlankRows.{begins_fine, beginning, begins_seen}
use Rattle.ring.proofs.BroadcastJoined.{conflict_both_sides, conflict_not_itself}
use Rattle.ring.proofs.Causes.{refuse_none, first_none, tables_fit}
use Rattle.ring.proofs.Membership.{has_none, set_none}
use Rattle.ring.proofs.NodesKept.{nobody_crashed}
use Rattle.ring.proofs.Seeing.{stands, left_of, right_of, seen_node, Listed, RowFine, Joined}

-- ---- what a start answers and leaves

-- by the cause that turns it down, or none
by_cause : (P : Result (Unit {0}) Refusal → World → Type 0) (z : RingSize) (u : World) (o : Option Refusal)
    → (o ≡ None → P (Ok tt) (started z u)) → ((e : Refusal) → P (Err e) u) → P (outcome o) (unless o (started z u) u)
by_cause P z u None accepted refused = accepted refl
by_cause P z u (Some e) accepted refused = refused e

-- what holds after an accepted start and after any refused one holds after every start
pub each_start : (P : Result (Unit {0}) Refusal → World → Type 0) (z : RingSize) (u v : World) (M : Meaning)
    (r : Result (Unit {0}) Refusal) → Starts z u M r v → (start_refusal z u M ≡ None → P (Ok tt) (started z u))
    → ((e : Refusal) → P (Err e) u) → P r v
each_start P z u v M r h accepted refused =
    subst (λ (a : Result (Unit {0}) Refusal). P a v) (sym h.0)
    (subst (λ (w : World). P (outcome (start_refusal z u M)) w) (sym h.1)
    (by_cause P z u (start_refusal z u M) accepted refused))

-- ---- a new row

-- a new row is seen as a fresh node
new_row_seen : (sheets : List ℕ) (r : ℕ) → seen_node sheets r new_row ≡ fresh
new_row_seen sheets r =
    begins_seen 1 0 0 (take (ones 0) (drop (64 * r) sheets))
    ∙ ap₂ (λ (S : Set) (k : ℕ). beginning 1 S S (take k (drop (64 * r) sheets))) set_none (ones-ones 0)

-- every node of the ring has a new row
pub row_is_new : (z : RingSize) (r : ℕ) → r < z.n → (get_or (replicate 7 new_node) r no_node).row ≡ new_row
row_is_new z r l = ap (λ (n : Node). n.row) (get_or-replicate 7 r new_node no_node (omega (arith, l, z.high)))

-- ---- a chooser that nobody asked

-- where none of the stages 1 to k is in use, none of them has a proposal
unused : (M : Meaning) (k j : ℕ) → in_use M k ≡ false → 1 ≤ j → j ≤ k → M.proposals j ≡ []
unfolding in_use
unused M k j h low high =
    let i : ℕ = j - 1 in
    let here : get_or (range_with_len 1 k) i 0 ≡ j =
    get_or-range_with_len 1 k i 0 (omega (arith, low, high)) ∙ omega (arith, low) in
    let l : i < length (range_with_len 1 k) = omega (arith, low, high, length-range_with_len 1 k) in
    elim (cases_Bool (is_used M j)) [
      | inl t ↦ absurd (both_ways _ h
          (list_any_at (is_used M) (range_with_len 1 k) i 0 l (ap (is_used M) here ∙ t)))
      | inr t ↦ nil_from_length (M.proposals j) (eqb-true _ _ (not-false _ t))
    ]

module _ (z : RingSize) (w : World) (M : Meaning) (h : start_refusal z w M ≡ None) where
  -- neither the need nor the use of the chooser turned it down
  passes : (ltb z.q M.need ≡ false) × (in_use M 32 ≡ false)
  passes =
      let need = refuse_none (ltb z.q M.need) _ _ (first_none (table_refusal w) _ h).1 in
      (need.0, (refuse_none (in_use M 32) _ _ need.1).0)

  -- the chooser of an accepted start needs no more proposals than the quorum
  pub start_high : M.need ≤ z.q
  start_high = ltb-false _ _ passes.0

  module _ (sound : Sound M) where
    -- no stage has a proposal
    no_proposals : (j : ℕ) → M.proposals j ≡ []
    no_proposals j = elim (cases_Bool (served j)) [
      | inl t ↦ let p = and_parts (leb 1 j) (leb j 32) t in
          unused M 32 j passes.1 (leb-true _ _ p.0) (leb-true _ _ p.1)
      | inr f ↦ sound.unserved j f
    ]

    -- and none is decided
    no_decision : (j : ℕ) → M.decision j ≡ None
    no_decision j = sound.waits j (omega (arith, ap length (no_proposals j), sound.need_low))

    -- the world after an accepted start is joined
    pub start_joined : (K : Kind) → Laws K → Joined K z M.need sound.need_low start_high (started z w) M
    start_joined K laws = record {
      ok = start_ok (record {
        messages = refl;
        sent = refl;
        nodes = λ r l. ap (seen_node (replicate (length w.sheets) 0) r) (row_is_new z r l) ∙ new_row_seen _ r;
        live = λ r l. ap not (nobody_crashed r);
        proposers = λ j r. ap (has_proposed r) (no_proposals j);
        decided = λ j. ap stands (no_decision j);
        nonconflicting = λ m. ap (λ (o : Option (ℕ × ℕ)). has (left_of o) m) (no_decision 0) ∙ has_none m;
        conflicting = λ m. ap (λ (o : Option (ℕ × ℕ)). has (right_of o) m) (no_decision 0) ∙ has_none m;
        both_sides = conflict_both_sides K laws (started z w);
        not_itself = conflict_not_itself K (started z w);
      });
      fine = record {
        size = refl;
        nodes_length = length-replicate 7 new_node;
        broadcasters_length = length-replicate {A = ℕ} 64 0;
        rows = λ r l. subst (λ (row : Row). RowFine z row) (sym (row_is_new z r l)) (begins_fine z 1 0 0);
        tables = ap₂ (λ (tray : ℕ) (others : ℕ × ℕ). wrong_sizes tray others.0 others.1)
            (length-replicate (length w.tray) no_letter)
            (ap₂ (λ (book sheets : ℕ). (book, sheets)) (length-replicate (length w.book) no_command)
            (length-replicate {A = ℕ} (length w.sheets) 0))
            ∙ (tables_fit w (first_none (table_refusal w) _ h).0).fit;
        used_in_tray = omega arith;
        lawful = λ m l. absurd (omega (arith, l));
      };
      chooser = record {
        sound = sound;
        need_is = refl;
        listed = λ j. subst (λ (ps : List Proposal). Listed z.n ps) (sym (no_proposals j)) tt;
      };
    }
