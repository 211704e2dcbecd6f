-- A crash and a loss keep a world joined to the protocol.
use Rattle.std.proofs.Common.{◌≡◌, ℕ, ◌<◌, ◌≤◌, Bool, not, ◌&&◌, length, None, Result, sym, refl}
use Rattle.std.proofs.Common.{ap, ◌∙◌, subst, inl, inr}
use mathlib.Core.Bool.{and-true}
use mathlib.Core.Path.{fun_ext}
use Rattle.std.proofs.lemmas.Bool.{cases_eq, eq-eqb, ne_eqb, and_cases, and_right, not_from_true}
use Rattle.std.proofs.lemmas.List.{get_or-set_same, get_or-set_other, length-set}
use Rattle.record.specs.Kind.{Kind}
use Rattle.chooser.specs.Meaning.{Meaning}
use Rattle.protocol.specs.Runs.{crashes, loses}
use Rattle.protocol.specs.Sets.{Set, only, ◌∖◌}
use Rattle.rows.specs.Letters.{no_letter}
use Rattle.rows.specs.declared.refusal.Refusal.{Refusal}
use Rattle.rows.specs.declared.row.Row.{Row}
use Rattle.rows.specs.declared.size.RingSize.{RingSize}
use Rattle.ring.specs.World.{World, has_crashed, letter_at, wrong_sizes, live_refusal, letter_refusal}
use Rattle.ring.specs.Day.{with_ring}
use Rattle.ring.specs.Fail.{crashed_by, Crashes, lose_refusal, lost_at, Loses}
use Rattle.ring.specs.declared.ring.Ring.{Ring}
use Rattle.ring.proofs.Called.{Called, refused_called}
use Rattle.ring.proofs.Causes.{refuse_none, first_none, either_way, living, travels}
use Rattle.ring.proofs.Changing.{has_row}
use Rattle.ring.proofs.Effects.{same_chooser}
use Rattle.ring.proofs.NodesKept.{rows_kept, crashed_here, crashed_elsewhere}
use Rattle.ring.proofs.Seeing.{seen_letter, seen_node, RowFine, Joined}

-- after a crash, the nodes that live are those that lived, without the crashed one
without_crashed : (r : Ring) (node : ℕ) → node < length r.nodes
    → ◌≡◌ {A = Set} (λ x. not (has_crashed (crashed_by r node) x)) ((λ x. not (has_crashed r x)) ∖ only node)
without_crashed r node l = fun_ext (λ x. elim (cases_eq x node) [
  | inl e ↦ not_from_true _ (ap (has_crashed (crashed_by r node)) e ∙ crashed_here r node l)
      ∙ sym (and_right (not (has_crashed r x)) _ (not_from_true _ (eq-eqb x node e)))
  | inr d ↦ ap not (crashed_elsewhere r node x d)
      ∙ sym (ap (λ (v : Bool). not (has_crashed r x) && v) (ap not (ne_eqb x node d)) ∙ and-true _)
])

module _ {K : Kind} {z : RingSize} {need : ℕ} {low : 1 ≤ need} {high : need ≤ z.q} {w : World} {M : Meaning}
    (j : Joined K z need low high w M) where
  -- a crash of a live node
  crashed_joined : (node : ℕ) → live_refusal w.ring node ≡ None
      → Called K z need low high w M (with_ring w (crashed_by w.ring node)) M
  crashed_joined node h =
      let f = j.fine in
      let l = living z w.ring node f.size h in
      record {
        call = crashes node (record {
          in_ring = l.in_ring;
          alive = l.alive;
          live = without_crashed w.ring node (has_row f node l.in_ring);
          letters = λ i k. refl;
          silent = refl;
          book = record { messages = refl; conflict = refl; broadcaster = refl };
          chooser = same_chooser K w (with_ring w (crashed_by w.ring node)) M;
          nodes = λ x k. ap (seen_node w.sheets x) (rows_kept w.ring node x);
        });
        fine = record {
          size = f.size;
          nodes_length = length-set w.ring.nodes node _ ∙ f.nodes_length;
          broadcasters_length = f.broadcasters_length;
          rows = λ x k. subst (λ (row : Row). RowFine z row) (sym (rows_kept w.ring node x)) (f.rows x k);
          tables = f.tables;
          used_in_tray = f.used_in_tray;
          lawful = f.lawful;
        };
        chooser = j.chooser;
      }

  -- a crash, refused or not
  pub crashes_joined : (node : ℕ) (r : Result (Unit {0}) Refusal) (s : Ring) → Crashes w.ring node r s
      → Called K z need low high w M (with_ring w s) M
  crashes_joined node r s h =
      either_way (λ (q : Ring). Called K z need low high w M (with_ring w q) M) (live_refusal w.ring node)
      (crashed_by w.ring node) w.ring s h.1 (crashed_joined node) (refused_called j)

  -- a loss of a letter that has gone astray
  lost_joined : (place : ℕ) → lose_refusal w place ≡ None → Called K z need low high w M (lost_at w place) M
  lost_joined place h =
      let f = j.fine in
      let a = first_none (letter_refusal w place) _ h in
      let t = travels w place a.0 in
      let sender = has_crashed w.ring (letter_at w place).sender in
      let receiver = has_crashed w.ring (letter_at w place).receiver in
      let gone = (refuse_none (not sender && not receiver) _ _ a.1).0 in
      let same = length-set w.tray place _ in
      record {
        call = loses place (record {
          place = t.used;
          travels = t.mark;
          crashed = and_cases (not sender) (not receiver) gone;
          marks = record {
            here = ap seen_letter (get_or-set_same w.tray place _ no_letter t.in_tray);
            others = λ i k d. ap seen_letter (get_or-set_other w.tray place i _ no_letter d);
          };
          silent = refl;
          book = record { messages = refl; conflict = refl; broadcaster = refl };
          chooser = same_chooser K w (lost_at w place) M;
          nodes = λ x k. refl;
          live = refl;
        });
        fine = record {
          size = f.size;
          nodes_length = f.nodes_length;
          broadcasters_length = f.broadcasters_length;
          rows = f.rows;
          tables = ap (λ (k : ℕ). wrong_sizes k (length w.book) (length w.sheets)) same ∙ f.tables;
          used_in_tray = subst (λ (k : ℕ). w.ring.used ≤ k) (sym same) f.used_in_tray;
          lawful = f.lawful;
        };
        chooser = j.chooser;
      }

  -- a loss, refused or not
  pub loses_joined : (place : ℕ) (r : Result (Unit {0}) Refusal) (v : World) → Loses w place r v
      → Called K z need low high w M v M
  loses_joined place r v h =
      either_way (λ (q : World). Called K z need low high w M q M) (lose_refusal w place) (lost_at w place) w v h.1
      (lost_joined place) (refused_called j)
