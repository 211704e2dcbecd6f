-- The row of a node that begins a stage: its tables, and how it is seen.
use Rattle.std.proofs.Common.{◌≡◌, ℕ, zero, suc, ◌^◌, ◌<◌, false, List, get_or, replicate, sym, refl, ap, ◌∙◌, subst, ap₂, arith}
use mathlib.Core.Path.{fun_ext}
use Rattle.std.proofs.lemmas.Nat.{pow_pos}
use Rattle.std.proofs.lemmas.List.{length-replicate}
use Rattle.protocol.specs.Ring.{Node as Seen-node}
use Rattle.protocol.specs.Sets.{Set, none}
use Rattle.rows.specs.Masks.{has}
use Rattle.rows.specs.Receipts.{from_sender}
use Rattle.rows.specs.Rows.{no_check, at_stage}
use Rattle.rows.specs.declared.size.RingSize.{RingSize}
use Rattle.ring.proofs.Membership.{set_none}
use Rattle.ring.proofs.Seeing.{check_from, seen_row, RowFine}

-- a list of one value, read with that value beyond its end, has it everywhere
pub same_everywhere : {A : Type 0} (n i : ℕ) (a : A) → get_or (replicate n a) i a ≡ a
same_everywhere zero i a = refl
same_everywhere (suc n) zero a = refl
same_everywhere (suc n) (suc i) a = same_everywhere n i a

-- the row of a node that begins a stage is fine
pub begins_fine : (z : RingSize) (stage received delivered : ℕ) → RowFine z (at_stage stage received delivered)
begins_fine z stage received delivered = record {
  heard_length = length-replicate {A = ℕ} 64 0;
  heard_nodes = λ m. subst (λ (h : ℕ). h < 2 ^ z.n) (sym (same_everywhere 64 m 0)) (pow_pos z.n);
  checks_length = length-replicate 7 no_check;
  checks_few = omega arith;
  checks_apart = tt;
}

-- a node of the protocol that begins a stage
abbrev pub beginning : ℕ → Set → Set → List ℕ → Seen-node
beginning stage received delivered sheet = record {
  stage = stage;
  received = received;
  delivered = delivered;
  pending = none;
  early = none;
  heard = λ m. none;
  kept = none;
  check = λ x. none;
  closing = false;
  proposed = false;
  sheet = sheet;
}

-- the row is seen as such a node
pub begins_seen : (stage received delivered : ℕ) (sheet : List ℕ)
    → seen_row (at_stage stage received delivered) sheet ≡ beginning stage (has received) (has delivered) sheet
unfolding from_sender check_from
begins_seen stage received delivered sheet =
    ap₂ (λ (empty : Set) (heard : ℕ → Set). record {
      stage = stage;
      received = has received;
      delivered = has delivered;
      pending = empty;
      early = empty;
      heard = heard;
      kept = none;
      check = λ x. empty;
      closing = false;
      proposed = false;
      sheet = sheet;
    }) set_none (fun_ext (λ m. ap has (same_everywhere 64 m 0) ∙ set_none))
