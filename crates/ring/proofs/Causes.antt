-- What follows where no cause turns a call down.
use Rattle.std.proofs.Common.{◌≡◌, ℕ, ◌<◌, Bool, true, false, cond, not, ◌||◌, eqb, ltb, leb, List, length, Some, None, Option}
use Rattle.std.proofs.Common.{sym, refl, ap, subst, arith}
use Rattle.std.proofs.lemmas.Bool.{or_parts, not-false, leb-false, eqb-true}
use Rattle.chooser.specs.Meaning.{served, has_proposed, proposal_refusal}
use Rattle.chooser.specs.declared.proposal.Proposal.{Proposal}
use Rattle.chooser.specs.declared.refusal.Refusal.TheVariants.{NoSuchStage, NoSuchNode, ProposedBefore}
use Rattle.rows.specs.Causes.{refuse, first, unless}
use Rattle.rows.specs.Letters.{travelling, spoilt}
use Rattle.rows.specs.Proposals.{by_chooser}
use Rattle.rows.specs.declared.refusal.Refusal.{Refusal}
use Rattle.rows.specs.declared.refusal.Refusal.TheVariants.{Chooser}
use Rattle.rows.specs.declared.size.RingSize.{RingSize}
use Rattle.ring.specs.World.{World, nodes_of, unstarted, has_crashed, letter_at, wrong_sizes, table_refusal, node_refusal}
use Rattle.ring.specs.World.{live_refusal, letter_refusal}
use Rattle.ring.specs.declared.ring.Ring.{Ring}

-- ---- chains of causes

-- a cause is not the lack of one
pub not_some : {A : Type 0} (e : Refusal) → Some e ≡ None → A
not_some e h = let impossible : ◌≡◌ {A = ℕ} 0 1 = cc in absurd (omega arith)

-- where a chain of causes ends in none, its first cause does not apply, and the rest ends in none
pub refuse_none : (b : Bool) (e : Refusal) (rest : Option Refusal) → refuse b e rest ≡ None → (b ≡ false) × (rest ≡ None)
refuse_none true e rest h = not_some e h
refuse_none false e rest h = (refl, h)

-- the same of a chain before another
pub first_none : (a b : Option Refusal) → first a b ≡ None → (a ≡ None) × (b ≡ None)
first_none None b h = (refl, h)
first_none (Some e) b h = not_some e h

-- what holds of the world of an accepted call, and of the one before it, holds of the one that the call leaves
pub either_way : {X : Type 0} (P : X → Type 0) (o : Option Refusal) (a b v : X) → v ≡ unless o a b → (o ≡ None → P a) → P b → P v
either_way P None a b v h accepted refused = subst P (sym h) (accepted refl)
either_way P (Some e) a b v h accepted refused = subst P (sym h) refused

-- by the three tests of a proposal
proposal_judged : (serves other again : Bool)
    → by_chooser (cond serves (cond other (Some NoSuchNode) (cond again (Some ProposedBefore) None)) (Some NoSuchStage)) ≡ None
    → (serves ≡ true) × (again ≡ false)
proposal_judged true true again h = not_some (Chooser NoSuchNode) h
proposal_judged true false true h = not_some (Chooser ProposedBefore) h
proposal_judged true false false h = (refl, refl)
proposal_judged false other again h = not_some (Chooser NoSuchStage) h

-- a proposal that the chooser accepts is of a stage that it serves, and of a node that had none
pub proposal_none : (ps : List Proposal) (stage node : ℕ) → by_chooser (proposal_refusal ps stage node) ≡ None
    → (served stage ≡ true) × (has_proposed node ps ≡ false)
proposal_none ps stage node h = proposal_judged (served stage) (ltb 6 node) (has_proposed node ps) h

-- ---- the tables, a node and a letter

-- the sizes of the tables
pub record Tables (w : World) : Type 0 where
  pub fit : wrong_sizes (length w.tray) (length w.book) (length w.sheets) ≡ false
  pub book : length w.book ≡ 64
  pub sheets : length w.sheets ≡ 448

-- where they are not wrong
pub tables_of : (w : World) → wrong_sizes (length w.tray) (length w.book) (length w.sheets) ≡ false → Tables w
tables_of w h =
    let p = or_parts (eqb (length w.tray) 0 || ltb 4096 (length w.tray))
    (not (eqb (length w.book) 64) || not (eqb (length w.sheets) 448)) h in
    let q = or_parts (not (eqb (length w.book) 64)) (not (eqb (length w.sheets) 448)) p.1 in
    record {
      fit = h;
      book = eqb-true (length w.book) 64 (not-false _ q.0);
      sheets = eqb-true (length w.sheets) 448 (not-false _ q.1);
    }

-- and so where no cause tells that they are
pub tables_fit : (w : World) → table_refusal w ≡ None → Tables w
tables_fit w h = tables_of w (refuse_none (wrong_sizes (length w.tray) (length w.book) (length w.sheets)) _ _ h).0

-- a node of the ring
in_ring : (z : RingSize) (r : Ring) (node : ℕ) → r.size ≡ Some z → node_refusal r node ≡ None → node < z.n
in_ring z r node e h =
    let b = refuse_none (unstarted r.size) _ _ h in
    let c = refuse_none (leb (nodes_of r.size) node) _ _ b.1 in
    subst (λ (o : Option RingSize). node < nodes_of o) e (leb-false _ _ c.0)

-- that lives
pub record Lives (z : RingSize) (r : Ring) (node : ℕ) : Type 0 where
  pub in_ring : node < z.n
  pub alive : not (has_crashed r node) ≡ true

-- where no cause tells that it does not
pub living : (z : RingSize) (r : Ring) (node : ℕ) → r.size ≡ Some z → live_refusal r node ≡ None → Lives z r node
living z r node e h =
    let a = first_none (node_refusal r node) _ h in
    let b = refuse_none (has_crashed r node) _ _ a.1 in
    record { in_ring = in_ring z r node e a.0; alive = ap not b.0 }

-- a letter that may be received or lost
pub record Travels (w : World) (place : ℕ) : Type 0 where
  pub tables : Tables w
  pub used : place < w.ring.used
  pub in_tray : place < length w.tray
  pub mark : (letter_at w place).mark ≡ travelling
  pub unspoilt : spoilt (nodes_of w.ring.size) w.ring.messages (letter_at w place) ≡ false

-- where no cause tells that it may not
pub travels : (w : World) (place : ℕ) → letter_refusal w place ≡ None → Travels w place
travels w place h =
    let a = first_none (table_refusal w) _ h in
    let b = refuse_none (unstarted w.ring.size) _ _ a.1 in
    let c = refuse_none (leb w.ring.used place || leb (length w.tray) place) _ _ b.1 in
    let d = refuse_none (not (eqb (letter_at w place).mark travelling)) _ _ c.1 in
    let e = refuse_none (spoilt (nodes_of w.ring.size) w.ring.messages (letter_at w place)) _ _ d.1 in
    let o = or_parts (leb w.ring.used place) (leb (length w.tray) place) c.0 in
    record {
      tables = tables_fit w a.0;
      used = leb-false _ _ o.0;
      in_tray = leb-false _ _ o.1;
      mark = eqb-true _ _ (not-false _ d.0);
      unspoilt = e.0;
    }
