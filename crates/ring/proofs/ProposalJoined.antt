-- The step of a closing node that proposes keeps a world joined to the protocol.
use Rattle.std.proofs.Common.{◌≡◌, ℕ, zero, suc, ◌+◌, ◌/◌, ◌<◌, ◌≤◌, Bool, false, cond, not, ◌&&◌, eqb, ltb, leb, List, get_or}
use Rattle.std.proofs.Common.{None, Ok as Done, Err, Result, sym, refl, ap, ◌∙◌, subst, ap₂, inl, inr, add-one, arith}
use mathlib.Core.Path.{fun_ext}
use Rattle.std.proofs.lemmas.Bool.{cases_Bool, and_parts, or_right, eq-eqb, ne_eqb, le-ltb, cond-true, cond-false, ltb-false}
use Rattle.record.specs.Kind.{Kind}
use Rattle.chooser.specs.Meaning.{Meaning, Sound, Appended, proposal_of}
use Rattle.protocol.specs.Nodes.{tally, undelivered as undelivered-of}
use Rattle.protocol.specs.Ring.{Size, Node as Seen-node}
use Rattle.protocol.specs.Runs.{proposes}
use Rattle.protocol.specs.Sets.{Set, ◌∈◌, ◌∉◌, count, ◌∖◌}
use Rattle.protocol.proofs.Counting.{count_none}
use Rattle.rows.specs.Masks.{has}
use Rattle.rows.specs.Proposals.{holding, in_majority, majority, proposed_sets, propose_refusal}
use Rattle.rows.specs.Receipts.{from_sender, is_gathering, is_proposed}
use Rattle.rows.specs.Rows.{no_check, undelivered, with_proposed}
use Rattle.rows.specs.declared.refusal.Refusal.{Refusal}
use Rattle.rows.specs.declared.row.Check.{Check}
use Rattle.rows.specs.declared.row.Phase.{Phase}
use Rattle.rows.specs.declared.row.Phase.TheVariants.{Closing}
use Rattle.rows.specs.declared.row.Row.{Row}
use Rattle.rows.specs.declared.size.RingSize.{RingSize}
use Rattle.rows.proofs.Masks.{those_lt}
use Rattle.rows.proofs.Phases.{proposed_gathers, proposed_proposed}
use Rattle.ring.specs.World.{World, quorum_of, row_of}
use Rattle.ring.specs.Close.{proposed_by, Proposing}
use Rattle.ring.specs.declared.step.Step.{Step}
use Rattle.ring.specs.declared.step.Step.TheVariants.{Acknowledged, Closed, Proposed, Settled}
use Rattle.ring.proofs.Called.{Called, refused_called}
use Rattle.ring.proofs.Causes.{refuse_none, proposal_none, Lives}
use Rattle.ring.proofs.Changing.{quorum_is, has_row, fine_changed, fine_row, other_seen, row_seen, bounds}
use Rattle.ring.proofs.ChooserSeen.{appended_fine, hands_in}
use Rattle.ring.proofs.KeptCount.{count_with, sender_other, kept_count}
use Rattle.ring.proofs.Membership.{set_minus, minus_small, those_set}
use Rattle.ring.proofs.NodesKept.{lives_kept}
use Rattle.ring.proofs.Seeing.{seen_node, check_from, size_of, Apart, RowFine, Joined}

-- ---- checks are counted by their senders

-- the nodes of which a check with the message m is among the first k
abbrev holders : List Check → ℕ → ℕ → Set
holders checks m k = λ x. from_sender checks x k && has (check_from checks x k) m

-- so there are as many such nodes as such checks
holding_count : (n : ℕ) (checks : List Check) (m k : ℕ) → Apart n checks k → holding checks m k ≡ count n (holders checks m k)
unfolding from_sender check_from
holding_count n checks m zero a = sym (count_none n (holders checks m 0) (λ i l. refl))
holding_count n checks m (suc k) a =
    let s : ℕ = (get_or checks k no_check).sender in
    let x : ℕ = (get_or checks k no_check).set in
    let other : (y : ℕ) → (y ≡ s → ⊥) → holders checks m (suc k) y ≡ holders checks m k y = λ y d.
    ap₂ (λ (b : Bool) (c : ℕ). b && has c m) (sender_other checks k y d)
    (cond-false (eqb s y) x (check_from checks y k) (ne_eqb s y (λ e. d (sym e)))) in
    let here : holders checks m (suc k) s ≡ has x m =
    ap₂ (λ (b : Bool) (c : ℕ). b && has c m) (or_right (from_sender checks s k) (eqb s s) (eq-eqb s s refl))
    (cond-true (eqb s s) x (check_from checks s k) (eq-eqb s s refl)) in
    let before : s ∉ holders checks m k = ap (λ (b : Bool). b && has (check_from checks s k) m) a.1 in
    ap₂ ◌+◌ (holding_count n checks m k a.2) (ap (λ (b : Bool). cond b 1 0) (sym here))
    ∙ sym (count_with n (holders checks m k) (holders checks m (suc k)) s a.0 before other)

-- ---- the step

module _ {K : Kind} {z : RingSize} {need : ℕ} {low : 1 ≤ need} {high : need ≤ z.q} {w : World} {M : Meaning}
    (j : Joined K z need low high w M) (node : ℕ) (lives : Lives z w.ring node)
    (closing : (row_of w node).phase ≡ Closing) where
  -- its row
  abbrev row : Row
  row = row_of w node

  -- the quorum
  abbrev quorum : ℕ
  quorum = quorum_of w.ring.size

  -- the node as it is seen
  abbrev seen_one : Seen-node
  seen_one = seen_node w.sheets node row

  -- the size of the ring as the protocol has it
  abbrev seen_size : Size
  seen_size = size_of z need low high

  -- its row is fine
  its_fine : RowFine z row
  its_fine = j.fine.rows node lives.in_ring

  -- a message of a kept check was broadcast
  check_known : (x m : ℕ) → x < z.n → x ∈ holders row.checks m row.checked → m < 64
  check_known x m l h =
      let both = and_parts (from_sender row.checks x row.checked) (has (check_from row.checks x row.checked) m) h in
      let sent = (j.ok.nodes node lives.in_ring).checks.kept_from x l both.0 in
      let in-letter = subst (λ (S : Set). m ∈ S) (sym sent.2) both.1 in
      let known = (j.ok.post.each sent.0 sent.1.place).unspoilt.known m in-letter in
      omega (arith, known, j.ok.book.messages_le)

  -- so no other message is in most of them
  most_known : (m : ℕ) → 64 ≤ m → m ∉ tally seen_size seen_one
  most_known m h =
      let held : Set = holders row.checks m row.checked in
      let by-nobody : (x : ℕ) → x < z.n → x ∉ held = λ x l. elim (cases_Bool (held x)) [
        | inl t ↦ absurd (omega (arith, h, check_known x m l t))
        | inr e ↦ e
      ] in
      le-ltb (z.q / 2) (count z.n held) (omega (arith, count_none z.n held by-nobody))

  -- a proposal that is not refused: it keeps enough checks
  module _ (enough : ltb row.checked quorum ≡ false) where
    -- that are just so many as it needs
    full : row.checked ≡ quorum
    full = omega (arith, ltb-false _ _ enough, its_fine.checks_few, quorum_is j.fine)

    -- what is in a majority of them, is in most of them as the protocol counts
    in_most : (m : ℕ) → in_majority row.checks quorum m ≡ tally seen_size seen_one m
    in_most m =
        let more : quorum / 2 + 1 ≡ suc (z.q / 2) = ap (λ (q : ℕ). q / 2 + 1) (quorum_is j.fine) ∙ add-one (z.q / 2) in
        let apart : Apart z.n row.checks quorum = subst (Apart z.n row.checks) full its_fine.checks_apart in
        ap₂ leb more (holding_count z.n row.checks m quorum apart
        ∙ ap (λ (k : ℕ). count z.n (holders row.checks m k)) (sym full))

    -- it proposes that as nonconflicting
    majority_seen : has (majority row.checks quorum) ≡ tally seen_size seen_one
    majority_seen = those_set (in_majority row.checks quorum) 64 (λ m h. in_most m ∙ most_known m h) ∙ fun_ext in_most

    -- and the rest as conflicting
    rest_seen : has (proposed_sets quorum row).1 ≡ (undelivered-of seen_one ∖ tally seen_size seen_one)
    rest_seen =
        let small = bounds j node lives.in_ring in
        set_minus (undelivered row) (majority row.checks quorum)
        (minus_small row.received row.delivered small.received) (those_lt (in_majority row.checks quorum) 64)
        ∙ ap₂ ◌∖◌ (set_minus row.received row.delivered small.received small.delivered) majority_seen

  -- the node proposes
  proposed_joined : (N : Meaning) → propose_refusal quorum node row M ≡ None
      → Appended M row.stage (proposal_of node (proposed_sets quorum row)) N → Sound N
      → Called K z need low high w M (proposed_by w node) N
  proposed_joined N accepted appended sound =
      let causes = refuse_none (ltb row.checked quorum) _ _ accepted in
      let enough = causes.0 in
      let new = (proposal_none (M.proposals row.stage) row.stage node causes.1).1 in
      let f = j.fine in
      record {
        call = proposes node (record {
          steps = record {
            in_ring = lives.in_ring;
            alive = lives.alive;
            letters = λ i l. refl;
            book = record { messages = refl; conflict = refl; broadcaster = refl };
            live = lives_kept w.ring node (with_proposed row);
          };
          closing = ap (λ (phase : Phase). not (is_gathering phase)) closing;
          not_yet = ap is_proposed closing;
          enough = omega (
            arith,
            kept_count z.n row.checks row.checked its_fine.checks_apart,
            full enough,
            quorum_is j.fine,
          );
          hands_in = hands_in j.chooser row.stage node (proposed_sets quorum row) lives.in_ring new appended sound
              K w (proposed_by w node) low high _ _ (majority_seen enough) (rest_seen enough);
          becomes = record {
            here = row_seen w.sheets w.ring node (with_proposed row) (has_row f node lives.in_ring)
                ∙ ap₂ (λ (c b : Bool). record (seen_node w.sheets node (with_proposed row)) { closing = c; proposed = b })
                (ap not (proposed_gathers row.phase)) (proposed_proposed row.phase);
            others = λ x l d. other_seen w.sheets w.ring node (with_proposed row) x d;
          };
          silent = refl;
        });
        fine = fine_changed f node lives.in_ring (with_proposed row) (fine_row its_fine refl refl refl)
            w.ring.used w.tray w.sheets refl f.used_in_tray refl;
        chooser = appended_fine j.chooser row.stage node (proposed_sets quorum row) lives.in_ring new appended sound;
      }

  -- the step of a closing node that has not proposed, refused or not
  pub proposing_joined : (r : Result Step Refusal) (v : World) (N : Meaning) → Proposing w M node r v N → Sound N
      → Called K z need low high w M v N
  proposing_joined (Done Proposed) v N h sound =
      subst (λ (q : World). Called K z need low high w M q N) (sym h.2) (proposed_joined N h.0 h.1 sound)
  proposing_joined (Done Acknowledged) v N h sound = absurd h
  proposing_joined (Done (Closed a b)) v N h sound = absurd h
  proposing_joined (Done Settled) v N h sound = absurd h
  proposing_joined (Err e) v N h sound =
      subst (λ (q : World). Called K z need low high w M q N) (sym h.1) (subst (Called K z need low high w M w) (sym h.2) (refused_called j))
