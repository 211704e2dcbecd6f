-- The step of a gathering node keeps a world joined to the protocol.
use Rattle.std.proofs.Common.{◌≡◌, ℕ, ◌+◌, ◌<◌, ◌≤◌, Bool, true, false, not, ◌&&◌, length, None, Ok as Done, Err, Result, sym, refl, ap, ap₂}
use Rattle.std.proofs.Common.{◌∙◌, subst, inl, inr, arith}
use Rattle.std.proofs.lemmas.Bool.{cases_Bool, both_ways, and_parts, and_from, ltb-false}
use Rattle.record.specs.Kind.{Kind}
use Rattle.chooser.specs.Meaning.{Meaning}
use Rattle.protocol.specs.Calls.{Sends, Steps, Becomes}
use Rattle.protocol.specs.Runs.{acknowledges, closes}
use Rattle.protocol.specs.Setters.{with_pending as with-pending-set}
use Rattle.protocol.specs.Sets.{Set, ◌∈◌, ◌∖◌}
use Rattle.rows.specs.Conflicts.{conflicted, clash}
use Rattle.rows.specs.Letters.{acknowledgement, check_letter, letter_of, no_room}
use Rattle.rows.specs.Masks.{has, within}
use Rattle.rows.specs.Receipts.{is_gathering}
use Rattle.rows.specs.Rows.{undelivered, with_pending, with_closed}
use Rattle.rows.specs.declared.letter.Letter.{Letter}
use Rattle.rows.specs.declared.refusal.Refusal.{Refusal}
use Rattle.rows.specs.declared.row.Row.{Row}
use Rattle.rows.specs.declared.size.RingSize.{RingSize}
use Rattle.rows.proofs.Clashes.{conflicted_true}
use Rattle.rows.proofs.Phases.{closed_gathers, closed_proposed}
use Rattle.ring.specs.World.{World, nodes_of, row_of}
use Rattle.ring.specs.Gather.{gather_refusal, sending, acknowledged, closed, Gathers}
use Rattle.ring.specs.Promises.{conflict}
use Rattle.ring.specs.declared.step.Step.{Step}
use Rattle.ring.specs.declared.step.Step.TheVariants.{Acknowledged, Closed, Proposed, Settled}
use Rattle.ring.proofs.Called.{Called, refused_called}
use Rattle.ring.proofs.Causes.{refuse_none, Lives}
use Rattle.ring.proofs.Changing.{has_row, fine_changed, fine_row, other_seen, row_seen, bounds}
use Rattle.ring.proofs.Effects.{same_chooser, letters_stay, sends_to_all}
use Rattle.ring.proofs.Membership.{set_minus}
use Rattle.ring.proofs.NodesKept.{lives_kept}
use Rattle.ring.proofs.Seeing.{seen, seen_node, size_of, Fine, Joined}
use Rattle.ring.proofs.Sending.{sent_length}

-- where no two messages of a set clash, no two of them conflict
free_of_conflict : (K : Kind) (w : World) (x a b : ℕ) → conflicted K.conflicts w.book x ≡ false
    → a < 64 → b < 64 → a ∈ has x → b ∈ has x → conflict K w a b ≡ false
free_of_conflict K w x a b none la lb one other = elim (cases_Bool (conflict K w a b)) [
  | inl t ↦ absurd (both_ways (conflicted K.conflicts w.book x) none
      (conflicted_true K.conflicts w.book x a b la lb (and_from _ _ (and_from _ _ one other) t)))
  | inr e ↦ e
]

module _ {K : Kind} {z : RingSize} {need : ℕ} {low : 1 ≤ need} {high : need ≤ z.q} {w : World} {M : Meaning}
    (j : Joined K z need low high w M) (node : ℕ) (lives : Lives z w.ring node)
    (gathers : is_gathering (row_of w node).phase ≡ true) where
  -- the node is seen as gathering
  not_closing : not (is_gathering (row_of w node).phase) ≡ false
  not_closing = ap not gathers

  -- the mask of what it has not delivered is seen as that set
  undelivered_seen : has (undelivered (row_of w node)) ≡ (has (row_of w node).received ∖ has (row_of w node).delivered)
  undelivered_seen =
      let small = bounds j node lives.in_ring in
      set_minus (row_of w node).received (row_of w node).delivered small.received small.delivered

  -- whose messages have their places in the book
  undelivered_known : (m : ℕ) → m ∈ has (undelivered (row_of w node)) → m < 64
  undelivered_known m h =
      let received : m ∈ has (row_of w node).received = (and_parts _ _ (subst (λ (S : Set). m ∈ S) undelivered_seen h)).0 in
      omega (arith, j.ok.book.messages_le, (j.ok.nodes node lives.in_ring).pending.received_known m received)

  -- a step that is not refused: the node sends the letter l to all and gets a row with the same tables
  module _ (accepted : gather_refusal w node ≡ None) (l : Letter) (row : Row) where
    -- there is room for the letters
    room : w.ring.used + nodes_of w.ring.size ≤ length w.tray
    room =
        let new = refuse_none (within (undelivered (row_of w node)) (row_of w node).pending) _ _ accepted in
        ltb-false _ _ (refuse_none (no_room w.tray w.ring.used (nodes_of w.ring.size)) _ _ new.1).0

    -- the protocol sees that it sends them
    sends : Sends (size_of z need low high) (seen K w M) (seen K (sending w node l row) M)
        l.sender l.kind l.stage (has l.set)
    sends = sends_to_all j.fine (sending w node l row) M l refl need low high refl room

    -- that it is the one who steps
    steps : Steps (size_of z need low high) (seen K w M) (seen K (sending w node l row) M) node
    steps = record {
      in_ring = lives.in_ring;
      alive = lives.alive;
      letters = letters_stay j.fine (sending w node l row) M l refl;
      book = record { messages = refl; conflict = refl; broadcaster = refl };
      live = lives_kept w.ring node row;
    }

    -- and that it alone changes
    becomes : Becomes (size_of z need low high) (seen K w M) (seen K (sending w node l row) M) node
        (seen_node w.sheets node row)
    becomes = record {
      here = row_seen w.sheets w.ring node row (has_row j.fine node lives.in_ring);
      others = λ x k d. other_seen w.sheets w.ring node row x d;
    }

    -- what is known of the world besides stays so
    fine : row.heard ≡ (row_of w node).heard → row.checks ≡ (row_of w node).checks → row.checked ≡ (row_of w node).checked
        → Fine K z (sending w node l row)
    fine heard checks checked =
        let f = j.fine in
        let same = sent_length w.tray w.ring.used l (nodes_of w.ring.size) in
        fine_changed f node lives.in_ring row (fine_row (f.rows node lives.in_ring) heard checks checked) _ _ w.sheets
        same (subst (λ (k : ℕ). w.ring.used + nodes_of w.ring.size ≤ k) (sym same) room) refl

  -- the node acknowledges what it has not delivered
  acknowledged_joined : gather_refusal w node ≡ None → conflicted K.conflicts w.book (undelivered (row_of w node)) ≡ false
      → Called K z need low high w M (acknowledged w node) M
  acknowledged_joined accepted none =
      let x = undelivered (row_of w node) in
      let l = letter_of node acknowledgement (row_of w node).stage x in
      let row = with_pending x (row_of w node) in
      let in-mask : (m : ℕ) → m ∈ (has (row_of w node).received ∖ has (row_of w node).delivered) → m ∈ has x =
      λ m h. subst (λ (S : Set). m ∈ S) (sym undelivered_seen) h in
      let change = becomes accepted l row in
      record {
        call = acknowledges node (record {
          steps = steps accepted l row;
          gathering = not_closing;
          free = λ a b one other. free_of_conflict K w x a b none
              (undelivered_known a (in-mask a one)) (undelivered_known b (in-mask b other)) (in-mask a one) (in-mask b other);
          sends = subst (λ (S : Set). Sends (size_of z need low high) (seen K w M) (seen K (acknowledged w node) M)
              node acknowledgement (row_of w node).stage S) undelivered_seen (sends accepted l row);
          becomes = record {
            here = change.here
                ∙ ap (λ (S : Set). with-pending-set S (seen_node w.sheets node (row_of w node))) undelivered_seen;
            others = change.others;
          };
          chooser = same_chooser K w (acknowledged w node) M;
        });
        fine = fine accepted l row refl refl refl;
        chooser = j.chooser;
      }

  -- the node closes its stage, as a and b conflict
  closed_joined : (a b : ℕ) → gather_refusal w node ≡ None
      → clash K.conflicts w.book (undelivered (row_of w node)) a b ≡ true → Called K z need low high w M (closed w node) M
  closed_joined a b accepted both =
      let x = undelivered (row_of w node) in
      let l = letter_of node check_letter (row_of w node).stage (row_of w node).pending in
      let row = with_closed (row_of w node) in
      let change = becomes accepted l row in
      let parts = and_parts (has x a && has x b) (conflict K w a b) both in
      let members = and_parts (has x a) (has x b) parts.0 in
      record {
        call = closes node a b (record {
          steps = steps accepted l row;
          gathering = not_closing;
          conflict = parts.1;
          one = subst (λ (S : Set). a ∈ S) undelivered_seen members.0;
          other = subst (λ (S : Set). b ∈ S) undelivered_seen members.1;
          sends = sends accepted l row;
          becomes = record {
            here = change.here
                ∙ ap₂ (λ (c b : Bool). record (seen_node w.sheets node row) { closing = c; proposed = b })
                (ap not (closed_gathers (row_of w node).phase)) (closed_proposed (row_of w node).phase);
            others = change.others;
          };
          chooser = same_chooser K w (closed w node) M;
        });
        fine = fine accepted l row refl refl refl;
        chooser = j.chooser;
      }

  -- a step of the gathering node, refused or not
  pub gathers_joined : (r : Result Step Refusal) (v : World) → Gathers K.conflicts w node r v → Called K z need low high w M v M
  gathers_joined (Done Acknowledged) v h =
      subst (λ (q : World). Called K z need low high w M q M) (sym h.2) (acknowledged_joined h.0 h.1)
  gathers_joined (Done (Closed a b)) v h =
      subst (λ (q : World). Called K z need low high w M q M) (sym h.3) (closed_joined a b h.0 h.2)
  gathers_joined (Done Proposed) v h = absurd h
  gathers_joined (Done Settled) v h = absurd h
  gathers_joined (Err e) v h = subst (λ (q : World). Called K z need low high w M q M) (sym h.1) (refused_called j)
