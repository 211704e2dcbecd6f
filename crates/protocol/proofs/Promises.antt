-- The promises, each from the invariant; and the theorem over every run.
use Rattle.std.proofs.Common.{◌≡◌, ℕ, zero, suc, ◌+◌, ◌*◌, ◌<◌, ◌≤◌, true, ◌||◌, ◌⊎◌, refl, ◌∙◌, inl, inr, arith}
use Rattle.std.proofs.lemmas.Bool.{both_ways, false_from_ne_true}
use Rattle.protocol.specs.Sets.{Set, ◌∈◌, count}
use Rattle.protocol.specs.Ring.{Size, State, check_letter}
use Rattle.protocol.specs.Promises.{ConflictsInOneOrder, SameSheetsSameResult, TwoMessagesAStage}
use Rattle.protocol.specs.Promises.{StagesPutTwo, FewStages, FewStagesClosing, ChooserHasTheStage, ChooserHasTheNode}
use Rattle.protocol.specs.Promises.{ChooserAwaitsTheProposal}
use Rattle.protocol.specs.Promises.{FreeOfConflict, NeverClosed, RunsAreSound}
use Rattle.protocol.proofs.Facts.{past, Settled, Cause}
use Rattle.protocol.proofs.Invariant.{Ok}
use Rattle.protocol.proofs.Counting.{count_le, count_mono}
use Rattle.protocol.proofs.Lists.{before_one}
use Rattle.protocol.proofs.Folding.{same_fold}
use Rattle.protocol.proofs.Order.{no_two_orders}
use Rattle.protocol.proofs.Stages as stage
use Rattle.protocol.proofs.Rest.{everywhere, delivered}
use Rattle.protocol.proofs.Proposing.{closing_cause}
use Rattle.protocol.proofs.Running.{run_ok}

module _ {z : Size} {s : State} (o : Ok z s) where
  -- ---- the sheets

  -- two sheets cannot differ in the order of a conflicting pair
  pub one_order : ConflictsInOneOrder z s
  one_order r x a b l k c p q h = elim (before_one (s.node x).sheet a b (stage.different o a b c) p q) [
    | inl w ↦ w
    | inr w ↦ absurd (no_two_orders o r x a b l k c h w)
  ]

  -- so they fold to the same result
  pub same_result : SameSheetsSameResult z s
  same_result K r x l k f g q w =
      same_fold K.after (λ l. K.fits l ≡ true) K.keeps s.conflict o.book.both_sides K.commute (s.node r).sheet
      (s.node x).sheet (o.nodes r l).sheet.once (o.nodes x k).sheet.once f g
      (λ a b c p u. no_two_orders o r x a b l k c p u) q w

  -- ---- the stages

  -- the decision of a finished stage has a cause
  pub stages_put_two : StagesPutTwo z s
  stages_put_two = stage.puts_two o

  -- the delivered set is the past
  pub two_a_stage : TwoMessagesAStage z s
  two_a_stage r l = let n = (o.nodes r l).stage in
      go (s.node r).stage n.first n.settled (λ m h. n.delivered_is m ∙ h)
    where
      go : (j : ℕ) → 1 ≤ j → Settled s j → ((m : ℕ) → m ∈ past s j → m ∈ (s.node r).delivered)
          → 2 * j ≤ count s.messages (s.node r).delivered + 2
      go zero h k d = absurd (omega arith)
      go (suc j) h k d = omega (
        arith,
        stage.two_a_stage o j k,
        count_mono s.messages (past s (suc j)) (s.node r).delivered (λ m l p. d m p),
      )

  -- and has at most all messages
  pub few_stages : FewStages z s
  few_stages r l = omega (arith, two_a_stage r l, count_le s.messages (s.node r).delivered)

  -- a closing node has a cause
  pub few_stages_closing : FewStagesClosing z s
  few_stages_closing r l c = let n = o.nodes r l in
      stage.few_stages o (s.node r).stage (s.node r).received n.stage.first n.stage.settled (closing_cause n c)
      n.pending.received_known

  -- there are at most 64 messages
  pub has_the_stage : ChooserHasTheStage z s
  has_the_stage r l c = omega (arith, few_stages_closing r l c, o.book.messages_le)

  -- the first stage is 1, and there are at most 7 nodes
  pub has_the_node : ChooserHasTheNode z s
  has_the_node r l c = record {
    stage_low = (o.nodes r l).stage.first;
    stage_high = omega (arith, few_stages_closing r l c, o.book.messages_le);
    node_high = omega (arith, z.n_le);
  }

  -- only a node that has proposed stands among the proposers of its stage
  pub awaits_the_proposal : ChooserAwaitsTheProposal z s
  awaits_the_proposal r l p = grind (arith, (o.nodes r l).closing.proposed_when (s.node r).stage)

  -- ---- runs without a conflict: there is no cause to close a stage
  module _ (free : FreeOfConflict s) where
    -- a cause would be a conflict
    no_cause : (j : ℕ) (X : Set) → ((m : ℕ) → m ∈ X → m < s.messages) → Cause s j X → ⊥
    no_cause j X k c = both_ways (s.conflict c.a c.b) (free c.a c.b (k c.a c.a_in) (k c.b c.b_in))
        c.conflict

    -- a check would have a cause
    no_check : (i : ℕ) → i < s.sent → (s.letter i).kind ≡ check_letter → ⊥
    no_check i l k = let n = o.nodes (s.letter i).sender (o.post.each i l).unspoilt.sender_in in
        no_cause (s.letter i).stage (s.node (s.letter i).sender).received n.pending.received_known
        ((n.sent_letters i l refl).check_cause k)

    -- a node that closed a stage sent a check
    not_closed : (r j : ℕ) → r < z.n → 1 ≤ j → (j < (s.node r).stage) ⊎
        ((j ≡ (s.node r).stage) × ((s.node r).closing ≡ true)) → ⊥
    not_closed r j l h k = let w = (o.nodes r l).closing.closed j h k in no_check w.0 w.1.place w.1.kind

    -- so no node ever closed a stage
    pub never_closed : NeverClosed z s
    never_closed = record {
      no_check = no_check;
      gathering = λ r l. false_from_ne_true (s.node r).closing
          (λ c. not_closed r (s.node r).stage l (o.nodes r l).stage.first (inr (refl, c)));
      first_stage = λ r l. let k : 1 < (s.node r).stage → ⊥ = λ h. not_closed r 1 l (omega arith) (inl h) in
          grind (arith, k, (o.nodes r l).stage.first);
      no_proposal = λ j r. false_from_ne_true (s.proposers j r) (λ h.
          let p = o.chooser.proposal j r (o.chooser.proposer_in j r h) h in
          no_cause j (λ m. s.proposal_nonconflicting j r m || s.proposal_conflicting j r m) p.known p.cause);
    }

-- every run comes to a sound state
pub runs_are_sound : RunsAreSound
runs_are_sound z s t d = let o = run_ok d in record {
  one_order = one_order o;
  once = λ r l. (o.nodes r l).sheet.once;
  broadcast = λ r m l h. (o.nodes r l).sheet.known m h;
  same_result = same_result o;
  everywhere = λ q. everywhere o q;
  delivered = λ q. delivered o q;
  stages_put_two = stages_put_two o;
  two_a_stage = two_a_stage o;
  few_stages = few_stages o;
  few_stages_closing = few_stages_closing o;
  has_the_stage = has_the_stage o;
  has_the_node = has_the_node o;
  awaits_the_proposal = awaits_the_proposal o;
  unspoilt = λ i l. (o.post.each i l).unspoilt;
  never_closed = never_closed o;
}
