-- Stages are few: each finished stage has put two messages more into the past, and one that is closing has two more.
use Rattle.std.proofs.Common.{◌≡◌, ℕ, zero, suc, ◌+◌, ◌*◌, ◌<◌, ◌≤◌, true, ◌⊎◌, refl, ap, ◌∙◌, arith}
use Rattle.std.proofs.lemmas.Bool.{both_ways, or_cases}
use Rattle.protocol.specs.Sets.{Set, ◌∈◌, ◌∉◌, count, ◌∪◌}
use Rattle.protocol.specs.Ring.{Size, State}
use Rattle.protocol.specs.Promises.{DecisionHas, PutBy, PutsTwo}
use Rattle.protocol.proofs.Facts.{past, Settled, Cause, cause_in}
use Rattle.protocol.proofs.Invariant.{Ok}
use Rattle.protocol.proofs.Counting.{count_le, count_two}
use Rattle.protocol.proofs.Order.{past_first, past_second, past_more, past_up}

module _ {z : Size} {s : State} (o : Ok z s) where
  -- conflicting messages are different
  pub different : (a b : ℕ) → s.conflict a b ≡ true → a ≡ b → ⊥
  different a b c e = grind (arith, o.book.not_itself a)

  -- a decided message was broadcast
  pub decided_known : (j m : ℕ) → j ∈ s.decided → (m ∈ s.nonconflicting j) ⊎ (m ∈ s.conflicting j) → m < s.messages
  decided_known j m d h =
      let c = o.chooser.chosen j d in
      (o.chooser.proposal j c.by c.in_ring c.made).known m
      (grind (arith, h, ap (λ (X : Set). X m) c.nonconflicting, ap (λ (X : Set). X m) c.conflicting))

  -- a decided stage has a cause in its decision
  decided_cause : (j : ℕ) → j ∈ s.decided → Cause s j (s.nonconflicting j ∪ s.conflicting j)
  decided_cause j d = let c = o.chooser.chosen j d in
      cause_in (s.proposal_nonconflicting j c.by ∪ s.proposal_conflicting j c.by) (s.nonconflicting j ∪ s.conflicting j)
      (λ m h n. grind (arith, h, ap (λ (X : Set). X m) c.nonconflicting, ap (λ (X : Set). X m) c.conflicting))
      (o.chooser.proposal j c.by c.in_ring c.made).cause

  -- what a decision has is past afterwards
  decided_past : (j m : ℕ) → DecisionHas s j m → m ∈ past s (suc j)
  decided_past j m h = grind (arith, past_first s j m, past_second s j m)

  -- a message of the cause of a finished stage of node r
  put_by : (j r m : ℕ) → j ∈ s.decided → r < z.n → j < (s.node r).stage → m ∈ (s.nonconflicting j ∪ s.conflicting j)
      → m ∉ past s j → PutBy s j r m
  put_by j r m d l k h n =
      let e : DecisionHas s j m = or_cases (s.nonconflicting j m) (s.conflicting j m) h in
      record {
        broadcast = decided_known j m d e;
        has = e;
        new = λ i u w. both_ways (past s j m) n (past_up s (suc i) j m u (decided_past i m w));
        delivered = (o.nodes r l).stage.delivered_is m ∙ past_up s (suc j) (s.node r).stage m k (decided_past j m e);
      }

  -- a finished stage put two messages into the delivered set
  pub puts_two : (r j : ℕ) → r < z.n → 1 ≤ j → j < (s.node r).stage → PutsTwo s j r
  puts_two r j l h k =
      let d = (o.nodes r l).stage.settled j h k in
      let w = decided_cause j d in
      record {
        decided = d;
        a = w.a;
        b = w.b;
        different = different w.a w.b w.conflict;
        one = put_by j r w.a d l k w.a_in w.a_new;
        other = put_by j r w.b d l k w.b_in w.b_new;
      }

  -- a decided stage puts two messages more into the past
  grown : (j : ℕ) → j ∈ s.decided → count s.messages (past s j) + 2 ≤ count s.messages (past s (suc j))
  grown j d =
      let w = decided_cause j d in
      let a : DecisionHas s j w.a = or_cases (s.nonconflicting j w.a) (s.conflicting j w.a) w.a_in in
      let b : DecisionHas s j w.b = or_cases (s.nonconflicting j w.b) (s.conflicting j w.b) w.b_in in
      count_two s.messages (past s j) (past s (suc j)) (λ i l e. past_more s j i e) w.a w.b
      (decided_known j w.a d a) (decided_known j w.b d b) (different w.a w.b w.conflict) w.a_new w.b_new
      (decided_past j w.a a) (decided_past j w.b b)

  -- so j settled stages put twice j messages there
  pub two_a_stage : (j : ℕ) → Settled s (suc j) → 2 * j ≤ count s.messages (past s (suc j))
  two_a_stage zero h = omega arith
  two_a_stage (suc j) h =
      omega (arith, grown (suc j) (h (suc j) (omega arith) (omega arith)), two_a_stage j (λ i a b. h i a (omega arith)))

  -- and a stage with a cause to close is at most half the messages
  pub few_stages : (j : ℕ) (X : Set) → 1 ≤ j → Settled s j → Cause s j X → ((m : ℕ) → m ∈ X → m < s.messages)
      → 2 * j ≤ s.messages
  few_stages zero X l h c k = omega arith
  few_stages (suc j) X l h c k =
      omega (
        arith,
        two_a_stage j h,
        count_le s.messages (λ x. true),
        count_two s.messages (past s (suc j)) (λ x. true) (λ i a b. refl) c.a c.b (k c.a c.a_in)
            (k c.b c.b_in) (different c.a c.b c.conflict) c.a_new c.b_new refl refl,
      )
