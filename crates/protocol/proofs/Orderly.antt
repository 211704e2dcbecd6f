-- Each call of a run is orderly. It is shown of what the call makes of its node, and of the letters that it sends.
use Rattle.std.proofs.Common.{◌≡◌, ℕ, ◌<◌, true, false, not, eqb, ◌⊎◌, ◌≢◌, List, [], ◌++◌, sym, refl, ap, ◌∙◌, subst, inl, inr, arith}
use Rattle.std.proofs.lemmas.Bool.{both_ways, false_from_ne_true, and_left, and_right, and_from, not_from_true, not_from_false}
use Rattle.std.proofs.lemmas.Bool.{cases_Bool, cases_eq, eqb-true}
use Rattle.std.proofs.lemmas.List.{append-nil, append_assoc}
use Rattle.protocol.specs.Sets.{Set, ◌∈◌, ◌∉◌, only, ◌∖◌}
use Rattle.protocol.specs.Lists.{ascending, fold}
use Rattle.protocol.specs.Ring.{Size, State, Node, Letter, data_letter, acknowledgement, check_letter, travelling, taken, lost}
use Rattle.protocol.specs.Setters.{with_check, with_closing, with_proposed}
use Rattle.protocol.specs.Nodes.{after_data, after_hearing, after_acknowledging, after_settling, newly, settled_first}
use Rattle.protocol.specs.Nodes.{settled_then, undelivered, tally}
use Rattle.protocol.specs.Calls.{SameChooser, Becomes, Takes, HandsIn, Proposes, NoneSent, taker}
use Rattle.protocol.specs.Runs.{Call, broadcasts, receives_known, receives_own, relays, hears, passes_acknowledgement}
use Rattle.protocol.specs.Runs.{keeps_check, passes_check, acknowledges, closes, proposes, settles, crashes, loses, refused}
use Rattle.protocol.specs.Orderly.{SentNow, DecisionsStay, ProposalsInTwoParts, InTwoParts, GoesOn, Orderly, CallsAreOrderly}
use Rattle.protocol.proofs.Folding.{fold_append}
use Rattle.protocol.proofs.Facts.{same_mark}
use Rattle.protocol.proofs.Invariant.{Ok}
use Rattle.protocol.proofs.Mail.{Mail, mail_none, mail_marks, mail_sends, mail_both, NoCome, Turned, SentNew}
use Rattle.protocol.proofs.Acting.{live_same, proposers_same}
use Rattle.protocol.proofs.Running.{run_ok}

-- ---- what a call makes of a node

-- node r may become N
record Turns (s : State) (r : ℕ) (N : Node) : Type 0 where
  grows : (l : List ℕ) × (N.sheet ≡ (s.node r).sheet ++ l)
  waits : (s.node r).closing ≡ true → N.stage ≡ (s.node r).stage → N.sheet ≡ (s.node r).sheet
  stage : (N.stage ≡ (s.node r).stage) ⊎ GoesOn s r N
  rests : r ∉ s.live → N ≡ s.node r

-- it may stay as it is
stays : (s : State) (r : ℕ) (N : Node) → N ≡ s.node r → Turns s r N
stays s r N e = subst (λ (M : Node). Turns s r M) (sym e) (record {
  grows = ([], sym (append-nil (s.node r).sheet));
  waits = λ c h. refl;
  stage = inl refl;
  rests = λ d. refl;
})

-- a live node may become one with the same sheet and stage
keeps : (s : State) (r : ℕ) (N : Node) → r ∈ s.live → N.sheet ≡ (s.node r).sheet → N.stage ≡ (s.node r).stage → Turns s r N
keeps s r N a e f = record {
  grows = ([], e ∙ sym (append-nil (s.node r).sheet));
  waits = λ c h. e;
  stage = inl f;
  rests = λ d. absurd (both_ways (s.live r) d a);
}

-- where node r becomes N, and may
one_turns : {z : Size} {s t : State} (r : ℕ) (N : Node) → Becomes z s t r N → Turns s r N
    → (x : ℕ) → x < z.n → Turns s x (t.node x)
one_turns {z} {s} {t} r N b h x l = elim (cases_eq x r) [
  | inl p ↦ subst (λ (y : ℕ). Turns s y (t.node y)) (sym p) (subst (λ (M : Node). Turns s r M) (sym b.here) h)
  | inr d ↦ stays s x (t.node x) (b.others x l d)
]

-- ---- the letters that a call sends

-- the letter L may be sent
record MaySend (s : State) (L : Letter) : Type 0 where
  lives : L.sender ∈ s.live
  gathers : (L.kind ≢ data_letter) → (s.node L.sender).closing ≡ false
  new : (m : ℕ) → L.kind ≡ data_letter → m ∈ L.set → m ∉ (s.node L.sender).received
  of_others : (m : ℕ) → L.kind ≡ data_letter → m ∈ L.set → (m ≡ s.messages) ⊎ (s.broadcaster m ≢ L.sender)

-- a gathering live node may send what is no data
sends_stage : (z : Size) (s : State) (x k j : ℕ) (S : Set) → x ∈ s.live → (s.node x).closing ≡ false → (k ≡ data_letter → ⊥)
    → (L : Letter) → SentNew z x k j S L → MaySend s L
sends_stage z s x k j S a g d L (y, l, e) = subst (λ (B : Letter). MaySend s B) (sym e) (record {
  lives = a;
  gathers = λ n. g;
  new = λ m h. absurd (d h);
  of_others = λ m h. absurd (d h);
})

-- a live node may send data of a message that it has not received, and that is the next or another's
sends_data : (z : Size) (s : State) (x m : ℕ) → x ∈ s.live → m ∉ (s.node x).received
    → (m ≡ s.messages) ⊎ (s.broadcaster m ≢ x) → (L : Letter) → SentNew z x data_letter 0 (only m) L → MaySend s L
sends_data z s x m a n o L (y, l, e) = subst (λ (B : Letter). MaySend s B) (sym e) (record {
  lives = a;
  gathers = λ d. absurd (d refl);
  new = λ b h k. subst (λ (c : ℕ). c ∉ (s.node x).received) (sym (eqb-true b m k)) n;
  of_others = λ b h k. subst (λ (c : ℕ). (c ≡ s.messages) ⊎ (s.broadcaster c ≢ x)) (sym (eqb-true b m k)) o;
})

-- ---- what a call makes of the chooser

-- decisions stay, and proposals are in order
record Answers (s t : State) : Type 0 where
  decisions : DecisionsStay s t
  proposals : ProposalsInTwoParts s t

-- a chooser that is not asked
not_asked : {s t : State} → SameChooser s t → Answers s t
not_asked {s} {t} c = record {
  decisions = record {
    decided = λ j h. ap (λ (f : Set). f j) c.decided ∙ h;
    nonconflicting = λ j h. ap (λ (f : ℕ → Set). f j) c.nonconflicting;
    conflicting = λ j h. ap (λ (f : ℕ → Set). f j) c.conflicting;
  };
  proposals = record { own = λ j r n h. nobody j r n h; parts = λ j r n h. nobody j r n h };
}
  where
    nobody : {A : Type 0} (j r : ℕ) → r ∉ s.proposers j → r ∈ t.proposers j → A
    nobody j r n h = absurd (both_ways (s.proposers j r) n (proposers_same c j r h))

-- a chooser that gets the proposal of r
asked : {z : Size} {s t : State} (r : ℕ) → Proposes z s t r → Answers s t
asked {z} {s} {t} r c = record {
  decisions = record {
    decided = h.decisions_kept;
    nonconflicting = λ j k. h.first_kept j (inl k);
    conflicting = λ j k. h.second_kept j (inl k);
  };
  proposals = record {
    own = λ j x n k. elim (h.no_other j x k) [
      | inl w ↦ absurd (both_ways (s.proposers j x) n w)
      | inr (p, q) ↦ p ∙ ap (λ (y : ℕ). (s.node y).stage) (sym q)
    ];
    parts = λ j x n k. elim (h.no_other j x k) [
      | inl w ↦ absurd (both_ways (s.proposers j x) n w)
      | inr (p, q) ↦
          subst (λ (y : ℕ). InTwoParts (s.node y) (t.proposal_nonconflicting j y) (t.proposal_conflicting j y)) (sym q)
          (subst (λ (l : ℕ). InTwoParts (s.node r) (t.proposal_nonconflicting l r) (t.proposal_conflicting l r)) (sym p)
          (subst (λ (M : Set). InTwoParts (s.node r) M (t.proposal_conflicting (s.node r).stage r)) (sym h.nonconflicting_is)
          (subst (λ (D : Set). InTwoParts (s.node r) (tally z (s.node r)) D) (sym h.conflicting_is) two)))
    ];
  };
}
  where
    h : HandsIn z s t r (s.node r).stage (tally z (s.node r)) (undelivered (s.node r) ∖ tally z (s.node r))
    h = c.hands_in

    two : InTwoParts (s.node r) (tally z (s.node r)) (undelivered (s.node r) ∖ tally z (s.node r))
    two = record {
      all = λ m k. elim (cases_Bool (tally z (s.node r) m)) [
        | inl p ↦ inl p
        | inr p ↦ inr (and_from (undelivered (s.node r) m) (not (tally z (s.node r) m)) k
            (not_from_false (tally z (s.node r) m) p))
      ];
      apart = λ m k. and_right (undelivered (s.node r) m) (not (tally z (s.node r) m)) (not_from_true (tally z (s.node r) m) k);
    }

-- ---- a call is orderly by its nodes, its letters and the chooser

module _ {z : Size} {s t : State} {Turn : Letter → Letter → Type 0} {Come : Letter → Type 0} (mail : Mail z s t Turn Come)
    (turn : (A B : Letter) → Turn A B → A.mark ≡ travelling) (come : (L : Letter) → Come L → MaySend s L)
    (live : (x : ℕ) → x ∉ s.live → x ∉ t.live) (chooser : Answers s t)
    (nodes : (x : ℕ) → x < z.n → Turns s x (t.node x)) where
  -- what it sends it may send
  may : (L : Letter) → SentNow s t L → MaySend s L
  may L (i, l, h, e) = subst (λ (B : Letter). MaySend s B) e (come (t.letter i) (mail.new i l h))

  -- so it is orderly
  orderly : Orderly z s t
  orderly = record {
    sheets_grow = λ r l. let w = (nodes r l).grows in
        (w.0, record { grows = w.1; plays_on = λ after q. ap (fold after q) w.1 ∙ fold_append after q (s.node r).sheet w.0 });
    ended_letters_stay = λ i l d. elim (mail.old i l) [
      | inl p ↦ p
      | inr h ↦ absurd (d (turn (s.letter i) (t.letter i) h))
    ];
    decisions_stay = chooser.decisions;
    crashed_nodes_rest = record {
      crashed = live;
      same = λ r l d. (nodes r l).rests d;
      silent = λ L h. (may L h).lives;
    };
    closing_nodes_wait = record { same = λ r l. (nodes r l).waits; silent = λ L h. (may L h).gathers };
    stages_in_turn = λ r l. (nodes r l).stage;
    proposals_in_two_parts = chooser.proposals;
    data_sent_once = record { new = λ L m h. (may L h).new m; of_others = λ L m h. (may L h).of_others m };
  }

-- a letter that is marked travelled
turned_travels : (s : State) (i v : ℕ) → (s.letter i).mark ≡ travelling → (A B : Letter) → Turned s i v A B
    → A.mark ≡ travelling
turned_travels s i v h A B k = same_mark k.0 ∙ h

-- where no letter comes
none_sent : {s : State} (L : Letter) → NoCome L → MaySend s L
none_sent L h = absurd h

module _ {z : Size} {s t : State} (i : ℕ) (k : Takes s t i) where
  -- a receipt that sends nothing
  taking : NoneSent s t → ((x : ℕ) → x < z.n → Turns s x (t.node x)) → Orderly z s t
  taking silent = orderly (mail_marks {z = z} i taken silent k.marks) (turned_travels s i taken k.travels) none_sent
      (live_same s t k.live) (not_asked k.chooser)

  -- one that changes neither sheet nor stage of the receiver
  taking_quietly : NoneSent s t → (N : Node) → Becomes z s t (s.letter i).receiver N → N.sheet ≡ (taker s i).sheet
      → N.stage ≡ (taker s i).stage → Orderly z s t
  taking_quietly silent N b e f =
      taking silent (one_turns (s.letter i).receiver N b (keeps s (s.letter i).receiver N k.alive e f))

-- ---- each call

-- every call of a run
pub call_orderly : {z : Size} {s t : State} → Ok z s → Call z s t → Orderly z s t
call_orderly {z} {s} {t} o (broadcasts r c) =
    orderly (mail_sends c.sends c.letters) (λ A B h. absurd h)
    (sends_data z s r s.messages c.alive fresh (inl refl)) (live_same s t c.live) (not_asked c.chooser)
    (λ x l. stays s x (t.node x) (c.nodes x l))
  where
    fresh : s.messages ∉ (s.node r).received
    fresh = false_from_ne_true ((s.node r).received s.messages) (λ h.
        omega (arith, (o.nodes r c.in_ring).pending.received_known s.messages h))
call_orderly {z} {s} {t} o (receives_known i m c) = taking i c.takes c.silent (λ x l. stays s x (t.node x) (c.nodes x l))
call_orderly {z} {s} {t} o (receives_own i m c) = taking_quietly i c.takes c.silent (after_data m (taker s i)) c.becomes refl refl
call_orderly {z} {s} {t} o (relays i m c) =
    let k = c.takes in
    let N = after_data m (taker s i) in
    orderly (mail_both i taken c.sends k.marks) (turned_travels s i taken k.travels)
    (sends_data z s (s.letter i).receiver m k.alive c.new (inr c.not_own)) (live_same s t k.live) (not_asked k.chooser)
    (one_turns (s.letter i).receiver N c.becomes (keeps s (s.letter i).receiver N k.alive refl refl))
call_orderly {z} {s} {t} o (hears i c) =
    let N = after_hearing z (s.letter i).sender (s.letter i).set (taker s i) in
    taking i c.takes c.silent (one_turns (s.letter i).receiver N c.becomes (record {
      grows = (ascending 64 (newly z (taker s i) (s.letter i).sender (s.letter i).set), refl);
      waits = λ h. absurd (both_ways (taker s i).closing c.gathering h);
      stage = inl refl;
      rests = λ d. absurd (both_ways (s.live (s.letter i).receiver) d c.takes.alive);
    }))
call_orderly {z} {s} {t} o (passes_acknowledgement i c) = taking i c.takes c.silent (λ x l. stays s x (t.node x) (c.nodes x l))
call_orderly {z} {s} {t} o (keeps_check i c) =
    taking_quietly i c.takes c.silent (with_check (s.letter i).sender (s.letter i).set (taker s i)) c.becomes refl refl
call_orderly {z} {s} {t} o (passes_check i c) = taking i c.takes c.silent (λ x l. stays s x (t.node x) (c.nodes x l))
call_orderly {z} {s} {t} o (acknowledges r c) =
    let N = after_acknowledging (s.node r) in
    orderly (mail_sends c.sends c.steps.letters) (λ A B h. absurd h)
    (sends_stage z s r acknowledgement _ _ c.steps.alive c.gathering (λ h. omega (arith, h))) (live_same s t c.steps.live)
    (not_asked c.chooser) (one_turns r N c.becomes (keeps s r N c.steps.alive refl refl))
call_orderly {z} {s} {t} o (closes r a b c) =
    let N = with_closing (s.node r) in
    orderly (mail_sends c.sends c.steps.letters) (λ A B h. absurd h)
    (sends_stage z s r check_letter _ _ c.steps.alive c.gathering (λ h. omega (arith, h))) (live_same s t c.steps.live)
    (not_asked c.chooser) (one_turns r N c.becomes (keeps s r N c.steps.alive refl refl))
call_orderly {z} {s} {t} o (proposes r c) =
    let N = with_proposed (s.node r) in
    orderly (mail_none {z = z} c.silent c.steps.letters) (λ A B h. absurd h) none_sent (live_same s t c.steps.live) (asked r c)
    (one_turns r N c.becomes (keeps s r N c.steps.alive refl refl))
call_orderly {z} {s} {t} o (settles r c) =
    let M = s.nonconflicting (s.node r).stage in
    let D = s.conflicting (s.node r).stage in
    let A = ascending 64 (settled_first (s.node r) M) in
    let B = ascending 64 (settled_then (s.node r) M D) in
    orderly (mail_none {z = z} c.silent c.steps.letters) (λ A B h. absurd h) none_sent (live_same s t c.steps.live)
    (not_asked c.chooser) (one_turns r (after_settling M D (s.node r)) c.becomes (record {
      grows = (A ++ B, append_assoc (s.node r).sheet A B);
      waits = λ h e. absurd (omega (arith, e));
      stage = inr (record {
        next = refl;
        proposed = (o.nodes r c.steps.in_ring).closing.proposed_stands c.proposed;
        decided = c.decided;
        gathers = refl;
        not_proposed = refl;
        none_pending = λ m. refl;
        none_early = λ m. refl;
        none_heard = λ m x. refl;
        none_kept = λ x. refl;
      });
      rests = λ d. absurd (both_ways (s.live r) d c.steps.alive);
    }))
call_orderly {z} {s} {t} o (crashes r c) =
    orderly (mail_none {z = z} c.silent c.letters) (λ A B h. absurd h) none_sent
    (λ x h. ap (λ (f : Set). f x) c.live ∙ and_left (s.live x) (not (eqb x r)) h) (not_asked c.chooser)
    (λ x l. stays s x (t.node x) (c.nodes x l))
call_orderly {z} {s} {t} o (loses i c) =
    orderly (mail_marks {z = z} i lost c.silent c.marks) (turned_travels s i lost c.travels) none_sent (live_same s t c.live)
    (not_asked c.chooser) (λ x l. stays s x (t.node x) (c.nodes x l))
call_orderly {z} {s} {t} o (refused e) = subst (λ (u : State). Orderly z s u) (sym e)
    (orderly (mail_none {z = z} {s = s} {t = s} refl (λ i l. refl)) (λ A B h. absurd h) none_sent (λ x h. h)
    (not_asked (record {
      proposers = refl;
      proposal_nonconflicting = refl;
      proposal_conflicting = refl;
      decided = refl;
      nonconflicting = refl;
      conflicting = refl;
    }))
    (λ x l. stays s x (s.node x) refl))

-- and so each call of every run
pub calls_are_orderly : CallsAreOrderly
calls_are_orderly z s t u d c = call_orderly (run_ok d) c
