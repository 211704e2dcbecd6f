-- The letters over a call: old ones stay or get another mark, and a sending may bring new ones.
use Rattle.std.proofs.Common.{◌≡◌, ℕ, ◌+◌, ◌-◌, ◌<◌, ◌≤◌, ◌⊎◌, sym, refl, ap, ◌∙◌, subst, inl, inr, arith}
use Rattle.std.proofs.lemmas.Bool.{cases_lt, cases_eq}
use Rattle.protocol.specs.Sets.{Set}
use Rattle.protocol.specs.Ring.{Size, State, Node, Letter, data_letter, acknowledgement, check_letter, travelling, taken}
use Rattle.protocol.specs.Ring.{lost}
use Rattle.protocol.specs.Calls.{SameLetters, NoneSent, Marks, Sends, new_letter, marked}
use Rattle.protocol.specs.Promises.{Unspoilt}
use Rattle.protocol.proofs.Facts.{same_kind, same_mark, same_receiver, same_sender, same_set, same_stage, carry, Posted}
use Rattle.protocol.proofs.Facts.{Copy}
use Rattle.protocol.proofs.Invariant.{SentBy, TakenBy, NodeOk, Astray, LetterOk, PairOk, PostOk}
use Rattle.protocol.proofs.Continuing.{SameWords, Continues, sent_up, free_up}

-- An old letter A may turn into B where Turn A B; a letter L may come where Come L.
pub record Mail (z : Size) (s t : State) (Turn : Letter → Letter → Type 0) (Come : Letter → Type 0) : Type 0 where
  pub sent_le : s.sent ≤ t.sent
  pub old : (i : ℕ) → i < s.sent → (t.letter i ≡ s.letter i) ⊎ Turn (s.letter i) (t.letter i)
  pub new : (i : ℕ) → s.sent ≤ i → i < t.sent → Come (t.letter i)
  pub turn_words : (A B : Letter) → Turn A B → SameWords A B
  pub come_mark : (L : Letter) → Come L → L.mark ≡ travelling
  pub come_copy : (i y : ℕ) → i < t.sent → Come (t.letter i) → y < z.n → Copy t i y

-- equal letters have the same words
equal_words : (A B : Letter) → B ≡ A → SameWords A B
equal_words A B p = record {
  sender = same_sender p;
  receiver = same_receiver p;
  kind = same_kind p;
  stage = same_stage p;
  set = same_set p;
}

-- two letters with the words of two that keep the rule of pairs keep it
pair_words : {u : State} (A B A' B' : Letter) → SameWords A B → SameWords A' B' → PairOk u A A' → PairOk u B B'
pair_words A B A' B' w v o = record {
  ack_check = λ m p q k l h. carry m (sym v.set)
      (o.ack_check m (sym w.sender ∙ p ∙ v.sender) (sym w.stage ∙ q ∙ v.stage) (sym w.kind ∙ k) (sym v.kind ∙ l)
      (carry m w.set h));
  ack_free = λ a b p q k l h i.
      o.ack_free a b (sym w.sender ∙ p ∙ v.sender) (sym w.stage ∙ q ∙ v.stage) (sym w.kind ∙ k) (sym v.kind ∙ l)
      (carry a w.set h) (carry b v.set i);
}

module _ {z : Size} {s t : State} {Turn : Letter → Letter → Type 0} {Come : Letter → Type 0} (mail : Mail z s t Turn Come) where
  -- an old letter keeps its words
  pub mail_words : (i : ℕ) → i < s.sent → SameWords (s.letter i) (t.letter i)
  mail_words i l = elim (mail.old i l) [
    | inl p ↦ equal_words (s.letter i) (t.letter i) p
    | inr h ↦ mail.turn_words (s.letter i) (t.letter i) h
  ]

  module _ (e : Continues s t) where
    -- ---- the letters of a node that turns from N into N'

    -- those that x sent
    pub mail_sent : (x : ℕ) (N N' : Node) → NodeOk z s x N → ((L : Letter) → SentBy t N L → SentBy t N' L)
        → ((L : Letter) → Come L → L.sender ≡ x → SentBy t N' L)
        → (i : ℕ) → i < t.sent → (t.letter i).sender ≡ x → SentBy t N' (t.letter i)
    mail_sent x N N' o up new i l f = elim (cases_lt i s.sent) [
      | inl h ↦ up (t.letter i) (sent_up e (s.letter i) (t.letter i) (mail_words i h) o.pending.received_known
          (o.sent_letters i h (sym (mail_words i h).sender ∙ f)))
      | inr h ↦ new (t.letter i) (mail.new i h l) f
    ]

    -- those that x took
    pub mail_taken : (x : ℕ) (N N' : Node) → NodeOk z s x N → ((L : Letter) → TakenBy z N L → TakenBy z N' L)
        → ((A B : Letter) → Turn A B → B.receiver ≡ x → B.mark ≡ taken → TakenBy z N' B)
        → (i : ℕ) → i < t.sent → (t.letter i).receiver ≡ x → (t.letter i).mark ≡ taken → TakenBy z N' (t.letter i)
    mail_taken x N N' o up turned i l f m = elim (cases_lt i s.sent) [
      | inl h ↦ go h (mail.old i h)
      | inr h ↦ absurd (omega (arith, mail.come_mark (t.letter i) (mail.new i h l), m))
    ]
      where
        go : i < s.sent → (t.letter i ≡ s.letter i) ⊎ Turn (s.letter i) (t.letter i) → TakenBy z N' (t.letter i)
        go h (inl p) = up (t.letter i) (subst (λ (L : Letter). TakenBy z N L) (sym p)
            (o.taken_letters i h (sym (same_receiver p) ∙ f) (sym (same_mark p) ∙ m)))
        go h (inr q) = turned (s.letter i) (t.letter i) q f m

    -- ---- each letter, each pair, each copy

    -- an old letter with a good mark
    letter_up : (A B : Letter) → SameWords A B → LetterOk z s A
        → (B.mark ≡ travelling) ⊎ ((B.mark ≡ taken) ⊎ (B.mark ≡ lost)) → (B.mark ≡ lost → Astray t B) → LetterOk z t B
    letter_up A B w o m k = record {
      unspoilt = record {
        kinds = subst (λ (y : ℕ). (y ≡ data_letter) ⊎ ((y ≡ acknowledgement) ⊎ (y ≡ check_letter))) (sym w.kind) u.kinds;
        sender_in = subst (λ (y : ℕ). y < z.n) (sym w.sender) u.sender_in;
        receiver_in = subst (λ (y : ℕ). y < z.n) (sym w.receiver) u.receiver_in;
        known = λ x h. omega (arith, u.known x (carry x w.set h), e.messages_le);
        data_stage = λ p. w.stage ∙ u.data_stage (sym w.kind ∙ p);
        data_one = λ p. let q = u.data_one (sym w.kind ∙ p) in (q.0, w.set ∙ q.1);
        later = λ p. subst (λ (y : ℕ). 1 ≤ y) (sym w.stage) (u.later (λ q. p (w.kind ∙ q)));
      };
      check_free = λ a b p h q.
          let h' = carry a w.set h in
          let q' = carry b w.set q in
          free_up e a b (u.known a h') (u.known b q') (o.check_free a b (sym w.kind ∙ p) h' q');
      marks = m;
      lost_astray = k;
    }
      where
        u : Unspoilt z s A
        u = o.unspoilt

    -- what was lost stays astray
    astray_up : (A B : Letter) → B ≡ A → LetterOk z s A → B.mark ≡ lost → Astray t B
    astray_up A B p o m = subst (λ (L : Letter). Astray t L) (sym p)
        (elim (o.lost_astray (sym (same_mark p) ∙ m)) [
          | inl h ↦ inl (e.live A.sender h)
          | inr h ↦ inr (e.live A.receiver h)
        ])

    -- two old letters
    pair_up : (A B : Letter) → LetterOk z s A → LetterOk z s B → PairOk s A B → PairOk t A B
    pair_up A B u v o = record {
      ack_check = o.ack_check;
      ack_free = λ a b p q k l h i.
          free_up e a b (u.unspoilt.known a h) (v.unspoilt.known b i) (o.ack_free a b p q k l h i);
    }

    -- The letters keep their part of the invariant: what remains to be shown is that a turned letter is taken or astray, and
    -- that a new letter is right by itself, beside other new ones and beside old ones.
    pub post_keeps : PostOk z s
        → ((A B : Letter) → Turn A B → (B.mark ≡ taken) ⊎ ((B.mark ≡ lost) × Astray t B))
        → ((L : Letter) → Come L → LetterOk z t L)
        → ((L M : Letter) → Come L → Come M → PairOk t L M)
        → ((L : Letter) (i : ℕ) → Come L → i < s.sent → PairOk t L (s.letter i) × PairOk t (s.letter i) L)
        → PostOk z t
    post_keeps o turn come new mixed = record {
      each = λ i l. elim (cases_lt i s.sent) [
        | inl h ↦ each_old i h (mail.old i h)
        | inr h ↦ come (t.letter i) (mail.new i h l)
      ];
      pairs = λ i l p q. two i l (cases_lt i s.sent) (cases_lt l s.sent) p q;
      copies = λ i y l k. elim (cases_lt i s.sent) [
        | inl h ↦ copy_old i y h k
        | inr h ↦ mail.come_copy i y l (mail.new i h l) k
      ];
    }
      where
        each_old : (i : ℕ) → i < s.sent → (t.letter i ≡ s.letter i) ⊎ Turn (s.letter i) (t.letter i)
            → LetterOk z t (t.letter i)
        each_old i h (inl p) = letter_up (s.letter i) (t.letter i) (mail_words i h) (o.each i h)
            (subst (λ (y : ℕ). (y ≡ travelling) ⊎ ((y ≡ taken) ⊎ (y ≡ lost))) (sym (same_mark p))
            (o.each i h).marks) (astray_up (s.letter i) (t.letter i) p (o.each i h))
        each_old i h (inr p) = elim (turn (s.letter i) (t.letter i) p) [
          | inl m ↦ letter_up (s.letter i) (t.letter i) (mail_words i h) (o.each i h) (inr (inl m))
              (λ k. absurd (omega (arith, m, k)))
          | inr m ↦ letter_up (s.letter i) (t.letter i) (mail_words i h) (o.each i h) (inr (inr m.0)) (λ k. m.1)
        ]

        own : (A : Letter) → SameWords A A
        own A = equal_words A A refl

        two : (i l : ℕ) → (i < s.sent) ⊎ (s.sent ≤ i) → (l < s.sent) ⊎ (s.sent ≤ l) → i < t.sent → l < t.sent
            → PairOk t (t.letter i) (t.letter l)
        two i l (inl h) (inl k) p q =
            pair_words (s.letter i) (t.letter i) (s.letter l) (t.letter l) (mail_words i h) (mail_words l k)
            (pair_up (s.letter i) (s.letter l) (o.each i h) (o.each l k) (o.pairs i l h k))
        two i l (inl h) (inr k) p q =
            pair_words (s.letter i) (t.letter i) (t.letter l) (t.letter l) (mail_words i h) (own (t.letter l))
            (mixed (t.letter l) i (mail.new l k q) h).1
        two i l (inr h) (inl k) p q =
            pair_words (t.letter i) (t.letter i) (s.letter l) (t.letter l) (own (t.letter i)) (mail_words l k)
            (mixed (t.letter i) l (mail.new i h p) k).0
        two i l (inr h) (inr k) p q = new (t.letter i) (t.letter l) (mail.new i h p) (mail.new l k q)

        copy_old : (i y : ℕ) → i < s.sent → y < z.n → Copy t i y
        copy_old i y h k =
            let c = o.copies i y h k in
            let w = mail_words c.l c.place in
            let v = mail_words i h in
            record {
              l = c.l;
              place = omega (arith, c.place, mail.sent_le);
              sender = w.sender ∙ c.sender ∙ sym v.sender;
              receiver = w.receiver ∙ c.receiver;
              kind = w.kind ∙ c.kind ∙ sym v.kind;
              stage = w.stage ∙ c.stage ∙ sym v.stage;
              set = w.set ∙ c.set ∙ sym v.set;
            }

-- ---- the four ways: a call may mark a letter or not, and send or not

-- no letter turns
abbrev pub NoTurn : Letter → Letter → Type 0
NoTurn A B = ⊥

-- no letter comes
abbrev pub NoCome : Letter → Type 0
NoCome L = ⊥

-- where no letter comes there is nothing to show of one
pub none_came : {z : Size} {t : State} (L : Letter) → NoCome L → LetterOk z t L
none_came L h = absurd h

-- the letter at place i gets the mark v
abbrev pub Turned : State → ℕ → ℕ → Letter → Letter → Type 0
Turned s i v A B = (A ≡ s.letter i) × (B ≡ marked A v)

-- L is one of the letters that x sends
abbrev pub SentNew : Size → ℕ → ℕ → ℕ → Set → Letter → Type 0
SentNew z x k j S L = (y : ℕ) × (y < z.n) × (L ≡ new_letter x y k j S)

-- the letter that gets the mark
pub turned_is : (s : State) (i v : ℕ) (A B : Letter) → Turned s i v A B → B ≡ marked (s.letter i) v
turned_is s i v A B (p, q) = q ∙ ap (λ (L : Letter). marked L v) p

-- a letter with another mark has the same words
turned_words : (s : State) (i v : ℕ) (A B : Letter) → Turned s i v A B → SameWords A B
turned_words s i v A B (p, q) = record {
  sender = same_sender q;
  receiver = same_receiver q;
  kind = same_kind q;
  stage = same_stage q;
  set = same_set q;
}

-- where one letter is marked, each old letter stays or is that one
old_marks : (s t : State) (i v : ℕ) → Marks s t i v
    → (l : ℕ) → l < s.sent → (t.letter l ≡ s.letter l) ⊎ Turned s i v (s.letter l) (t.letter l)
old_marks s t i v k l h = elim (cases_eq l i) [
  | inl e ↦ inr (ap s.letter e, ap t.letter e ∙ k.here ∙ ap (λ (L : Letter). marked L v) (sym (ap s.letter e)))
  | inr n ↦ inl (k.others l h n)
]

-- a place that a sending fills has one of its letters
new_sends : {z : Size} (s t : State) {x k j : ℕ} {S : Set} → Sends z s t x k j S
    → (i : ℕ) → s.sent ≤ i → i < t.sent → SentNew z x k j S (t.letter i)
new_sends {z} s t h i a b =
    let y : ℕ = i - s.sent in
    let y-in : y < z.n = omega (arith, h.places, a, b) in
    let e : i ≡ s.sent + y = omega (arith, a) in
    (y, y-in, ap t.letter e ∙ h.new y y-in)

-- a sending has a copy of each letter for every node
copy_sends : {z : Size} (s t : State) {x k j : ℕ} {S : Set} → Sends z s t x k j S
    → (i y : ℕ) → i < t.sent → SentNew z x k j S (t.letter i) → y < z.n → Copy t i y
copy_sends s t h i y l (y', a, e) b = let n = h.new y b in record {
  l = s.sent + y;
  place = omega (arith, h.places, b);
  sender = same_sender n ∙ sym (same_sender e);
  receiver = same_receiver n;
  kind = same_kind n ∙ sym (same_kind e);
  stage = same_stage n ∙ sym (same_stage e);
  set = same_set n ∙ sym (same_set e);
}

-- a letter that is sent travels
sent_mark : (z : Size) (x k j : ℕ) (S : Set) (L : Letter) → SentNew z x k j S L → L.mark ≡ travelling
sent_mark z x k j S L (y, h, e) = same_mark e

-- of the letters that x sends, the one to itself
pub sent_own : {z : Size} (s t : State) {k j : ℕ} {S : Set} (x : ℕ) → x < z.n → Sends z s t x k j S
    → (i : ℕ) × Posted t i k x j × ((t.letter i).set ≡ S)
sent_own s t x l h = let n = h.new x l in (
  s.sent + x,
  record {
    place = omega (arith, h.places, l);
    kind = same_kind n;
    sender = same_sender n;
    stage = same_stage n;
  },
  same_set n,
)

-- neither
pub mail_none : {z : Size} {s t : State} → NoneSent s t → SameLetters s t → Mail z s t NoTurn NoCome
mail_none u o = record {
  sent_le = omega (arith, u);
  old = λ i l. inl (o i l);
  new = λ i h l. omega (arith, u, h, l);
  turn_words = λ A B h. absurd h;
  come_mark = λ L h. absurd h;
  come_copy = λ i y l h k. absurd h;
}

-- a letter is marked
pub mail_marks : {z : Size} {s t : State} (i v : ℕ) → NoneSent s t → Marks s t i v → Mail z s t (Turned s i v) NoCome
mail_marks {s = s} {t = t} i v u o = record {
  sent_le = omega (arith, u);
  old = old_marks s t i v o;
  new = λ i h l. omega (arith, u, h, l);
  turn_words = turned_words s i v;
  come_mark = λ L h. absurd h;
  come_copy = λ i y l h k. absurd h;
}

-- letters are sent
pub mail_sends : {z : Size} {s t : State} {x k j : ℕ} {S : Set} → Sends z s t x k j S → SameLetters s t
    → Mail z s t NoTurn (SentNew z x k j S)
mail_sends {z} {s} {t} {x} {k} {j} {S} h o = record {
  sent_le = omega (arith, h.places);
  old = λ i l. inl (o i l);
  new = new_sends s t h;
  turn_words = λ A B h. absurd h;
  come_mark = sent_mark z x k j S;
  come_copy = copy_sends s t h;
}

-- both
pub mail_both : {z : Size} {s t : State} {x k j : ℕ} {S : Set} (i v : ℕ) → Sends z s t x k j S → Marks s t i v
    → Mail z s t (Turned s i v) (SentNew z x k j S)
mail_both {z} {s} {t} {x} {k} {j} {S} i v h o = record {
  sent_le = omega (arith, h.places);
  old = old_marks s t i v o;
  new = new_sends s t h;
  turn_words = turned_words s i v;
  come_mark = sent_mark z x k j S;
  come_copy = copy_sends s t h;
}
