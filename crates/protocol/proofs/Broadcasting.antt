-- A node broadcasts a message; and what holds of data letters, which a relay sends too.
use Rattle.std.proofs.Common.{◌≡◌, ℕ, ◌<◌, ◌⊎◌, sym, refl, ap, ◌∙◌, subst, inl, inr, arith}
use Rattle.std.proofs.lemmas.Bool.{cases_eq, eqb-true, eq-eqb}
use Rattle.protocol.specs.Sets.{Set, only}
use Rattle.protocol.specs.Ring.{Size, State, Node, Letter, data_letter}
use Rattle.protocol.specs.Calls.{Broadcasts, Sends}
use Rattle.protocol.proofs.Facts.{same_kind, Told}
use Rattle.protocol.proofs.Invariant.{SentBy, LetterOk, PairOk, Ok}
use Rattle.protocol.proofs.Continuing.{Continues, told_up}
use Rattle.protocol.proofs.Mail.{Mail, mail_words, mail_sends, post_keeps, sent_own, NoTurn, SentNew}
use Rattle.protocol.proofs.Acting.{live_same, proposers_same, chooser_keeps, left}

-- a data letter that x sends is right by itself
pub data_letter_ok : {z : Size} {t : State} (x m : ℕ) → x < z.n → m < t.messages
    → (L : Letter) → SentNew z x data_letter 0 (only m) L → LetterOk z t L
data_letter_ok {z} {t} x m l k L (y, h, e) = subst (λ (M : Letter). LetterOk z t M) (sym e) (record {
  unspoilt = record {
    kinds = inl refl;
    sender_in = l;
    receiver_in = h;
    known = λ a q. subst (λ (b : ℕ). b < t.messages) (sym (eqb-true a m q)) k;
    data_stage = λ p. refl;
    data_one = λ p. (m, refl);
    later = λ p. absurd (p refl);
  };
  check_free = λ a b p. absurd (omega (arith, p));
  marks = inl refl;
  lost_astray = λ p. absurd (omega (arith, p));
})

-- a data letter is right beside any letter
pub data_pair_ok : {t : State} (A B : Letter) → (A.kind ≡ data_letter) ⊎ (B.kind ≡ data_letter) → PairOk t A B
data_pair_ok A B (inl h) = record {
  ack_check = λ m p q k l. absurd (omega (arith, h, k));
  ack_free = λ a b p q k l. absurd (omega (arith, h, k));
}
data_pair_ok A B (inr h) = record {
  ack_check = λ m p q k l. absurd (omega (arith, h, l));
  ack_free = λ a b p q k l. absurd (omega (arith, h, l));
}

-- a data letter asks nothing of its sender
pub data_sent_ok : {t : State} (N : Node) (L : Letter) → L.kind ≡ data_letter → SentBy t N L
data_sent_ok N L h = record {
  ack_stage = λ k. absurd (omega (arith, h, k));
  ack_pending = λ m k. absurd (omega (arith, h, k));
  check_stage = λ k. absurd (omega (arith, h, k));
  check_cause = λ k. absurd (omega (arith, h, k));
  check_settled = λ k. absurd (omega (arith, h, k));
}

-- the kind of a data letter that x sends
pub data_kind : (z : Size) (x m : ℕ) (L : Letter) → SentNew z x data_letter 0 (only m) L → L.kind ≡ data_letter
data_kind z x m L (y, h, e) = same_kind e

-- who sends data of a message has told it
pub data_told : {z : Size} {s t : State} (x m : ℕ) → x < z.n → Sends z s t x data_letter 0 (only m) → Told t x m
data_told {z} {s} {t} x m l h = let w = sent_own s t x l h in (w.0, w.1, ap (λ (Y : Set). Y m) w.2 ∙ eq-eqb m m refl)

-- the call keeps the invariant
pub broadcasts_ok : {z : Size} {s t : State} (r : ℕ) → Ok z s → Broadcasts z s t r → Ok z t
broadcasts_ok {z} {s} {t} r o b =
    let m : ℕ = s.messages in
    let mail : Mail z s t NoTurn (SentNew z r data_letter 0 (only m)) = mail_sends b.sends b.letters in
    let e : Continues s t = record {
      sent_le = mail.sent_le;
      words = mail_words mail;
      messages_le = omega (arith, b.messages);
      conflict = b.conflict_kept;
      decided = λ j h. ap (λ (f : Set). f j) b.chooser.decided ∙ h;
      nonconflicting = λ j h. ap (λ (f : ℕ → Set). f j) b.chooser.nonconflicting;
      conflicting = λ j h. ap (λ (f : ℕ → Set). f j) b.chooser.conflicting;
      proposers = λ j x h. ap (λ (f : ℕ → Set). f j x) b.chooser.proposers ∙ h;
      live = live_same s t b.live;
    } in
    record {
      book = record {
        messages_le = omega (arith, b.messages, b.room);
        both_sides = b.both_sides;
        not_itself = b.not_itself;
        told = λ a l. told e a l (cases_eq m a);
      };
      post = post_keeps mail e o.post (λ A B h. absurd h) (data_letter_ok r m b.in_ring (omega (arith, b.messages)))
          (λ L M h k. data_pair_ok L M (inl (data_kind z r m L h))) (λ L l h k. (
            data_pair_ok L (s.letter l) (inl (data_kind z r m L h)),
            data_pair_ok (s.letter l) L (inr (data_kind z r m L h)),
          ));
      chooser = chooser_keeps e b.chooser o.chooser;
      nodes = λ x l. left o e mail x l (b.nodes x l) (λ j h. proposers_same b.chooser j x h)
          (λ L h k. data_sent_ok (s.node x) L (data_kind z r m L h)) (λ A B h k. absurd h);
    }
  where
    -- an old message was told before, the new one is told now
    told : Continues s t → (a : ℕ) → a < t.messages → (s.messages ≡ a) ⊎ (s.messages ≡ a → ⊥) → Told t (t.broadcaster a) a
    told e a l (inl p) =
        subst (λ (y : ℕ). Told t (t.broadcaster y) y) p
        (subst (λ (x : ℕ). Told t x s.messages) (sym b.broadcaster)
        (data_told {s = s} r s.messages b.in_ring b.sends))
    told e a l (inr d) = let k : a < s.messages = omega (arith, b.messages, l, d) in
        subst (λ (x : ℕ). Told t x a) (sym (b.broadcaster_kept a k)) (told_up e (s.broadcaster a) a (o.book.told a k))
