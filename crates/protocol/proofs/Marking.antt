-- A call that gives a letter a mark, and changes nothing else.
use Rattle.std.proofs.Common.{◌≡◌, ℕ, ◌⊎◌, sym, ◌∙◌, subst, inl, inr}
use Rattle.protocol.specs.Ring.{Size, State, Letter, taken, lost}
use Rattle.protocol.specs.Calls.{SameBook, SameChooser, SameLive, SameNodes, NoneSent, Marks, marked, taker}
use Rattle.protocol.proofs.Facts.{same_mark, same_receiver}
use Rattle.protocol.proofs.Invariant.{TakenBy, Astray, Ok}
use Rattle.protocol.proofs.Continuing.{Continues}
use Rattle.protocol.proofs.Mail.{Mail, post_keeps, mail_marks, turned_is, none_came, NoCome, Turned}
use Rattle.protocol.proofs.Acting.{live_same, proposers_same, continues_same, book_keeps, chooser_keeps, left}

module _ {z : Size} {s t : State} (o : Ok z s) (i v : ℕ) (marks : Marks s t i v) (silent : NoneSent s t)
    (nodes : SameNodes z s t) (book : SameBook s t) (chooser : SameChooser s t) (live : SameLive s t)
    (ends : (v ≡ taken) ⊎ ((v ≡ lost) × Astray s (s.letter i)))
    (took : v ≡ taken → TakenBy z (taker s i) (marked (s.letter i) v)) where
  -- the letters over the call
  mail : Mail z s t (Turned s i v) NoCome
  mail = mail_marks i v silent marks

  -- the new state continues the old one
  e : Continues s t
  e = continues_same mail book chooser (live_same s t live)

  -- it is taken, or lost and astray
  turned_mark : (A B : Letter) → Turned s i v A B → (B.mark ≡ taken) ⊎ ((B.mark ≡ lost) × Astray t B)
  turned_mark A B h = subst (λ (L : Letter). (L.mark ≡ taken) ⊎ ((L.mark ≡ lost) × Astray t L)) (sym (turned_is s i v A B h))
      (elim ends [
        | inl k ↦ inl k
        | inr (k, inl w) ↦ inr (k, inl (live_same s t live (s.letter i).sender w))
        | inr (k, inr w) ↦ inr (k, inr (live_same s t live (s.letter i).receiver w))
      ])

  -- if it is taken, its receiver made use of it
  turned_taken : (x : ℕ) (A B : Letter) → Turned s i v A B → B.receiver ≡ x → B.mark ≡ taken → TakenBy z (s.node x) B
  turned_taken x A B h f m = let b = turned_is s i v A B h in
      subst (λ (L : Letter). TakenBy z (s.node x) L) (sym b)
      (subst (λ (y : ℕ). TakenBy z (s.node y) (marked (s.letter i) v)) (sym (same_receiver b) ∙ f)
      (took (sym (same_mark b) ∙ m)))

  -- such a call keeps the invariant
  pub marks_ok : Ok z t
  marks_ok = record {
    book = book_keeps e book o.book;
    post = post_keeps mail e o.post turned_mark none_came (λ L M h k. absurd h) (λ L l h k. absurd h);
    chooser = chooser_keeps e chooser o.chooser;
    nodes = λ x l. left o e mail x l (nodes x l) (λ j h. proposers_same chooser j x h) (λ L h k. absurd h) (turned_taken x);
  }
