-- What every receipt has in common: the letter at place i is taken, and its receiver acts.
use Rattle.std.proofs.Common.{◌≡◌, ℕ, ◌<◌, ◌⊎◌, inl}
use Rattle.protocol.specs.Sets.{◌∈◌, ◌∉◌}
use Rattle.protocol.specs.Ring.{Size, State, Node, Letter, taken, lost}
use Rattle.protocol.specs.Calls.{Takes, NoneSent, Becomes, taker}
use Rattle.protocol.proofs.Facts.{same_mark, same_receiver}
use Rattle.protocol.proofs.Invariant.{NodeOk, Astray, PostOk, Ok}
use Rattle.protocol.proofs.Continuing.{Continues}
use Rattle.protocol.proofs.Mail.{Mail, mail_marks, none_came, post_keeps, turned_is, NoCome, Turned}
use Rattle.protocol.proofs.Acting.{live_same, proposers_same, continues_same, book_keeps, chooser_keeps, acts}

module _ {z : Size} {s t : State} (o : Ok z s) (i : ℕ) (k : Takes s t i) where
  -- the mark of the letter that is taken
  pub turned_mark : (A B : Letter) → Turned s i taken A B → (B.mark ≡ taken) ⊎ ((B.mark ≡ lost) × Astray t B)
  turned_mark A B h = inl (same_mark (turned_is s i taken A B h))

  -- and its receiver
  pub turned_receiver : (A B : Letter) → Turned s i taken A B → B.receiver ≡ (s.letter i).receiver
  turned_receiver A B h = same_receiver (turned_is s i taken A B h)

  -- its receiver
  pub receiver_in : (s.letter i).receiver < z.n
  receiver_in = (o.post.each i k.place).unspoilt.receiver_in

  -- what holds of the receiver before
  pub receiver_ok : NodeOk z s (s.letter i).receiver (taker s i)
  receiver_ok = o.nodes (s.letter i).receiver receiver_in

  -- the receiver proposes nothing
  pub no_proposal : (j x : ℕ) → x ∈ t.proposers j → x ∈ s.proposers j
  no_proposal = proposers_same k.chooser

  -- nobody comes back to life
  pub live : (x : ℕ) → x ∉ s.live → x ∉ t.live
  live = live_same s t k.live

  -- a receipt that sends nothing
  module _ (silent : NoneSent s t) where
    -- the letters over the call
    pub mail : Mail z s t (Turned s i taken) NoCome
    mail = mail_marks i taken silent k.marks

    -- the new state continues the old one
    pub continues : Continues s t
    continues = continues_same mail k.book k.chooser live

    -- the letters keep their part of the invariant
    pub post : PostOk z t
    post = post_keeps mail continues o.post turned_mark none_came (λ L M h k. absurd h) (λ L l h k. absurd h)

    -- it is enough to show the invariant of the receiver
    pub whole : (N : Node) → Becomes z s t (s.letter i).receiver N → NodeOk z t (s.letter i).receiver N → Ok z t
    whole N b h = record {
      book = book_keeps continues k.book o.book;
      post = post;
      chooser = chooser_keeps continues k.chooser o.chooser;
      nodes = acts o continues mail (s.letter i).receiver N b h (λ x j d. no_proposal j x) (λ L h. absurd h) turned_receiver;
    }
