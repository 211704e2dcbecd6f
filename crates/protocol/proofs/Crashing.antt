-- A node crashes.
use Rattle.std.proofs.Common.{ℕ, not, eqb, ap, ◌∙◌}
use Rattle.std.proofs.lemmas.Bool.{and_left}
use Rattle.protocol.specs.Sets.{Set}
use Rattle.protocol.specs.Ring.{Size, State}
use Rattle.protocol.specs.Calls.{Crashes}
use Rattle.protocol.proofs.Invariant.{Ok}
use Rattle.protocol.proofs.Continuing.{Continues}
use Rattle.protocol.proofs.Mail.{Mail, post_keeps, mail_none, none_came, NoTurn, NoCome}
use Rattle.protocol.proofs.Acting.{proposers_same, continues_same, book_keeps, chooser_keeps, left}

-- the call keeps the invariant
pub crashes_ok : {z : Size} {s t : State} (r : ℕ) → Ok z s → Crashes z s t r → Ok z t
crashes_ok {z} {s} {t} r o c =
    let mail : Mail z s t NoTurn NoCome = mail_none c.silent c.letters in
    let e : Continues s t = continues_same mail c.book c.chooser
    (λ x h. ap (λ (f : Set). f x) c.live ∙ and_left (s.live x) (not (eqb x r)) h) in
    record {
      book = book_keeps e c.book o.book;
      post = post_keeps mail e o.post (λ A B h. absurd h) none_came (λ L M h k. absurd h) (λ L l h k. absurd h);
      chooser = chooser_keeps e c.chooser o.chooser;
      nodes = λ x l. left o e mail x l (c.nodes x l) (λ j h. proposers_same c.chooser j x h) (λ L h k. absurd h)
          (λ A B h k. absurd h);
    }
