-- What several calls do or leave alone, as the protocol sees it.
use Rattle.std.proofs.Common.{◌≡◌, ℕ, ◌+◌, ◌<◌, ◌≤◌, List, length, get_or, sym, refl, ap, ◌∙◌, subst}
use Rattle.record.specs.Kind.{Kind}
use Rattle.chooser.specs.Meaning.{Meaning}
use Rattle.protocol.specs.Calls.{SameChooser, SameLetters, Sends}
use Rattle.rows.specs.Letters.{no_letter, sent}
use Rattle.rows.specs.Masks.{has}
use Rattle.rows.specs.declared.letter.Letter.{Letter}
use Rattle.rows.specs.declared.size.RingSize.{RingSize}
use Rattle.ring.specs.World.{World, nodes_of}
use Rattle.ring.proofs.Changing.{nodes_are}
use Rattle.ring.proofs.Seeing.{seen, seen_letter, size_of, Fine}
use Rattle.ring.proofs.Sending.{sent_before, sent_now}

-- where the meaning of the chooser stays, it proposes and decides nothing
pub same_chooser : (K : Kind) (w v : World) (M : Meaning) → SameChooser (seen K w M) (seen K v M)
same_chooser K w v M = record {
  proposers = refl;
  proposal_nonconflicting = refl;
  proposal_conflicting = refl;
  decided = refl;
  nonconflicting = refl;
  conflicting = refl;
}

-- a world v that a sending of the letter l to all nodes made of w
module _ {K : Kind} {z : RingSize} {w : World} (f : Fine K z w) (v : World) (M : Meaning) (l : Letter)
    (tray : v.tray ≡ sent w.tray w.ring.used l (nodes_of w.ring.size)) where
  -- leaves the letters that were sent before
  pub letters_stay : SameLetters (seen K w M) (seen K v M)
  letters_stay i h =
      ap (λ (t : List Letter). seen_letter (get_or t i no_letter)) tray
      ∙ ap seen_letter (sent_before w.tray w.ring.used l (nodes_of w.ring.size) i h)

  -- and has a new one for each node
  pub sends_to_all : (need : ℕ) (low : 1 ≤ need) (high : need ≤ z.q)
      → v.ring.used ≡ w.ring.used + nodes_of w.ring.size
      → w.ring.used + nodes_of w.ring.size ≤ length w.tray
      → Sends (size_of z need low high) (seen K w M) (seen K v M) l.sender l.kind l.stage (has l.set)
  sends_to_all need low high used room =
      let all = nodes_are f in
      record {
        places = used ∙ ap (λ (n : ℕ). w.ring.used + n) all;
        new = λ y h. ap (λ (t : List Letter). seen_letter (get_or t (w.ring.used + y) no_letter)) tray
            ∙ ap seen_letter (sent_now w.tray w.ring.used l (nodes_of w.ring.size) y
            (subst (λ (n : ℕ). y < n) (sym all) h) room);
      }
