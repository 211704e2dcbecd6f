-- Crashes and losses as functions on states, as the receipts are in Playing.
use Rattle.std.proofs.Common.{◌≡◌, true, ℕ, not, ◌&&◌, ◌||◌, eqb, ltb, ◌⊎◌, refl, inl, inr, arith}
use Rattle.std.proofs.lemmas.Bool.{or_cases, eqb-true, ltb-true}
use Rattle.protocol.specs.Sets.{◌∉◌, only, ◌∖◌}
use Rattle.protocol.specs.Ring.{Size, State, travelling, lost}
use Rattle.protocol.specs.Calls.{marked}
use Rattle.protocol.specs.Runs.{Call, crashes, loses}
use Rattle.protocol.proofs.Playing.{update, update_here, update_else, with_post, same_book, same_chooser}
use Rattle.protocol.proofs.PlayingSteps.{able}

-- node r crashes
abbrev pub crashed : ℕ → State → State
crashed r s = record {
  messages = s.messages;
  conflict = s.conflict;
  broadcaster = s.broadcaster;
  sent = s.sent;
  letter = s.letter;
  node = s.node;
  live = s.live ∖ only r;
  proposers = s.proposers;
  proposal_nonconflicting = s.proposal_nonconflicting;
  proposal_conflicting = s.proposal_conflicting;
  decided = s.decided;
  nonconflicting = s.nonconflicting;
  conflicting = s.conflicting;
}

-- that is a call
pub plays_crash : (z : Size) (s : State) (r : ℕ) → able z s r ≡ true → Call z s (crashed r s)
plays_crash z s r h = crashes r (record {
  in_ring = ltb-true r z.n (grind arith);
  alive = grind arith;
  live = refl;
  letters = λ i l. refl;
  silent = refl;
  book = record { messages = refl; conflict = refl; broadcaster = refl };
  chooser = record {
    proposers = refl;
    proposal_nonconflicting = refl;
    proposal_conflicting = refl;
    decided = refl;
    nonconflicting = refl;
    conflicting = refl;
  };
  nodes = λ x l. refl;
})

-- the letter at place i is lost
abbrev pub lost_one : ℕ → State → State
lost_one i s = with_post s.sent (update s.letter i (marked (s.letter i) lost)) s.node s

-- that is a call
pub plays_loss : (z : Size) (s : State) (i : ℕ)
    → (ltb i s.sent && (eqb (s.letter i).mark travelling
    && (not (s.live (s.letter i).sender) || not (s.live (s.letter i).receiver)))) ≡ true → Call z s (lost_one i s)
plays_loss z s i h =
    let f = update s.letter i (marked (s.letter i) lost) in
    loses i (record {
      place = ltb-true i s.sent (grind arith);
      travels = eqb-true (s.letter i).mark travelling (grind arith);
      crashed = ends (or_cases (not (s.live (s.letter i).sender)) (not (s.live (s.letter i).receiver)) (grind arith));
      marks = record {
        here = update_here s.letter i (marked (s.letter i) lost);
        others = λ l k d. update_else s.letter i (marked (s.letter i) lost) l d;
      };
      silent = refl;
      book = same_book s s.sent f s.node;
      chooser = same_chooser s s.sent f s.node;
      nodes = λ x l. refl;
      live = refl;
    })
  where
    ends : (not (s.live (s.letter i).sender) ≡ true) ⊎ (not (s.live (s.letter i).receiver) ≡ true)
        → ((s.letter i).sender ∉ s.live) ⊎ ((s.letter i).receiver ∉ s.live)
    ends (inl p) = inl (grind (arith, p))
    ends (inr p) = inr (grind (arith, p))
