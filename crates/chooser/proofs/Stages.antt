-- A stage, and what one more proposal makes of it.
use Rattle.std.proofs.Common.{◌≡◌, ℕ, ◌+◌, ◌<◌, ◌≤◌, true, false, ◌==◌, List, [], ◌∷◌, take, set, sym, refl, arith}
use Rattle.std.proofs.Common.{length-take-le}
use Rattle.std.specs.List.{list_any}
use Rattle.std.proofs.lemmas.List.{take_more_set}
use Rattle.chooser.specs.Arrivals.{apart}
use Rattle.chooser.specs.Meaning.{has_proposed}
use Rattle.chooser.specs.Table.{arrived}
use Rattle.chooser.specs.declared.log.stage.Stage.{Stage}
use Rattle.chooser.specs.declared.proposal.Proposal.{Proposal}
use Rattle.chooser.proofs.Apart.{apart_push, room_for}

-- the test that the search makes of each proposal
pub searched : (n : ℕ) (ps : List Proposal) → has_proposed n ps ≡ list_any (λ (p : Proposal). p.node == n) ps
searched n [] = refl
searched n (p ∷ ps) = let h = searched n ps in grind arith

-- a node that has not proposed in a stage
module _ (t : Stage) (p : Proposal) (absent : false ≡ has_proposed p.node (arrived t)) (node : p.node ≤ 6) where
  pub room_in : t.count < 7
  room_in =
      let short = room_for 7 p.node (arrived t) t.each_once (sym absent) (omega arith) in
      let l = t.places in
      let w = t.within in
      omega (arith, length-take-le t.count t.proposals (omega arith))

  pub still_apart : apart 7 (take (t.count + 1) (set t.proposals t.count p)) ≡ true
  still_apart =
      let l = t.places in
      let r = room_in in
      rw (take_more_set t.proposals t.count p (omega arith)) (apart_push 7 (arrived t) p t.each_once (sym absent) (omega arith))
