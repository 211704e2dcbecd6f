-- Whatever is proposed later, the need and the decisions stay.
use Rattle.std.proofs.Common.{arith, ◌≡◌, ℕ, get_or, Some, Result, refl, ◌∙◌}
use Rattle.chooser.specs.Laws.{at_once, and_then, DecisionsStay, EnoughDecides, NeedStays, PairsAsGiven}
use Rattle.chooser.specs.Meaning.{Meaning, Proposes, sets_of, no_proposal}
use Rattle.chooser.specs.declared.refusal.Refusal.{Refusal}

-- one call leaves the need
need_kept : (M N : Meaning) (s n : ℕ) (sets : ℕ × ℕ) (r : Result (Unit {0}) Refusal) → Proposes M s n sets r N → N.need ≡ M.need
need_kept M N s n sets r e = grind arith

-- one call leaves a decision that stands
decision_kept : (M N : Meaning) (s n : ℕ) (sets : ℕ × ℕ) (r : Result (Unit {0}) Refusal) → Proposes M s n sets r N →
    (j : ℕ) (d : ℕ × ℕ) → M.decision j ≡ Some d → N.decision j ≡ Some d
decision_kept M N s n sets r e j d f = grind arith

pub need_stays : NeedStays
need_stays M N at_once = refl
need_stays M N (and_then O _ s n sets r l e) = need_kept O N s n sets r e ∙ need_stays M O l

pub decisions_stay : DecisionsStay
decisions_stay M N at_once s d e = e
decisions_stay M N (and_then O _ j n sets r l e) s d f = decision_kept O N j n sets r e s d (decisions_stay M O l s d f)

pub enough_decides : EnoughDecides
enough_decides M N x l s h =
    let k = x.stands s h in
    let d = sets_of (get_or (M.proposals s) k.0 no_proposal) in
    (d, k.2, decisions_stay M N l s d k.2)

pub pairs_as_given : PairsAsGiven
pairs_as_given n sets = refl

-- what the law of standing decisions says
pub ruleset standing = (need_stays, decisions_stay, enough_decides, pairs_as_given)
