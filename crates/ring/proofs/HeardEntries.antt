-- Whom a row has heard once an acknowledgement is heard too, message by message.
use Rattle.std.proofs.Common.{◌≡◌, ℕ, zero, suc, ◌^◌, ◌<◌, ◌≤◌, Bool, true, false, cond, ◌&&◌, ◌||◌, eqb, List, length, get_or}
use Rattle.std.proofs.Common.{set, sym, refl, ap, ◌∙◌, subst, inl, inr, arith}
use lib.Bits.{or_lt}
use lib.Pow.{pow-lt}
use mathlib.Core.Bool.{and-true, and-false}
use Rattle.std.proofs.lemmas.List.{get_or-set_other}
use Rattle.std.proofs.lemmas.Bool.{cases_eq, cond_both}
use Rattle.std.proofs.lemmas.Grind.{common_steps}
use Rattle.rows.specs.Masks.{has, added}
use Rattle.rows.specs.Receipts.{heard_from}
use Rattle.rows.proofs.Receiving.{or_last}
use Rattle.ring.proofs.Membership.{has_or, has_one}

module _ (heard : List ℕ) (sender x : ℕ) where
  -- the list after k messages of the acknowledgement
  abbrev after : ℕ → List ℕ
  after k = heard_from heard sender x k

  -- the same with the entry of message k changed besides
  abbrev changed : ℕ → List ℕ
  changed k = set (after k) k (added (get_or (after k) k 0) sender)

  -- the entry that a message of the acknowledgement gets
  abbrev pub entry : ℕ → ℕ
  entry m = cond (has x m) (added (get_or heard m 0) sender) (get_or heard m 0)

  -- the list stays as long
  pub heard_length : (k : ℕ) → length (after k) ≡ length heard
  unfolding heard_from
  heard_length zero = refl
  heard_length (suc k) = let rest = heard_length k in grind (arith, common_steps)

  -- the entries from k on stay
  pub heard_beyond : (k m : ℕ) → k ≤ m → get_or (after k) m 0 ≡ get_or heard m 0
  unfolding heard_from
  heard_beyond zero m l = refl
  heard_beyond (suc k) m l =
      let before = heard_beyond k m (omega arith) in grind (arith, common_steps)

  -- the last one has its entry
  heard_last : (k : ℕ) → k < length heard → get_or (after (suc k)) k 0 ≡ entry k
  unfolding heard_from
  heard_last k l =
      let before = heard_beyond k k (omega arith) in let long = heard_length k in grind (arith, common_steps)

  -- and so have all below k
  pub heard_within : (k m : ℕ) → m < k → k ≤ length heard → get_or (after k) m 0 ≡ entry m
  unfolding heard_from
  heard_within zero m l h = absurd (omega arith)
  heard_within (suc k) m l h = elim (cases_eq m k) [
    | inl e ↦ subst (λ (i : ℕ). get_or (after (suc k)) i 0 ≡ entry i) (sym e) (heard_last k (omega arith))
    | inr d ↦ let before = heard_within k m (omega (arith, l, d)) (omega arith) in
        cond_both (has x k) (changed k) (after k) (λ (t : List ℕ). get_or t m 0 ≡ entry m)
        (λ _. get_or-set_other (after k) k m _ 0 d ∙ before) (λ _. before)
  ]

-- one entry as a set of nodes
pub entry_has : (b : Bool) (a s y : ℕ) → has (cond b (added a s) a) y ≡ (has a y || (eqb y s && b))
entry_has b a s y = step b
  where
    -- by whether it is a message of the acknowledgement
    step : (c : Bool) → has (cond c (added a s) a) y ≡ (has a y || (eqb y s && c))
    step true = has_or a (2 ^ s) y ∙ ap (λ (v : Bool). has a y || v) (has_one s y ∙ sym (and-true (eqb y s)))
    step false = sym (or_last (has a y) _ (and-false (eqb y s)))

-- it names nodes of the ring
pub entry_small : (b : Bool) (a s n : ℕ) → a < 2 ^ n → s < n → cond b (added a s) a < 2 ^ n
entry_small true a s n h l = or_lt n a (2 ^ s) h (pow-lt l)
entry_small false a s n h l = h
