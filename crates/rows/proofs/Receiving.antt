-- One turn of the loops that take a letter.
use Rattle.std.proofs.Common.{◌≡◌, ℕ, zero, suc, ◌+◌, ◌≤◌, Bool, true, false, cond, ◌||◌, ◌/◌, eqb, leb, ltb, List}
use Rattle.std.proofs.Common.{length, get_or, set, take, sym, refl, ap, ◌∙◌}
use Rattle.std.proofs.Common.{add-one, ◌++◌, ◌∷◌, [], arith}
use Rattle.std.specs.List.{list_any, count_by, sum_by}
use Rattle.std.proofs.lemmas.List.{take_more, length-take-le}
use Rattle.std.proofs.lemmas.List.Folds.{list_any-append}
use Rattle.std.proofs.lemmas.List.Sums.{sum_by_more}
use Rattle.rows.specs.Masks.{has, added, those}
use Rattle.rows.specs.Rows.{no_check}
use Rattle.rows.specs.Receipts.{heard_from, from_sender}
use Rattle.rows.specs.Proposals.{holding, in_majority, majority}
use Rattle.rows.specs.declared.row.Check.{Check}
use Rattle.rows.proofs.Masks.{those_same}
use Rattle.std.proofs.lemmas.Bool.{cond-true, cond-false}
use mathlib.Core.Bool.{or-false}

-- no message of the acknowledgement is heard at first
pub heard_none : (h : List ℕ) (s x : ℕ) → heard_from h s x 0 ≡ h
unfolding heard_from
heard_none h s x = refl

-- one number more
heard_more : (h : List ℕ) (s x m : ℕ) → heard_from h s x (m + 1)
    ≡ cond (has x m) (set (heard_from h s x m) m (added (get_or (heard_from h s x m) m 0) s)) (heard_from h s x m)
unfolding heard_from
heard_more h s x m = rw add-one refl

-- a message of the acknowledgement is heard from its sender
pub heard_in : (h : List ℕ) (s x m : ℕ) → has x m ≡ true
    → heard_from h s x (m + 1) ≡ set (heard_from h s x m) m (added (get_or (heard_from h s x m) m 0) s)
heard_in h s x m t = heard_more h s x m ∙ cond-true (has x m) _ _ t

-- any other number changes nothing
pub heard_out : (h : List ℕ) (s x m : ℕ) → has x m ≡ false → heard_from h s x (m + 1) ≡ heard_from h s x m
heard_out h s x m t = heard_more h s x m ∙ cond-false (has x m) _ _ t

-- one check more
pub from_more : (cs : List Check) (s k : ℕ)
    → from_sender cs s (k + 1) ≡ (from_sender cs s k || eqb (get_or cs k no_check).sender s)
unfolding from_sender
from_more cs s k = rw add-one refl

-- whether one of the first checks is from the sender, as a slice of them tells
pub from_first : (cs : List Check) (s k : ℕ) → k ≤ length cs
    → from_sender cs s k ≡ list_any (λ (c : Check). eqb c.sender s) (take k cs)
unfolding from_sender
from_first cs s zero h = refl
from_first cs s (suc k) h =
    let test : Check → Bool = λ c. eqb c.sender s in
    let last : Check = get_or cs k no_check in
    let more : take (suc k) cs ≡ take k cs ++ last ∷ [] = rw add-one at (take_more cs k no_check (omega arith)) in
    let tested : list_any test (take (suc k) cs) ≡ (list_any test (take k cs) || (test last || false)) =
    ap (list_any test) more ∙ list_any-append test (take k cs) (last ∷ []) in
    ap (λ b. b || test last) (from_first cs s k (omega arith))
    ∙ sym (tested ∙ ap (λ b. list_any test (take k cs) || b) (or-false (test last)))

-- how many of the first checks have the message, as a slice of them tells
pub holding_first : (cs : List Check) (m k : ℕ) → k ≤ length cs
    → holding cs m k ≡ count_by (λ (c : Check). has c.set m) (take k cs)
holding_first cs m zero h = refl
holding_first cs m (suc k) h =
    let held : Check → ℕ = λ c. cond (has c.set m) 1 0 in
    let more : sum_by held (take (suc k) cs) ≡ sum_by held (take k cs) + held (get_or cs k no_check) =
    rw add-one at (sum_by_more held cs k no_check (omega arith)) in
    ap (λ n. n + held (get_or cs k no_check)) (holding_first cs m k (omega arith)) ∙ sym more

-- the messages in most of the first checks, as a slice of them tells
pub most_first : (cs : List Check) (q : ℕ) → q ≤ length cs
    → majority cs q ≡ those (λ m. ltb (length (take q cs) / 2) (count_by (λ (c : Check). has c.set m) (take q cs))) 64
most_first cs q h =
    let held : ℕ → ℕ = λ m. count_by (λ (c : Check). has c.set m) (take q cs) in
    let e : length (take q cs) ≡ q = length-take-le q cs h in
    those_same (in_majority cs q) (λ m. ltb (length (take q cs) / 2) (held m)) 64
    (λ m. ap (leb (q / 2 + 1)) (holding_first cs m q h) ∙ rw add-one refl ∙ ap (λ k. ltb (k / 2) (held m)) (sym e))

-- a last test that fails adds nothing
pub or_last : (x y : Bool) → y ≡ false → (x || y) ≡ x
or_last true y e = refl
or_last false y e = e
