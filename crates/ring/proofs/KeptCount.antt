-- The checks that a row keeps are of as many nodes as there are checks.
use Rattle.std.proofs.Common.{◌≡◌, ℕ, zero, suc, ◌+◌, ◌<◌, cond, eqb, List, get_or, sym, refl, ◌∙◌, subst, inl, inr, arith}
use Rattle.std.proofs.lemmas.Bool.{cases_Bool, cases_eq, both_ways, or_left, or_right, eq-eqb, ne_eqb, cond-true, cond-false}
use Rattle.protocol.specs.Sets.{Set, ◌∈◌, ◌∉◌, count, only, ◌∪◌}
use Rattle.protocol.proofs.Counting.{Within, count_none, count_only, count_join, count_mono, count_more}
use Rattle.rows.specs.Receipts.{from_sender}
use Rattle.rows.specs.Rows.{no_check}
use Rattle.rows.specs.declared.row.Check.{Check}
use Rattle.rows.proofs.Receiving.{or_last}
use Rattle.ring.proofs.Seeing.{Apart}

-- what may have one member more, s, counts one more if it does
pub count_with : (n : ℕ) (f g : Set) (s : ℕ) → s < n → s ∉ f → ((x : ℕ) → (x ≡ s → ⊥) → g x ≡ f x)
    → count n g ≡ count n f + cond (g s) 1 0
count_with n f g s l out same =
    let grows : Within n f g = λ i k h. elim (cases_eq i s) [
      | inl e ↦ absurd (both_ways (f s) out (subst (λ (x : ℕ). x ∈ f) e h))
      | inr d ↦ same i d ∙ h
    ] in
    let by_one : Within n g (f ∪ only s) = λ i k h. elim (cases_eq i s) [
      | inl e ↦ or_right (f i) (eqb i s) (eq-eqb i s e)
      | inr d ↦ or_left (f i) (eqb i s) (sym (same i d) ∙ h)
    ] in
    elim (cases_Bool (g s)) [
      | inl t ↦ omega (
        arith,
        cond-true {A = ℕ} (g s) 1 0 t,
        count_more n f g grows s l out t,
        count_mono n g (f ∪ only s) by_one,
        count_join n f (only s),
        count_only n s,
      )
      | inr t ↦
          let back : Within n g f = λ i k h. elim (cases_eq i s) [
            | inl e ↦ absurd (both_ways (g s) t (subst (λ (x : ℕ). x ∈ g) e h))
            | inr d ↦ sym (same i d) ∙ h
          ] in
          omega (arith, cond-false {A = ℕ} (g s) 1 0 t, count_mono n f g grows, count_mono n g f back)
    ]

-- one check more is of its sender, and of no other node
pub sender_other : (checks : List Check) (k x : ℕ) → (x ≡ (get_or checks k no_check).sender → ⊥)
    → from_sender checks x (suc k) ≡ from_sender checks x k
unfolding from_sender
sender_other checks k x d = or_last (from_sender checks x k) _ (ne_eqb (get_or checks k no_check).sender x (λ e. d (sym e)))

-- so the checks are of as many nodes as there are checks
pub kept_count : (n : ℕ) (checks : List Check) (k : ℕ) → Apart n checks k → count n (λ x. from_sender checks x k) ≡ k
unfolding from_sender
kept_count n checks zero apart = count_none n (λ x. from_sender checks x 0) (λ x l. refl)
kept_count n checks (suc k) (known, new, apart) =
    let sender : ℕ = (get_or checks k no_check).sender in
    let more = count_with n (λ x. from_sender checks x k) (λ x. from_sender checks x (suc k)) sender known new
    (λ x d. sender_other checks k x d) in
    let one = cond-true {A = ℕ} (from_sender checks sender (suc k)) 1 0
    (or_right (from_sender checks sender k) (eqb sender sender) (eq-eqb sender sender refl)) in
    omega (arith, kept_count n checks k apart, more, one)
