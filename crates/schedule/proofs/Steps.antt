-- What a reading that succeeded went through.
use Rattle.std.proofs.Common.{◌≡◌, ℕ, Bool, true, false, cond, eqb, ◌⊎◌, List, Ok, Err, Result, refl, inl, inr, ⊎_elim, arith}
use Rattle.std.proofs.Common.{◌∙◌, ap}
use Rattle.std.proofs.lemmas.Bool.{eqb-true}
use Rattle.record.specs.RecordKind.{no_kind}
use Rattle.record.specs.declared.record_kind.NoSuchKind.{NoSuchKind}
use Rattle.schedule.specs.declared.kind.EntryKind.{EntryKind}
use Rattle.schedule.specs.declared.fault.EntryFault.TheVariants.{InNumber}
use Rattle.schedule.specs.Numbers.{number_at}
use Rattle.schedule.specs.Kinds.{entry_kind, number_of_kind, known, kind_at}
use Rattle.schedule.specs.Chains.{through}

-- both readings of a chain succeeded
pub through_ok : {A B E F : Type 0} (f : E → F) (r : Result A E) (k : A → Result B F) (x : B) →
    through f r k ≡ Ok x → (a : A) × (r ≡ Ok a) × (k a ≡ Ok x)
through_ok f (Ok a) k x e = (a, refl, e)
through_ok f (Err d) k x e = absurd (let z : ◌≡◌ {A = ℕ} 0 1 = cc in let y : ⊥ = omega arith in y)

-- a test went one way or the other
pub cond_is : {A : Type 0} (b : Bool) (x y r : A) → cond b x y ≡ r →
    ((b ≡ true) × (x ≡ r)) ⊎ ((b ≡ false) × (y ≡ r))
cond_is true x y r e = inl (refl, e)
cond_is false x y r e = inr (refl, e)

-- a fault is no success
pub err_ok : {A E : Type 0} (d : E) (x : A) → ◌≡◌ {A = Result A E} (Err d) (Ok x) → ⊥
err_ok d x e = let z : ◌≡◌ {A = ℕ} 0 1 = cc in omega arith

-- equal successes hold equals
pub same_ok : {A E : Type 0} (x y : A) → ◌≡◌ {A = Result A E} (Ok x) (Ok y) → x ≡ y
same_ok x y e = cc

-- where a kind is known, its number was tried
known_ok : {K : Type 0} (p q : ℕ) (r : Result K NoSuchKind) (x : K × ℕ) → known p q r ≡ Ok x → (r ≡ Ok x.0) × (q ≡ x.1)
known_ok p q (Ok k) x e = (ap Ok (ap (λ y. y.0) (same_ok _ _ e)), ap (λ y. y.1) (same_ok _ _ e))
known_ok p q (Err f) x e = absurd (let z : ◌≡◌ {A = ℕ} 0 1 = cc in let y : ⊥ = omega arith in y)

-- where a kind is read, a number stands that it goes by
pub kind_ok : {K : Type 0} (tried : ℕ → Result K NoSuchKind) (bytes : List ℕ) (p : ℕ) (x : K × ℕ) →
    kind_at tried bytes p ≡ Ok x → (n : ℕ) × (number_at 255 bytes p ≡ Ok (n, x.1)) × (tried n ≡ Ok x.0)
kind_ok tried bytes p x e =
    let g = through_ok InNumber (number_at 255 bytes p) _ x e in
    let n : ℕ × ℕ = g.0 in
    let h = known_ok p n.1 (tried n.0) x g.2 in
    (n.0, g.1 ∙ ap (λ q. Ok (n.0, q)) h.1, h.0)

-- a kind of entry goes by one number
pub entry_kind_number : (n : ℕ) (k : EntryKind) → entry_kind n ≡ Ok k → n ≡ number_of_kind k
entry_kind_number n k e =
    ⊎_elim (λ h. eqb-true n 1 h.0 ∙ ap number_of_kind (same_ok _ _ h.1)) (λ h.
    ⊎_elim (λ h. eqb-true n 2 h.0 ∙ ap number_of_kind (same_ok _ _ h.1)) (λ h.
    ⊎_elim (λ h. eqb-true n 3 h.0 ∙ ap number_of_kind (same_ok _ _ h.1)) (λ h.
    ⊎_elim (λ h. eqb-true n 4 h.0 ∙ ap number_of_kind (same_ok _ _ h.1)) (λ h.
    ⊎_elim (λ h. eqb-true n 5 h.0 ∙ ap number_of_kind (same_ok _ _ h.1)) (λ h. absurd (err_ok (no_kind n) k h.1))
    (cond_is (eqb n 5) _ _ (Ok k) h.1))
    (cond_is (eqb n 4) _ _ (Ok k) h.1))
    (cond_is (eqb n 3) _ _ (Ok k) h.1))
    (cond_is (eqb n 2) _ _ (Ok k) h.1))
    (cond_is (eqb n 1) _ _ (Ok k) e)
