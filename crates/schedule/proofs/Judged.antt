-- What a number is read as.
use Rattle.std.proofs.Common.{◌≡◌, ℕ, ◌+◌, ◌-◌, ◌<◌, ◌≤◌, true, false, not, leb, List, length, take, drop, is_some, Some, None, Ok, Err, Option}
use Rattle.std.proofs.Common.{sym, refl, ap, ◌∙◌, ⊎_elim, arith}
use Rattle.std.proofs.lemmas.List.{take_rest}
use Rattle.std.proofs.lemmas.Bool.{lt-leb, leb-true, cond-true, cond-false, cases_Bool, and_left, and_right}
use Rattle.std.proofs.lemmas.Bool.{and_parts, not-true, not_from_true}
use Rattle.schedule.specs.declared.fault.NumberFault.TheVariants.{CutShort, Unfit}
use Rattle.schedule.specs.Numbers.{front, overlong, judged, fit, number_at, Longer}
use Rattle.schedule.proofs.Large.{longer_large}

-- a number is read as it is judged
pub number_judged : (limit : ℕ) (bytes : List ℕ) (p : ℕ) →
    number_at limit bytes p ≡ judged limit p (drop p bytes) (front (drop p bytes))
unfolding number_at
number_judged limit bytes p = refl

-- the same of the rest of the bytes, as code takes it
pub number_rest : (limit : ℕ) (bytes : List ℕ) (p : ℕ) → let rest = take (length bytes - p) (drop p bytes) in
    number_at limit bytes p ≡ judged limit p rest (front rest)
number_rest limit bytes p =
    number_judged limit bytes p ∙ ap (λ ys. judged limit p ys (front ys)) (sym (take_rest bytes p))

module _ (limit p : ℕ) (bs : List ℕ) where
  -- a number that does not end is cut short
  pub judged_cut : (o : Option (ℕ × ℕ)) → is_some o ≡ false → judged limit p bs o ≡ Err (CutShort p)
  judged_cut None e = refl
  judged_cut (Some t) e = let z : ◌≡◌ {A = ℕ} 0 1 = cc in absurd (let y : ⊥ = omega arith in y)

  -- a number that is not fit is unfit
  pub judged_unfit : (t : ℕ × ℕ) → fit limit bs t ≡ false → judged limit p bs (Some t) ≡ Err (Unfit p)
  judged_unfit t h = cond-false (fit limit bs t) _ _ h

  -- a number of more than three groups is unfit
  pub judged_longer : limit < 65536 → is_some (front bs) ≡ true → Longer bs →
      judged limit p bs (front bs) ≡ Err (Unfit p)
  judged_longer l s m = from (front bs) refl s
    where
      from : (o : Option (ℕ × ℕ)) → front bs ≡ o → is_some o ≡ true → judged limit p bs o ≡ Err (Unfit p)
      from None e s = let z : ◌≡◌ {A = ℕ} 0 1 = cc in absurd (let y : ⊥ = omega arith in y)
      from (Some t) e s = ⊎_elim
          (λ b. judged_unfit t (and_right _ _ (not_from_true (overlong bs t.1) b)))
          (λ b. judged_unfit t (and_left _ _
          (lt-leb t.0 limit (omega (arith, longer_large bs t e (m t e) b)))))
          (cases_Bool (overlong bs t.1))

  -- a number that is fit is read
  pub judged_fit : (t : ℕ × ℕ) → fit limit bs t ≡ true → judged limit p bs (Some t) ≡ Ok (t.0, p + t.1)
  judged_fit t h = cond-true (fit limit bs t) _ _ h

  -- a number that is read is within its limit, and no longer than need be
  pub judged_ok : (v q : ℕ) (o : Option (ℕ × ℕ)) → judged limit p bs o ≡ Ok (v, q) →
      (n : ℕ) × (o ≡ Some (v, n)) × (v ≤ limit) × (overlong bs n ≡ false) × (q ≡ p + n)
  judged_ok v q None e = absurd (let z : ◌≡◌ {A = ℕ} 0 1 = cc in let y : ⊥ = omega arith in y)
  judged_ok v q (Some t) e = ⊎_elim
      (λ b. let parts = and_parts (leb t.0 limit) (not (overlong bs t.1)) b in
      let g : judged limit p bs (Some t) ≡ Ok (t.0, p + t.1) = cond-true (fit limit bs t) _ _ b in
      let u : ◌≡◌ {A = ℕ × ℕ} (t.0, p + t.1) (v, q) = cc in
      let x : t.0 ≡ v = ap (λ (r : ℕ × ℕ). r.0) u in
      let y : p + t.1 ≡ q = ap (λ (r : ℕ × ℕ). r.1) u in (
        t.1,
        ap (λ i. Some (i, t.1)) x,
        omega (arith, leb-true t.0 limit parts.0),
        not-true (overlong bs t.1) parts.1,
        omega arith,
      ))
      (λ b. absurd (let g : judged limit p bs (Some t) ≡ Err (Unfit p) = cond-false (fit limit bs t) _ _ b in
      let z : ◌≡◌ {A = ℕ} 0 1 = cc in let y : ⊥ = omega arith in y))
      (cases_Bool (fit limit bs t))
