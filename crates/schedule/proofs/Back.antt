-- The bytes of a number read back.
use Rattle.std.proofs.Common.{◌≡◌, ℕ, ◌+◌, ◌*◌, ◌/◌, ◌%◌, ◌<◌, ◌≤◌, false, List, ◌∷◌, ◌++◌, length, drop, Some, Ok, sym, refl, ap}
use Rattle.std.proofs.Common.{◌∙◌, ⊎_elim, arith}
use Rattle.std.proofs.lemmas.List.{append_assoc, drop-drop, drop_at}
use Rattle.std.proofs.lemmas.Bool.{cases_lt, ne_eqb, and_from, le-leb, not_from_false}
use Rattle.schedule.specs.Numbers.{front, below, spell, overlong, judged, number_at}
use Rattle.schedule.specs.Drafts.{spelled}
use Rattle.schedule.proofs.Fronts.{front_last, front_more}
use Rattle.schedule.proofs.Judged.{number_judged, judged_fit}
use Rattle.schedule.proofs.Spellings.{spell_1, spell_2, spell_3}

-- the number at the front of its bytes, by the number of its groups
front_spell : (v : ℕ) (ys : List ℕ) → v < 65536 → front (spell v ++ ys) ≡ Some (v, length (spell v))
front_spell v ys h = ⊎_elim
    (λ a. let e = spell_1 v a in
    ap (λ s. front (s ++ ys)) e ∙ (front_last v ys a ∙ ap (λ s. Some (v, length s)) (sym e)))
    (λ a. ⊎_elim
    (λ b. let e = spell_2 v a b in
    let low = 128 + v % 128 in
    let s : low % 128 + 128 * (v / 128) ≡ v = omega arith in
    ap (λ s. front (s ++ ys)) e
    ∙ (front_more low (v / 128 ∷ ys) (omega arith)
    ∙ (ap (below (low % 128)) (front_last (v / 128) ys (omega arith))
    ∙ (ap (λ x. Some (x, 2)) s ∙ ap (λ s. Some (v, length s)) (sym e)))))
    (λ b. let e = spell_3 v b in
    let low = 128 + v % 128 in
    let mid = 128 + v / 128 % 128 in
    let high = v / 128 / 128 in
    let s : low % 128 + 128 * (mid % 128 + 128 * high) ≡ v = omega arith in
    ap (λ s. front (s ++ ys)) e
    ∙ (front_more low (mid ∷ high ∷ ys) (omega arith)
    ∙ (ap (below (low % 128)) (front_more mid (high ∷ ys) (omega arith)
    ∙ ap (below (mid % 128)) (front_last high ys (omega arith)))
    ∙ (ap (λ x. Some (x, 3)) s ∙ ap (λ s. Some (v, length s)) (sym e)))))
    (cases_lt v 16384))
    (cases_lt v 128)

-- no spelling is longer than need be, by the number of its groups
spell_tight : (v : ℕ) (ys : List ℕ) → v < 65536 → overlong (spell v ++ ys) (length (spell v)) ≡ false
spell_tight v ys h = ⊎_elim
    (λ a. ap (λ s. overlong (s ++ ys) (length s)) (spell_1 v a))
    (λ a. ⊎_elim
    (λ b. ap (λ s. overlong (s ++ ys) (length s)) (spell_2 v a b) ∙ ne_eqb (v / 128) 0 (λ e. omega arith))
    (λ b. ap (λ s. overlong (s ++ ys) (length s)) (spell_3 v b) ∙ ne_eqb (v / 128 / 128) 0 (λ e. omega arith))
    (cases_lt v 16384))
    (cases_lt v 128)

-- a number whose bytes stand at a place is read there
read_back : (limit v p : ℕ) (bytes ys : List ℕ) → v ≤ limit → limit < 65536 → drop p bytes ≡ spell v ++ ys →
    number_at limit bytes p ≡ Ok (v, p + length (spell v))
read_back limit v p bytes ys h l e =
    number_judged limit bytes p
    ∙ (ap (λ bs. judged limit p bs (front bs)) e
    ∙ (ap (judged limit p (spell v ++ ys)) (front_spell v ys (omega arith))
    ∙ judged_fit limit p (spell v ++ ys) (v, length (spell v))
    (and_from _ _ (le-leb v limit h) (not_from_false (overlong (spell v ++ ys) (length (spell v)))
    (spell_tight v ys (omega arith))))))

-- what stands past a front
pub after : (s ys bytes : List ℕ) (p : ℕ) → drop p bytes ≡ s ++ ys → drop (p + length s) bytes ≡ ys
after s ys bytes p e =
    sym (drop-drop (length s) p bytes) ∙ (ap (drop (length s)) e ∙ drop_at s ys (length s) refl)

-- the first of several numbers is read, and the others stand after it
pub next : (limit v : ℕ) (vs ys bytes : List ℕ) (p : ℕ) → v ≤ limit → limit < 65536 →
    drop p bytes ≡ spelled (v ∷ vs) ++ ys →
    (number_at limit bytes p ≡ Ok (v, p + length (spell v))) × (drop (p + length (spell v)) bytes ≡ spelled vs ++ ys)
next limit v vs ys bytes p h l e =
    let g : drop p bytes ≡ spell v ++ (spelled vs ++ ys) = e ∙ append_assoc (spell v) (spelled vs) ys in
    (read_back limit v p bytes (spelled vs ++ ys) h l g, after (spell v) (spelled vs ++ ys) bytes p g)
