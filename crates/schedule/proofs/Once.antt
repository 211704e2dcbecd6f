-- A number has one spelling.
use Rattle.std.proofs.Common.{◌≡◌, ℕ, zero, suc, ◌+◌, ◌-◌, ◌*◌, ◌/◌, ◌%◌, ◌<◌, ◌≤◌, false, List, [], ◌∷◌, ◌++◌, length, get_or}
use Rattle.std.proofs.Common.{drop, Some, Ok, sym, refl, ap, ◌∙◌, ⊎_elim, arith}
use Rattle.std.proofs.lemmas.Bool.{cases_lt}
use Rattle.std.proofs.lemmas.List.{drop_at, drop-drop}
use Rattle.std.proofs.ByRecursion.{All-drop}
use Rattle.schedule.specs.Numbers.{front, below, spell, overlong, number_at}
use Rattle.schedule.proofs.ByteLists.{AllBytes}
use Rattle.schedule.proofs.Fronts.{front_last, front_more, more_nil, more_step, more_none}
use Rattle.schedule.proofs.Judged.{number_judged, judged_ok}
use Rattle.schedule.proofs.Spellings.{spell_1, spell_2, spell_3}
use Rattle.schedule.proofs.Large.{last_set, longer_large}

-- these bytes begin with the spelling of the number at their front
abbrev Begins : List ℕ → ℕ × ℕ → Type 0
Begins bs t = bs ≡ spell t.0 ++ drop t.1 bs

-- bytes that are put together from a spelling and a rest begin with it
begins : (t : ℕ × ℕ) (s rest : List ℕ) → spell t.0 ≡ s → t.1 ≡ length s → Begins (s ++ rest) t
begins t s rest e n =
    sym (ap (λ q. q ++ drop t.1 (s ++ rest)) e ∙ ap (λ l. s ++ l) (drop_at s rest t.1 (sym n)))

-- there is no number in no bytes
none_in_nil : (t : ℕ × ℕ) → front [] ≡ Some t → ⊥
none_in_nil t e = let z : ◌≡◌ {A = ℕ} 0 1 = cc in omega arith

-- a number of one group
once_1 : (a : ℕ) (bs : List ℕ) (t : ℕ × ℕ) → a < 128 → front (a ∷ bs) ≡ Some t → Begins (a ∷ bs) t
once_1 a bs t h e =
    let f = front_last a bs h in
    let v : t.0 ≡ a = cc in
    let w : t.1 ≡ 1 = cc in
    begins t (a ∷ []) bs (ap spell v ∙ spell_1 a h) w

-- what is not 0 is at least 1
at_least : (n : ℕ) → (n ≡ 0 → ⊥) → 1 ≤ n
at_least zero z = absurd (z refl)
at_least (suc n) z = omega arith

-- a number of two groups, no longer than need be
once_2 : (a b : ℕ) (bs : List ℕ) (t : ℕ × ℕ) → 128 ≤ a → a < 256 → b < 128 →
    front (a ∷ b ∷ bs) ≡ Some t → overlong (a ∷ b ∷ bs) t.1 ≡ false → Begins (a ∷ b ∷ bs) t
once_2 a b bs t h k l e o =
    let f : front (a ∷ b ∷ bs) ≡ Some (a % 128 + 128 * b, 2) =
    front_more a (b ∷ bs) h ∙ ap (below (a % 128)) (front_last b bs l) in
    let v : t.0 ≡ a % 128 + 128 * b = cc in
    let w : t.1 ≡ 2 = cc in
    let some : 1 ≤ b = at_least b (λ z. last_set (a ∷ b ∷ bs) t.1 o (omega arith)
    (ap (λ i. get_or (a ∷ b ∷ bs) (i - 1) 0) w ∙ z)) in
    let x : 128 + t.0 % 128 ≡ a = omega arith in
    let y : t.0 / 128 ≡ b = omega arith in
    begins t (a ∷ b ∷ []) bs
    (spell_2 t.0 (omega arith) (omega arith)
    ∙ (ap (λ i. i ∷ (t.0 / 128) ∷ []) x ∙ ap (λ i. a ∷ i ∷ []) y)) w

-- a group with its top bit
with_top : (q b c : ℕ) → q ≡ b % 128 + 128 * c → 128 ≤ b → b < 256 → 128 + q % 128 ≡ b
with_top q b c e h k = omega arith

-- a number of three groups, no longer than need be
once_3 : (a b c : ℕ) (bs : List ℕ) (t : ℕ × ℕ) → 128 ≤ a → a < 256 → 128 ≤ b → b < 256 → c < 128 →
    front (a ∷ b ∷ c ∷ bs) ≡ Some t → overlong (a ∷ b ∷ c ∷ bs) t.1 ≡ false → Begins (a ∷ b ∷ c ∷ bs) t
once_3 a b c bs t h k l m j e o =
    let f : front (a ∷ b ∷ c ∷ bs) ≡ Some (a % 128 + 128 * (b % 128 + 128 * c), 3) =
    front_more a (b ∷ c ∷ bs) h
    ∙ ap (below (a % 128)) (front_more b (c ∷ bs) l ∙ ap (below (b % 128)) (front_last c bs j)) in
    let v : t.0 ≡ a % 128 + 128 * (b % 128 + 128 * c) = cc in
    let w : t.1 ≡ 3 = cc in
    let some : 1 ≤ c = at_least c (λ z. last_set (a ∷ b ∷ c ∷ bs) t.1 o (omega arith)
    (ap (λ i. get_or (a ∷ b ∷ c ∷ bs) (i - 1) 0) w ∙ z)) in
    let x : 128 + t.0 % 128 ≡ a = omega arith in
    let r : t.0 / 128 ≡ b % 128 + 128 * c = omega arith in
    let y : 128 + t.0 / 128 % 128 ≡ b = with_top (t.0 / 128) b c r l m in
    let z : t.0 / 128 / 128 ≡ c = omega arith in
    begins t (a ∷ b ∷ c ∷ []) bs (spell_3 t.0 (omega arith)
    ∙ (ap (λ i. i ∷ (128 + t.0 / 128 % 128) ∷ (t.0 / 128 / 128) ∷ []) x
    ∙ (ap (λ i. a ∷ i ∷ (t.0 / 128 / 128) ∷ []) y ∙ ap (λ i. a ∷ b ∷ i ∷ []) z))) w

module _ (t : ℕ × ℕ) (small : t.0 < 65536) where
  -- a small number, no longer than need be, has no more than three groups
  too_long : (bs : List ℕ) → front bs ≡ Some t → 3 < t.1 → overlong bs t.1 ≡ false → Begins bs t
  too_long bs e h o = absurd (let y : ⊥ = omega (arith, longer_large bs t e h o) in y)

  -- a small number, no longer than need be, is spelled so
  once : (bs : List ℕ) → AllBytes bs → front bs ≡ Some t → overlong bs t.1 ≡ false → Begins bs t
  once [] f e o = absurd (none_in_nil t e)
  once (a ∷ []) f e o = ⊎_elim
      (λ h. once_1 a [] t h e)
      (λ h. too_long (a ∷ []) e (more_step 2 a [] h (more_nil 2) t e) o)
      (cases_lt a 128)
  once (a ∷ b ∷ []) f e o = ⊎_elim
      (λ h. once_1 a (b ∷ []) t h e)
      (λ h. ⊎_elim
      (λ i. once_2 a b [] t h f.0 i e o)
      (λ i. too_long (a ∷ b ∷ []) e (more_step 2 a (b ∷ []) h (more_step 1 b [] i (more_nil 1)) t e) o)
      (cases_lt b 128))
      (cases_lt a 128)
  once (a ∷ b ∷ c ∷ bs) f e o = ⊎_elim
      (λ h. once_1 a (b ∷ c ∷ bs) t h e)
      (λ h. ⊎_elim
      (λ i. once_2 a b (c ∷ bs) t h f.0 i e o)
      (λ i. ⊎_elim
      (λ j. once_3 a b c bs t h f.0 i f.1.0 j e o)
      (λ j. too_long (a ∷ b ∷ c ∷ bs) e
      (more_step 2 a (b ∷ c ∷ bs) h (more_step 1 b (c ∷ bs) i (more_step 0 c bs j (more_none bs))) t e) o)
      (cases_lt c 128))
      (cases_lt b 128))
      (cases_lt a 128)

-- where v is read, the spelling of v stands
pub read_once : (limit p v q : ℕ) (bytes : List ℕ) → limit < 65536 → AllBytes bytes →
    number_at limit bytes p ≡ Ok (v, q) → (drop p bytes ≡ spell v ++ drop q bytes) × (v ≤ limit)
read_once limit p v q bytes l f e =
    let bs = drop p bytes in
    let g = judged_ok limit p bs v q (front bs) (sym (number_judged limit bytes p) ∙ e) in
    let n : ℕ = g.0 in (
      once (v, n) (omega (arith, g.2)) bs (All-drop (λ b. b < 256) p bytes f) g.1 g.3
          ∙ ap (λ i. spell v ++ i) (drop-drop n p bytes ∙ ap (λ i. drop i bytes) (sym g.4)),
      g.2,
    )
