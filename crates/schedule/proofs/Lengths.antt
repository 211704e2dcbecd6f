-- How many bytes numbers take.
use Rattle.std.proofs.Common.{◌≡◌, ℕ, suc, ◌+◌, ◌/◌, ◌<◌, ◌≤◌, ltb, [], ◌∷◌, ◌++◌, length, arith}
use Rattle.std.proofs.lemmas.List.{length-append}
use Rattle.std.proofs.lemmas.Bool.{cond_both}
use Rattle.schedule.specs.Numbers.{spell}
use Rattle.schedule.specs.Drafts.{spelled}

-- no more than three groups
pub length_spell : (v : ℕ) → length (spell v) ≤ 3
length_spell v =
    cond_both (ltb v 128) _ _ (λ xs. length xs ≤ 3) (λ _. omega arith)
    (λ _. cond_both (ltb (v / 128) 128) _ _ (λ xs. suc (length xs) ≤ 3) (λ _. omega arith) (λ _. omega arith))

-- no fewer than one
pub spell_some : (v : ℕ) → 0 < length (spell v)
spell_some v = cond_both (ltb v 128) _ _ (λ xs. 0 < length xs) (λ _. omega arith) (λ _. omega arith)

-- the length of four numbers
pub length_4 : (a b c d : ℕ) → length (spelled (a ∷ b ∷ c ∷ d ∷ []))
    ≡ length (spell a) + length (spell b) + length (spell c) + length (spell d)
length_4 a b c d =
    let s = spell d ++ [] in
    let t = spell c ++ s in
    let u = spell b ++ t in
    omega (
      arith,
      length-append (spell a) u,
      length-append (spell b) t,
      length-append (spell c) s,
      length-append (spell d) [],
    )

-- the length of two numbers
pub length_2 : (a b : ℕ) → length (spelled (a ∷ b ∷ [])) ≡ length (spell a) + length (spell b)
length_2 a b = omega (arith, length-append (spell a) (spell b ++ []), length-append (spell b) [])
