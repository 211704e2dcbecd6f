-- The bytes of a number.
use Rattle.std.proofs.Common.{◌≡◌, ℕ, ◌+◌, ◌/◌, ◌%◌, ◌<◌, ◌≤◌, ltb, [], ◌∷◌, ap, ◌∙◌, arith}
use Rattle.std.proofs.lemmas.Bool.{lt-ltb, le-ltb, cond-true, cond-false}
use Rattle.schedule.specs.Numbers.{spell}

-- one group below 128
pub spell_1 : (v : ℕ) → v < 128 → spell v ≡ v ∷ []
spell_1 v h = cond-true (ltb v 128) _ _ (lt-ltb v 128 h)

-- two groups below 16,384
pub spell_2 : (v : ℕ) → 128 ≤ v → v < 16384 → spell v ≡ (128 + v % 128) ∷ (v / 128) ∷ []
spell_2 v h k =
    cond-false (ltb v 128) _ _ (le-ltb v 128 h)
    ∙ ap (λ l. (128 + v % 128) ∷ l)
    (cond-true (ltb (v / 128) 128) _ _ (lt-ltb (v / 128) 128 (omega arith)))

-- three groups from there on
pub spell_3 : (v : ℕ) → 16384 ≤ v →
    spell v ≡ (128 + v % 128) ∷ (128 + v / 128 % 128) ∷ (v / 128 / 128) ∷ []
spell_3 v h =
    cond-false (ltb v 128) _ _ (le-ltb v 128 (omega arith))
    ∙ ap (λ l. (128 + v % 128) ∷ l)
    (cond-false (ltb (v / 128) 128) _ _ (le-ltb (v / 128) 128 (omega arith)))
