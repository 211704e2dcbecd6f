-- From the pairs that the search looks at to all pairs.
use Rattle.std.proofs.Common.{◌≡◌, ℕ, ◌<◌, Bool, true, false, not, ◌&&◌, eqb, List, sym, ap, ◌∙◌}
use Rattle.std.proofs.Common.{⊎_elim}
use mathlib.Core.Bool.{and_comm}
use Rattle.record.specs.declared.command.Command.{Command}
use Rattle.rows.specs.Masks.{has}
use Rattle.rows.specs.Conflicts.{command_of, clash, conflicted, clashes_with}
use Rattle.rows.proofs.Anys.{any_true, any_false}
use Rattle.std.proofs.lemmas.Bool.{and_left, and_right, not_from_true, eq-eqb, ne_eqb, cases_order, cases_eq}

-- whether two numbers are equal does not depend on their order
pub eqb_swap : (i j : ℕ) → eqb i j ≡ eqb j i
eqb_swap i j =
    ⊎_elim (λ (e : i ≡ j). eq-eqb i j e ∙ sym (eq-eqb j i (sym e)))
    (λ (e : i ≡ j → ⊥). ne_eqb i j e ∙ sym (ne_eqb j i (λ d. e (sym d)))) (cases_eq i j)

module _ (conflicts : Command → Command → Bool) (book : List Command) (x : ℕ) where
  -- a message does not clash with itself
  same_out : (i j : ℕ) → i ≡ j → clash conflicts book x i j ≡ false
  same_out i j e = and_right _ _ (and_left _ _ (not_from_true _ (eq-eqb i j e)))

  -- a clash is a conflict in the set
  pub conflicted_true : (i j : ℕ) → i < 64 → j < 64 → clash conflicts book x i j ≡ true → conflicted conflicts book x ≡ true
  conflicted_true i j hi hj e =
      any_true (clashes_with conflicts book x) 64 i hi (any_true (clash conflicts book x i) 64 j hj e)

  -- and without one there is none
  conflicted_false : ((i j : ℕ) → i < 64 → j < 64 → clash conflicts book x i j ≡ false) → conflicted conflicts book x ≡ false
  conflicted_false none =
      any_false (clashes_with conflicts book x) 64 (λ i hi. any_false (clash conflicts book x i) 64 (λ j hj. none i j hi hj))

  module _ (law : (a b : Command) → conflicts a b ≡ conflicts b a) where
    -- a clash is one from either side
    clash_swap : (i j : ℕ) → clash conflicts book x i j ≡ clash conflicts book x j i
    clash_swap i j =
        ap (λ t. t && (not (eqb i j) && conflicts (command_of book i) (command_of book j))) (and_comm (has x i) (has x j))
        ∙ ap (λ t. (has x j && has x i) && (not t && conflicts (command_of book i) (command_of book j))) (eqb_swap i j)
        ∙ ap (λ t. (has x j && has x i) && (not (eqb j i) && t)) (law _ _)

    -- it is enough to look at the pairs with the lower message last
    pub none_below : ((a : ℕ) → a < 64 → (b : ℕ) → b < a → clash conflicts book x a b ≡ false)
        → conflicted conflicts book x ≡ false
    none_below below = conflicted_false (λ i j hi hj.
        ⊎_elim (λ e. same_out i j e)
        (⊎_elim (λ h. clash_swap i j ∙ below j hj i h) (λ h. below i hi j h))
        (cases_order i j))
