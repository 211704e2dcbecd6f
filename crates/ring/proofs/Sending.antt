-- The tray after a sending.
use Rattle.std.proofs.Common.{◌≡◌, ℕ, zero, suc, ◌+◌, ◌<◌, ◌≤◌, List, length, get_or, refl, ◌∙◌, arith}
use Rattle.std.proofs.lemmas.Grind.{common_steps, get_or-set_at}
use Rattle.std.proofs.lemmas.List.{get_or-set_other, length-set}
use Rattle.rows.specs.Letters.{no_letter, addressed, sent}
use Rattle.rows.specs.declared.letter.Letter.{Letter}

module _ (tray : List Letter) (used : ℕ) (l : Letter) where
  -- the tray stays as long
  pub sent_length : (n : ℕ) → length (sent tray used l n) ≡ length tray
  sent_length zero = refl
  sent_length (suc n) = length-set (sent tray used l n) (used + n) (addressed l n) ∙ sent_length n

  -- letters that were sent before stay
  pub sent_before : (n i : ℕ) → i < used → get_or (sent tray used l n) i no_letter ≡ get_or tray i no_letter
  sent_before zero i h = refl
  sent_before (suc n) i h =
      get_or-set_other (sent tray used l n) (used + n) i (addressed l n) no_letter (λ e. omega (arith, e, h)) ∙ sent_before n i h

  -- each of the n nodes has its letter
  pub sent_now : (n y : ℕ) → y < n → used + n ≤ length tray → get_or (sent tray used l n) (used + y) no_letter ≡ addressed l y
  sent_now zero y h k = absurd (omega arith)
  sent_now (suc n) y h k =
      let rest = sent_now n y in let long = sent_length n in grind (arith, common_steps, get_or-set_at)
