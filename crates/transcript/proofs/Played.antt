-- The end of a loop that answers line after line.
use Rattle.std.proofs.Common.{◌≡◌, ℕ, List, [], ◌++◌, sym, ap, ◌∙◌}
use Rattle.std.proofs.lemmas.List.{append-nil}
use Rattle.record.specs.Kind.{Taking}
use Rattle.transcript.specs.Playing.{answers_text, list_after}

module _ (T : Taking) (lines : List (List ℕ)) (whole : List ℕ) where
  -- every line is answered
  pub text_over : (n : ℕ) (s : List ℕ) → lines ≡ [] → s ++ answers_text T n lines ≡ whole → s ≡ whole
  text_over n s e k = sym (append-nil s) ∙ ap (λ (z : List (List ℕ)). s ++ answers_text T n z) (sym e) ∙ k

  -- every line is taken
  pub told_over : (l : List ℕ) → lines ≡ [] → list_after T l lines ≡ whole → l ≡ whole
  told_over l e k = ap (list_after T l) (sym e) ∙ k
