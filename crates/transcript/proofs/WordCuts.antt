-- The first word stands behind the blanks, and goes up to the next blank.
use Rattle.std.proofs.Common.{◌≡◌, ℕ, ◌+◌, ◌-◌, ◌<◌, Bool, true, false, cond, not}
use Rattle.std.proofs.Common.{List, [], ◌∷◌, length, get_or, take, drop, Some, None, sym, refl, ap, ◌∙◌, arith}
use Rattle.std.proofs.Common.{length-drop}
use Rattle.std.proofs.Math.Numerals.{one-add}
use Rattle.std.proofs.lemmas.Bool.{cond-false, not-true}
use Rattle.std.proofs.lemmas.List.{drop_all, take_rest, get_or-drop}
use Rattle.std.proofs.lemmas.List.Sums.{passes_at_first}
use Rattle.std.specs.List.{position, position_or_len}
use Rattle.std.specs.Option.{unwrap_or}
use Rattle.transcript.proofs.Fewer.{fewer_left}
use Rattle.transcript.proofs.Firsts.{none_first, first_at, or_length}
use Rattle.transcript.specs.Cuts.{onto}
use Rattle.transcript.specs.Words.{is_blank, in_word, with_byte, words_of}

-- how long the word at the front is
abbrev size : List ℕ → ℕ
size xs = position_or_len is_blank xs

-- how many blanks stand at the front
abbrev blanks : List ℕ → ℕ
blanks xs = position_or_len in_word xs

-- blanks at the front make no word
words_behind : (xs : List ℕ) → words_of xs ≡ words_of (drop (blanks xs) xs)
words_behind [] = refl
words_behind (b ∷ bs) = at (is_blank b) refl (words_behind bs)
  where
    at : (v : Bool) → is_blank b ≡ v → words_of bs ≡ words_of (drop (blanks bs) bs) →
        cond v (words_of bs) (with_byte b bs (words_of bs)) ≡
        words_of (drop (cond (not (not v)) (1 + blanks bs) 0) (b ∷ bs))
    at true e behind = simp one-add behind
    at false e behind = sym (cond-false (is_blank b) (words_of bs) (with_byte b bs (words_of bs)) e)

-- a byte that is not blank begins a word, which goes up to the next blank
word_cut : (b : ℕ) (bs : List ℕ) → is_blank b ≡ false →
    words_of (b ∷ bs) ≡ (b ∷ take (size bs) bs) ∷ words_of (drop (size bs) bs)
word_cut b [] e = cond-false (is_blank b) [] ((b ∷ []) ∷ []) e
word_cut b (d ∷ ds) e =
    cond-false (is_blank b) (words_of (d ∷ ds)) _ e ∙ at (is_blank d) refl (word_cut d ds)
  where
    at : (v : Bool) → is_blank d ≡ v →
        (is_blank d ≡ false → words_of (d ∷ ds) ≡ (d ∷ take (size ds) ds) ∷ words_of (drop (size ds) ds)) →
        cond v ((b ∷ []) ∷ words_of (d ∷ ds)) (onto b (words_of (d ∷ ds))) ≡
        (b ∷ take (cond (not v) (1 + size ds) 0) (d ∷ ds)) ∷ words_of (drop (cond (not v) (1 + size ds) 0) (d ∷ ds))
    at true k next = refl
    at false k next = simp one-add (ap (onto b) (next k))

-- the same of a text
first_word : (xs : List ℕ) → 0 < length xs → is_blank (get_or xs 0 0) ≡ false →
    words_of xs ≡ take (size xs) xs ∷ words_of (drop (size xs) xs)
first_word [] h e = absurd (omega arith)
first_word (b ∷ bs) h e =
    let one : size (b ∷ bs) ≡ 1 + size bs = ap (λ v. cond (not v) (1 + size bs) 0) e in
    rw one (simp one-add (word_cut b bs e))

-- the word that begins at i, in the text ys from there on
pub word_behind : (xs ys : List ℕ) (i : ℕ) → Some i ≡ position in_word xs → ys ≡ take (length xs - i) (drop i xs) →
    words_of xs ≡ take (unwrap_or (position is_blank ys) (length ys)) ys ∷
    words_of (drop (unwrap_or (position is_blank ys) (length ys)) ys)
word_behind xs ys i e behind =
    let first = first_at in_word xs e in
    let text : ys ≡ drop i xs = behind ∙ take_rest xs i in
    let some : 0 < length ys = rw text (omega (arith, length-drop i xs)) in
    let begins : not (is_blank (get_or xs i 0)) ≡ true =
    rw first.0 (passes_at_first in_word xs 0 (rw (← first.0) first.1)) in
    let front : get_or ys 0 0 ≡ get_or xs i 0 = rw (text, get_or-drop) (ap (λ k. get_or xs k 0) (omega arith)) in
    let word : is_blank (get_or ys 0 0) ≡ false = rw front (not-true _ begins) in
    words_behind xs ∙ ap (λ k. words_of (drop k xs)) (sym first.0) ∙ ap words_of (sym text)
    ∙ rw (or_length is_blank ys) (first_word ys some word)

-- a line of blanks has no word
pub none_behind : (xs : List ℕ) → None ≡ position in_word xs → words_of xs ≡ []
none_behind xs e =
    words_behind xs ∙ ap words_of (drop_all (blanks xs) xs (none_first in_word xs e))

-- what an iterator over words needs
pub ruleset word_steps = (word_behind, none_behind, fewer_left)
