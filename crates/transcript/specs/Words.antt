-- A line as its words.
use Rattle.std.specs.Prelude.{ℕ, Bool, true, cond, not, ◌||◌, List, [], ◌∷◌, ◌==◌}
use Rattle.transcript.specs.Cuts.{onto}

-- a space, a tab or a carriage return
abbrev pub is_blank : ℕ → Bool
is_blank b = b == 32 || (b == 9 || b == 13)

-- a byte of a word
abbrev pub in_word : ℕ → Bool
in_word b = not (is_blank b)

-- whether a word that stands before this text is over
abbrev pub word_over : List ℕ → Bool
word_over [] = true
word_over (b ∷ bs) = is_blank b

-- a byte of a word put before a text with these words: as a word, or onto the first of them
abbrev pub with_byte : ℕ → List ℕ → List (List ℕ) → List (List ℕ)
with_byte b bs words = cond (word_over bs) ((b ∷ []) ∷ words) (onto b words)

-- the words of a line: the runs of bytes that are not blank
abbrev pub words_of : List ℕ → List (List ℕ)
words_of [] = []
words_of (b ∷ bs) = cond (is_blank b) (words_of bs) (with_byte b bs (words_of bs))
