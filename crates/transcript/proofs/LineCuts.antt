-- The first line is what stands before the first newline.
use Rattle.std.proofs.Common.{◌≡◌, ℕ, ◌+◌, ◌<◌, ◌≤◌}
use Rattle.std.proofs.Common.{List, [], ◌∷◌, length, take, drop, Some, None, ◌∙◌, arith}
use Rattle.std.proofs.lemmas.Bool.Decides.{nat_tests}
use Rattle.std.proofs.lemmas.Grind.{common_steps}
use Rattle.std.proofs.lemmas.List.{take_all, drop_all}
use Rattle.std.specs.List.{position, position_or_len}
use Rattle.transcript.proofs.Firsts.{none_first, first_at}
use Rattle.transcript.specs.Cuts.{onto}
use Rattle.transcript.specs.Lines.{ends_line, lines_of}

-- how many bytes the first line has
abbrev size : List ℕ → ℕ
size xs = position_or_len ends_line xs

-- a text that is not empty is its first line, and behind a newline the other lines
lines_cut : (b : ℕ) (bs : List ℕ) → lines_of (b ∷ bs) ≡
    take (size (b ∷ bs)) (b ∷ bs) ∷ lines_of (drop (1 + size (b ∷ bs)) (b ∷ bs))
lines_cut b [] = grind (arith, common_steps)
lines_cut b (d ∷ ds) = grind (arith, common_steps, lines_cut d ds)

-- the first line goes up to the first newline
pub first_line : (xs : List ℕ) (n : ℕ) → 0 < length xs → Some n ≡ position ends_line xs →
    lines_of xs ≡ take n xs ∷ lines_of (drop (n + 1) xs)
first_line [] n h e = absurd (omega arith)
first_line (b ∷ bs) n h e =
    let same : n + 1 ≡ 1 + size (b ∷ bs) = let first = first_at ends_line (b ∷ bs) e in omega arith in
    rw (same, (first_at ends_line (b ∷ bs) e).0) (lines_cut b bs)

-- a text without a newline is one line
pub last_line : (xs : List ℕ) → 0 < length xs → None ≡ position ends_line xs → lines_of xs ≡ xs ∷ []
last_line [] h e = absurd (omega arith)
last_line (b ∷ bs) h e =
    let none : length (b ∷ bs) ≤ size (b ∷ bs) = none_first ends_line (b ∷ bs) e in
    let line : take (size (b ∷ bs)) (b ∷ bs) ≡ b ∷ bs = take_all (size (b ∷ bs)) (b ∷ bs) none in
    let rest : drop (1 + size (b ∷ bs)) (b ∷ bs) ≡ [] = drop_all (1 + size (b ∷ bs)) (b ∷ bs) (omega arith) in
    lines_cut b bs ∙ cc

-- each line took a byte
onto_count : (b : ℕ) (ls : List (List ℕ)) → length (onto b ls) ≤ length ls + 1
onto_count b [] = omega arith
onto_count b (l ∷ ls) = omega arith

pub lines_count : (xs : List ℕ) → length (lines_of xs) ≤ length xs
lines_count [] = omega arith
lines_count (b ∷ bs) = grind (arith, nat_tests, lines_count bs, onto_count b (lines_of bs))
