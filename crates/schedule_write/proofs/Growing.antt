-- Numbers written one after the other.
use Rattle.std.proofs.Common.{◌≡◌, ℕ, ◌+◌, ◌-◌, ◌<◌, ◌≤◌, List, [], ◌++◌, length, get_or, take, drop, sym, ap, ◌∙◌}
use Rattle.std.proofs.Common.{arith}
use Rattle.std.proofs.lemmas.List.{take_more, flat_map_more, length-append, append_assoc, take_at, drop_at}
use Rattle.std.proofs.lemmas.List.{append-nil, drop-drop, drop_all, length-drop, take_rest}
use Rattle.std.proofs.lemmas.List.Folds.{length-flat_map-take}
use borrow.Rule.Slice.PartMut.{put_mid}
use Rattle.schedule.specs.Numbers.{spell}
use Rattle.schedule.specs.Drafts.{spelled}

-- the bytes of one number more
spelled_more : (xs : List ℕ) (i : ℕ) → i < length xs →
    spelled (take (i + 1) xs) ≡ spelled (take i xs) ++ spell (get_or xs i 0)
spelled_more xs i h = ap spelled (take_more xs i 0 h) ∙ sym (flat_map_more spell [] (take i xs) (get_or xs i 0))

-- their length
pub length_more : (xs : List ℕ) (i : ℕ) → i < length xs →
    length (spelled (take (i + 1) xs)) ≡ length (spelled (take i xs)) + length (spell (get_or xs i 0))
length_more xs i h = ap length (spelled_more xs i h) ∙ length-append (spelled (take i xs)) (spell (get_or xs i 0))

-- where all the numbers have room, the next one has
pub room : (ns out : List ℕ) (i at : ℕ) → i < length ns → at ≡ length (spelled (take i ns)) →
    length (spelled ns) ≤ length out → length (spell (get_or ns i 0)) ≤ length (take (length out - at) (drop at out))
room ns out i at h e k =
    omega (arith, length-flat_map-take spell ns i 0 h, length-drop at out, ap length (take_rest out at))

-- with one number more at the front of what is left, what lies past the numbers is still as it was
pub one_more : (ns was out part : List ℕ) (i at : ℕ) → i < length ns → at ≡ length (spelled (take i ns)) →
    out ≡ spelled (take i ns) ++ drop at was →
    part ≡ spell (get_or ns i 0) ++ drop (length (spell (get_or ns i 0))) (take (length out - at) (drop at out)) →
    put_mid at (length out - at) out part ≡ spelled (take (i + 1) ns) ++ drop (at + length (spell (get_or ns i 0))) was
one_more ns was out part i at h a o w =
    let p = spelled (take i ns) in
    let s = spell (get_or ns i 0) in
    let k = length s in
    let rest = drop at out in
    let is : rest ≡ drop at was = ap (drop at) o ∙ drop_at p (drop at was) at (sym a) in
    let none : drop (length out - at) rest ≡ [] = drop_all _ rest (omega (arith, length-drop at out)) in
    let all : part ≡ s ++ drop (at + k) was =
    w ∙ (ap (λ l. s ++ drop k l) (take_rest out at ∙ is) ∙ ap (λ l. s ++ l) (drop-drop k at was)) in
    ap (λ l. take at out ++ (part ++ l)) none
    ∙ (ap (λ l. take at out ++ l) (append-nil part ∙ all)
    ∙ (ap (λ l. l ++ (s ++ drop (at + k) was)) (ap (take at) o ∙ take_at p (drop at was) at (sym a))
    ∙ (sym (append_assoc p s (drop (at + k) was))
    ∙ ap (λ l. l ++ drop (at + k) was) (sym (spelled_more ns i h)))))
