-- The letters of a sending, in a ring's tray and in the blank letters of a node by itself.
use Rattle.std.proofs.Common.{◌≡◌, ℕ, zero, suc, ◌+◌, ◌<◌, ◌≤◌, Bool, eqb, List, [], ◌∷◌, ◌++◌, length, take, drop, set}
use Rattle.std.proofs.Common.{replicate, sym, refl, ap, ◌∙◌, zero-add, arith}
use Rattle.std.specs.List.{filter}
use Rattle.std.proofs.Math.ListN.{drop_of_length-le}
use Rattle.std.proofs.Math.Seq.{take-length, take-set-lt}
use Rattle.std.proofs.lemmas.List.{drop-append-le, drop-set-lt, length-replicate, length-take-le}
use Rattle.std.proofs.lemmas.List.{take_more_set}
use Rattle.std.proofs.lemmas.List.Elements.{filter-append}
use Rattle.rows.specs.Letters.{travelling, no_letter, addressed, sent}
use Rattle.rows.specs.declared.letter.Letter.{Letter}
use Rattle.ring.proofs.Sending.{sent_length}

-- the letters to the first n nodes, in turn
abbrev pub to_each : Letter → ℕ → List Letter
to_each l zero = []
to_each l (suc n) = to_each l n ++ addressed l n ∷ []

-- one that travels
abbrev pub travels : Letter → Bool
travels l = eqb l.mark travelling

-- all of those do
pub all_travel : (l : Letter) (n : ℕ) → filter travels (to_each l n) ≡ to_each l n
all_travel l zero = refl
all_travel l (suc n) =
    filter-append travels (to_each l n) (addressed l n ∷ []) ∙ ap (λ (xs : List Letter). xs ++ addressed l n ∷ []) (all_travel l n)

-- and no blank letter does
pub none_travels : (n : ℕ) → filter travels (replicate n no_letter) ≡ []
none_travels zero = refl
none_travels (suc n) = none_travels n

-- a sending puts them behind the used places
pub sent_behind : (tray : List Letter) (used : ℕ) (l : Letter) (n k : ℕ) → n ≤ k → used + k ≤ length tray
    → drop used (take (used + n) (sent tray used l n)) ≡ to_each l n
sent_behind tray used l zero k h room =
    drop_of_length-le (take (used + 0) tray) (omega (arith, length-take-le (used + 0) tray (omega (arith, room))))
sent_behind tray used l (suc n) k h room =
    let before : List Letter = sent tray used l n in
    let long : length before ≡ length tray = sent_length tray used l n in
    let next : used + suc n ≡ used + n + 1 = omega arith in
    let whole : length (take (used + n) before) ≡ used + n = length-take-le (used + n) before (omega (arith, long, room, h)) in
    ap (λ m. drop used (take m (set before (used + n) (addressed l n)))) next
    ∙ ap (drop used) (take_more_set before (used + n) (addressed l n) (omega (arith, long, room, h)))
    ∙ drop-append-le used (take (used + n) before) (addressed l n ∷ []) (omega (arith, whole))
    ∙ ap (λ (xs : List Letter). xs ++ addressed l n ∷ []) (sent_behind tray used l n k (omega (arith, h)) room)

-- in the tray of a ring, whatever becomes of a letter before them
pub sent_in_tray : (tray : List Letter) (used place : ℕ) (l y : Letter) (n : ℕ) → place < used → used + n ≤ length tray
    → drop used (take (used + n) (set (sent tray used l n) place y)) ≡ to_each l n
sent_in_tray tray used place l y n before room =
    ap (drop used) (take-set-lt (used + n) (sent tray used l n) place y (omega (arith, before)))
    ∙ drop-set-lt used (take (used + n) (sent tray used l n)) place y before
    ∙ sent_behind tray used l n n (omega arith) room

-- where nothing is sent, nothing is behind them
pub nothing_behind : (tray : List Letter) (used : ℕ) → used ≤ length tray → drop used (take used tray) ≡ []
nothing_behind tray used room = drop_of_length-le (take used tray) (omega (arith, length-take-le used tray room))

-- the blank letters of a node by itself are all written over
pub sent_alone : (l : Letter) (n : ℕ) → filter travels (sent (replicate n no_letter) 0 l n) ≡ to_each l n
sent_alone l n =
    let blanks : List Letter = replicate n no_letter in
    let size : length blanks ≡ n = length-replicate n no_letter in
    let long : length (sent blanks 0 l n) ≡ 0 + n = sent_length blanks 0 l n ∙ size ∙ sym (zero-add n) in
    let whole : sent blanks 0 l n ≡ to_each l n =
    sym (ap (λ m. take m (sent blanks 0 l n)) (sym long) ∙ take-length (sent blanks 0 l n))
    ∙ sent_behind blanks 0 l n n (omega arith) (omega (arith, size)) in
    ap (filter travels) whole ∙ all_travel l n
