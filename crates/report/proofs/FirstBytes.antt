-- The first bytes of an input, and that its report depends on no more.
use Rattle.std.proofs.Common.{◌≡◌, ℕ, Bool, List, [], ◌++◌, length, take, Some, None, Option, IfSome}
use Rattle.std.proofs.Common.{sym, ap, ◌∙◌, subst, ⊎_elim, arith}
use Rattle.std.specs.Io.Take.{take_limit, take_inner, take_remaining}
use Rattle.std.specs.Option.{option_map}
use Rattle.std.specs.declared.io.traits.Take.{Take}
use Rattle.std.proofs.lemmas.List.{take_all, length-take-le}
use Rattle.std.proofs.lemmas.Bool.{lt-ltb, cases_lt}
use Rattle.report.specs.Reports.{ByLength, Reported}

-- known bytes cut at n, all of them put behind no others
cut_at : (n : ℕ) (known : Option (List ℕ)) (old new : List ℕ) → old ≡ [] →
    IfSome (option_map (take n) known) (λ xs. new ≡ old ++ xs) → IfSome known (λ bytes. new ≡ take n bytes)
cut_at n None old new o e = tt
cut_at n (Some bytes) old new o e = e ∙ ap (λ l. l ++ take n bytes) o

-- all that is read of an input cut at n is its first n bytes
pub read_first : {R : Type 0} (remaining : R → Option (List ℕ)) (t : Take R) (input : R) (n : ℕ) (old new : List ℕ) →
    take_limit t ≡ n → take_inner t ≡ input → old ≡ [] → IfSome (take_remaining remaining t) (λ xs. new ≡ old ++ xs) →
    IfSome (remaining input) (λ bytes. new ≡ take n bytes)
read_first {R = R} remaining t input n old new l i o e =
    subst (λ (r : R). IfSome (remaining r) (λ bytes. new ≡ take n bytes)) i
    (subst (λ (m : ℕ). IfSome (remaining (take_inner t)) (λ bytes. new ≡ take m bytes)) l
    (cut_at (take_limit t) (remaining (take_inner t)) old new o e))

-- what is reported of the first bytes is reported of all
first_bytes_tell : (bytes s : List ℕ) → Reported (take 4097 bytes) s → Reported bytes s
first_bytes_tell bytes s h = ⊎_elim
    (λ short. subst (λ (b : List ℕ). Reported b s) (take_all 4097 bytes (omega arith)) h)
    (λ long. let size : length (take 4097 bytes) ≡ 4097 = length-take-le 4097 bytes long in
    let told = subst (λ (b : Bool). ByLength b (take 4097 bytes) s) (lt-ltb 4096 (length (take 4097 bytes)) (omega arith)) h in
    subst (λ (b : Bool). ByLength b bytes s) (sym (lt-ltb 4096 (length bytes) (omega arith))) told)
    (cases_lt (length bytes) 4097)

-- where the bytes of the input are known, what is reported of the first of them is reported of it
pub report_of_first : (known : Option (List ℕ)) (first s : List ℕ) → IfSome known (λ bytes. first ≡ take 4097 bytes) →
    Reported first s → IfSome known (λ bytes. Reported bytes s)
report_of_first None first s e h = tt
report_of_first (Some bytes) first s e h = first_bytes_tell bytes s (subst (λ (b : List ℕ). Reported b s) e h)
