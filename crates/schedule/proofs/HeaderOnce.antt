-- A header has one spelling.
use Rattle.std.proofs.Common.{◌≡◌, ℕ, eqb, List, [], ◌∷◌, ◌++◌, drop, Ok, sym, ap, refl, ◌∙◌, subst, ⊎_elim, arith}
use Rattle.std.proofs.lemmas.List.{append_assoc}
use Rattle.std.proofs.lemmas.Bool.{eqb-true}
use Rattle.record.specs.RecordKind.{record_kind, no_kind}
use Rattle.record.specs.declared.record_kind.RecordKind.{RecordKind}
use Rattle.schedule.specs.declared.header.ChooserKind.{ChooserKind}
use Rattle.schedule.specs.declared.header.Header.{Header}
use Rattle.schedule.specs.declared.fault.EntryFault.TheVariants.{InNumber}
use Rattle.schedule.specs.Numbers.{spell, number_at}
use Rattle.schedule.specs.Kinds.{chooser_kind, kind_at, number_of_chooser, number_of_record}
use Rattle.schedule.specs.Headers.{header_at, header_of}
use Rattle.schedule.specs.Drafts.{spelled}
use Rattle.schedule.specs.Laws.{OneHeader}
use Rattle.schedule.proofs.ByteLists.{AllBytes}
use Rattle.schedule.proofs.Steps.{through_ok, cond_is, err_ok, same_ok, kind_ok}
use Rattle.schedule.proofs.Once.{read_once}

-- a kind of chooser goes by one number
chooser_number : (n : ℕ) (k : ChooserKind) → chooser_kind n ≡ Ok k → n ≡ number_of_chooser k
chooser_number n k e =
    ⊎_elim (λ h. eqb-true n 1 h.0 ∙ ap number_of_chooser (same_ok _ _ h.1)) (λ h.
    ⊎_elim (λ h. eqb-true n 2 h.0 ∙ ap number_of_chooser (same_ok _ _ h.1)) (λ h. absurd (err_ok (no_kind n) k h.1))
    (cond_is (eqb n 2) _ _ (Ok k) h.1))
    (cond_is (eqb n 1) _ _ (Ok k) e)

-- a kind of record goes by one number
record_number : (n : ℕ) (k : RecordKind) → record_kind n ≡ Ok k → n ≡ number_of_record k
record_number n k e =
    ⊎_elim (λ h. eqb-true n 1 h.0 ∙ ap number_of_record (same_ok _ _ h.1)) (λ h.
    ⊎_elim (λ h. eqb-true n 2 h.0 ∙ ap number_of_record (same_ok _ _ h.1)) (λ h.
    ⊎_elim (λ h. eqb-true n 3 h.0 ∙ ap number_of_record (same_ok _ _ h.1)) (λ h. absurd (err_ok (no_kind n) k h.1))
    (cond_is (eqb n 3) _ _ (Ok k) h.1))
    (cond_is (eqb n 2) _ _ (Ok k) h.1))
    (cond_is (eqb n 1) _ _ (Ok k) e)

-- one number, and then others
more : (k v : ℕ) (ks bytes : List ℕ) (p q r : ℕ) → drop p bytes ≡ spell v ++ drop q bytes → v ≡ k →
    drop q bytes ≡ spelled ks ++ drop r bytes → drop p bytes ≡ spelled (k ∷ ks) ++ drop r bytes
more k v ks bytes p q r e s f =
    e ∙ (ap (λ i. spell i ++ drop q bytes) s
    ∙ (ap (λ l. spell k ++ l) f ∙ sym (append_assoc (spell k) (spelled ks) (drop r bytes))))

-- the law, of what was read and the place after it
abbrev Spelled : List ℕ → ℕ → Header × ℕ → Type 0
Spelled bytes p x = OneHeader bytes p x.0 x.1

-- where a header is read, the bytes of its numbers stand
pub header_once : (bytes : List ℕ) (p : ℕ) (x : Header × ℕ) → AllBytes bytes → header_at bytes p ≡ Ok x →
    OneHeader bytes p x.0 x.1
header_once bytes p x f e =
    let g1 = through_ok InNumber (number_at _ bytes p) _ x e in
    let n : ℕ × ℕ = g1.0 in
    let g2 = through_ok InNumber (number_at _ bytes n.1) _ x g1.2 in
    let q : ℕ × ℕ = g2.0 in
    let g3 = through_ok (λ f. f) (kind_at chooser_kind bytes q.1) _ x g2.2 in
    let c : ChooserKind × ℕ = g3.0 in
    let g4 = through_ok (λ f. f) (kind_at record_kind bytes c.1) _ x g3.2 in
    let r : RecordKind × ℕ = g4.0 in
    let s : ◌≡◌ {A = Header × ℕ} (header_of n.0 q.0 c.0 r.0, r.1) x = same_ok _ _ g4.2 in
    let k3 = kind_ok chooser_kind bytes q.1 c g3.1 in
    let k4 = kind_ok record_kind bytes c.1 r g4.1 in
    let r1 = read_once _ p n.0 n.1 bytes (omega arith) f g1.1 in
    let r2 = read_once _ n.1 q.0 q.1 bytes (omega arith) f g2.1 in
    let r3 = read_once 255 q.1 k3.0 c.1 bytes (omega arith) f k3.1 in
    let r4 = read_once 255 c.1 k4.0 r.1 bytes (omega arith) f k4.1 in
    let cs = number_of_chooser c.0 in
    let rs = number_of_record r.0 in
    let m4 = more rs k4.0 [] bytes c.1 r.1 r.1 r4.0 (record_number k4.0 r.0 k4.2) refl in
    let m3 = more cs k3.0 (rs ∷ []) bytes q.1 c.1 r.1 r3.0 (chooser_number k3.0 c.0 k3.2) m4 in
    let m2 = more q.0 q.0 (cs ∷ rs ∷ []) bytes n.1 q.1 r.1 r2.0 refl m3 in
    subst (Spelled bytes p) s (more n.0 n.0 (q.0 ∷ cs ∷ rs ∷ []) bytes p n.1 r.1 r1.0 refl m2)
