-- The bytes of a header read back.
use Rattle.std.proofs.Common.{◌≡◌, ℕ, ◌+◌, ◌≤◌, List, [], ◌∷◌, ◌++◌, length, drop, Ok, refl, ap, arith}
use Rattle.std.proofs.lemmas.List.{drop_at}
use Rattle.record.specs.RecordKind.{record_kind}
use Rattle.record.specs.declared.record_kind.RecordKind.{RecordKind}
use Rattle.record.specs.declared.record_kind.RecordKind.TheVariants.{Kitty, Rounds, Both}
use Rattle.schedule.specs.declared.header.ChooserKind.{ChooserKind}
use Rattle.schedule.specs.declared.header.ChooserKind.TheVariants.{FirstCome, LowestOf}
use Rattle.schedule.specs.declared.header.Header.{Header}
use Rattle.schedule.specs.Numbers.{spell}
use Rattle.schedule.specs.Kinds.{chooser_kind, number_of_chooser, number_of_record}
use Rattle.schedule.specs.Headers.{header_at}
use Rattle.schedule.specs.Laws.{header_spelling}
use Rattle.schedule.specs.ReadingBack.{HeaderReadsBack}
use Rattle.schedule.proofs.Back.{next}
use Rattle.schedule.proofs.Lengths.{length_4}

-- the number of a kind of chooser is that kind's, and small
chooser_known : (k : ChooserKind) → (chooser_kind (number_of_chooser k) ≡ Ok k) × (number_of_chooser k ≤ 255)
chooser_known FirstCome = (refl, omega arith)
chooser_known LowestOf = (refl, omega arith)

-- the number of a kind of record is that kind's, and small
record_known : (k : RecordKind) → (record_kind (number_of_record k) ≡ Ok k) × (number_of_record k ≤ 255)
record_known Kitty = (refl, omega arith)
record_known Rounds = (refl, omega arith)
record_known Both = (refl, omega arith)

-- a header whose bytes stand at a place is read there
pub header_back : (h : Header) (ys bytes : List ℕ) (p : ℕ) → h.n ≤ 65535 → h.q ≤ 65535 →
    drop p bytes ≡ header_spelling h ++ ys → header_at bytes p ≡ Ok (h, p + length (header_spelling h))
header_back h ys bytes p hn hq e =
    let c = number_of_chooser h.chooser in
    let r = number_of_record h.«record» in
    let cs = chooser_known h.chooser in
    let rs = record_known h.«record» in
    let n1 = next 65535 h.n (h.q ∷ c ∷ r ∷ []) ys bytes p hn (omega arith) e in
    let p1 = p + length (spell h.n) in
    let n2 = next 65535 h.q (c ∷ r ∷ []) ys bytes p1 hq (omega arith) n1.1 in
    let p2 = p1 + length (spell h.q) in
    let n3 = next 255 c (r ∷ []) ys bytes p2 cs.1 (omega arith) n2.1 in
    let p3 = p2 + length (spell c) in
    let n4 = next 255 r [] ys bytes p3 rs.1 (omega arith) n3.1 in
    let place : p3 + length (spell r) ≡ p + length (header_spelling h) = omega (arith, length_4 h.n h.q c r) in
    simp (n1.0, n2.0, n3.0, cs.0, n4.0, rs.0) (ap (λ i. Ok (h, i)) place)

-- whatever stands before a header and after it
pub header_reads_back : HeaderReadsBack
header_reads_back h before after hn hq =
    header_back h after (before ++ (header_spelling h ++ after)) (length before) hn hq
    (drop_at before (header_spelling h ++ after) (length before) refl)
