-- A whole schedule and a whole day read back.
use Rattle.std.proofs.Common.{◌≡◌, ℕ, ◌+◌, ◌<◌, ◌≤◌, List, [], ◌∷◌, ◌++◌, length, drop, map, Some, None, Ok, Err, Option, Result}
use Rattle.std.proofs.Common.{sym, refl, ap, ◌∙◌, subst, arith, zero-add}
use Rattle.std.specs.Prelude.{All}
use Rattle.std.specs.Borrow.{Bor}
use Rattle.std.proofs.lemmas.List.{drop_at, length-append, length-drop}
use Rattle.std.proofs.lemmas.List.Elements.{All-head, All-tail}
use Rattle.std.proofs.lemmas.Bool.Decides.{nat_tests}
use Rattle.schedule.specs.declared.draft.Draft.{Draft}
use Rattle.schedule.specs.declared.entry.Entry.{Entry}
use Rattle.schedule.specs.declared.fault.EntryFault.{EntryFault}
use Rattle.schedule.specs.declared.reader.Reader.{Reader}
use Rattle.schedule.specs.Entries.{Act, act_of, entry_at}
use Rattle.schedule.specs.Drafts.{spelling, act_drafted}
use Rattle.schedule.specs.Readings.{NextEntry}
use Rattle.schedule.specs.Laws.{header_spelling}
use Rattle.schedule.specs.ReadingBack.{IsWritable, schedule_of, ReadAs, Says}
use Rattle.schedule.specs.ReadingBack.{EntriesReadBack, ReadIsAhead, DayReadsBack}
use Rattle.schedule.proofs.Back.{after}
use Rattle.schedule.proofs.EntryBack.{entry_back}
use Rattle.schedule.proofs.HeaderBack.{header_back}
use Rattle.schedule.proofs.Onward.{entry_on}
use Rattle.schedule.proofs.Steps.{err_ok, same_ok}

-- drafts whose bytes are all that stands from a place on are read there
entries_back : (ds : List Draft) (bytes : List ℕ) (p : ℕ) → All IsWritable ds → p ≤ length bytes →
    drop p bytes ≡ schedule_of ds → ReadAs bytes p (map act_drafted ds)
entries_back [] bytes p w l e = omega (arith, ap length e, length-drop p bytes)
entries_back (d ∷ ds) bytes p w l e =
    let s = spelling d in
    let ys = schedule_of ds in
    let q = p + length s in
    let h = All-head IsWritable d ds w in
    let read = entry_back ys bytes p d h.0 h.1 e in
    let fits : q ≤ length bytes = omega (arith, ap length e, length-drop p bytes, length-append s ys) in
    let on : p < q = entry_on p bytes (act_drafted d, q) read in
    (q, omega arith, read, entries_back ds bytes q (All-tail IsWritable d ds w) fits (after s ys bytes p e))

-- whatever stands before them
pub entries_read_back : EntriesReadBack
entries_read_back before ds w =
    let s = schedule_of ds in
    entries_back ds (before ++ s) (length before) w (omega (arith, length-append before s))
    (drop_at before s (length before) refl)

-- at the end of the bytes there is no next entry
none_next : (r new : Reader) (next : Option (Result Entry EntryFault)) → r.place ≡ length r.bytes.now →
    NextEntry r next new → next ≡ None
none_next r new None e n = refl
none_next r new (Some x) e n = absurd (let end = n.end in let z : ⊥ = grind (arith, nat_tests) in z)

-- where an entry stands it is the next one, and the reader goes to the place after it
one_next : (r new : Reader) (next : Option (Result Entry EntryFault)) (a : Act) (q : ℕ) → r.place < length r.bytes.now →
    entry_at r.bytes.now r.place ≡ Ok (a, q) → NextEntry r next new → Says next a × (new.place ≡ q)
one_next r new None a q l e n =
    absurd (let end = n.end in let z : ⊥ = grind (arith, nat_tests) in z)
one_next r new (Some (Ok x)) a q l e n =
    let s : ◌≡◌ {A = Act × ℕ} (act_of x, new.place) (a, q) = same_ok _ _ (sym n.read.0 ∙ e) in
    ((x, refl, ap (λ (y : Act × ℕ). y.0) s), ap (λ (y : Act × ℕ). y.1) s)
one_next r new (Some (Err f)) a q l e n = absurd (err_ok f (a, q) (sym n.read.0 ∙ e))

-- entry after entry, a reader has ahead what the bytes read as
pub read_is_ahead : ReadIsAhead
read_is_ahead r [] e = λ next new n. none_next r new next e n
read_is_ahead r (a ∷ acts) e = λ next new n.
    let q : ℕ = e.0 in
    let one = one_next r new next a q e.1 e.2 n in
    let rest : ReadAs new.bytes.now q acts = subst (λ (b : Bor (List ℕ)). ReadAs b.now q acts) (sym n.bytes) e.3 in
    (one.0, read_is_ahead new acts (subst (λ (i : ℕ). ReadAs new.bytes.now i acts) (sym one.1) rest))

-- the entries of a day begin where its header ends
pub day_reads_back : DayReadsBack
day_reads_back h ds hn hq w =
    let s = header_spelling h in
    let ys = schedule_of ds in
    let p = length s in (
      header_back h ys (s ++ ys) 0 hn hq refl ∙ ap (λ i. Ok (h, i)) (zero-add p),
      entries_back ds (s ++ ys) p w (omega (arith, length-append s ys)) (drop_at s ys p refl),
    )
