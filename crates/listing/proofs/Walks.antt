-- A walk that lists entry after entry.
use Rattle.std.proofs.Common.{◌≡◌, ℕ, zero, suc, ◌+◌, ◌<◌, ◌≤◌, false, eqb, List, [], ◌++◌, length, Ok, Err, Result, Some}
use Rattle.std.proofs.Common.{sym, ap}
use Rattle.std.proofs.Common.{◌∙◌, arith}
use Rattle.std.proofs.lemmas.List.{append_assoc, append-nil}
use Rattle.std.proofs.lemmas.Bool.{cond-false, eqb-false}
use Rattle.schedule.specs.declared.fault.EntryFault.{EntryFault}
use Rattle.schedule.specs.declared.entry.Entry.{Entry}
use Rattle.schedule.specs.declared.reader.Reader.{Reader}
use Rattle.schedule.specs.Entries.{Act, act_of, entry_at}
use Rattle.schedule.specs.Readings.{NextEntry}
use Rattle.listing.specs.Lines.{act_line, fault_line, with_rest, lines_from, listing_of}

-- the text so far and the lines that are left make the whole, where enough entries are allowed for
pub record Walked (bytes : List ℕ) (p : ℕ) (text whole : List ℕ) : Type 0 where
  pub within : p ≤ length bytes
  pub most : ℕ
  pub enough : length bytes ≤ p + most
  pub sum : text ++ lines_from most bytes p ≡ whole

-- at the start every line is left
pub walked_none : (bytes : List ℕ) (p : ℕ) (text : List ℕ) → p ≡ 0 → text ≡ [] → Walked bytes p text (listing_of bytes)
walked_none bytes p text e t = record {
  within = omega arith;
  most = length bytes;
  enough = omega arith;
  sum = ap (λ x. x ++ lines_from (length bytes) bytes p) t ∙ ap (lines_from (length bytes) bytes) e;
}

module _ (bytes : List ℕ) (p : ℕ) (text text' whole : List ℕ) (left : eqb p (length bytes) ≡ false) where
  -- before the end, the lines begin with what is read there
  lines_next : (k : ℕ) → lines_from (suc k) bytes p ≡ with_rest (lines_from k bytes) (entry_at bytes p)
  lines_next k = cond-false (eqb p (length bytes)) _ _ left

  -- an entry more
  walked_on : (a : Act) (q : ℕ) → p < q → q ≤ length bytes → entry_at bytes p ≡ Ok (a, q) →
      text' ≡ text ++ act_line a → Walked bytes p text whole → Walked bytes q text' whole
  walked_on a q h l e t w = from w.most w.enough w.sum
    where
      from : (k : ℕ) → length bytes ≤ p + k → text ++ lines_from k bytes p ≡ whole → Walked bytes q text' whole
      from zero n s = absurd (let z : ⊥ = eqb-false p (length bytes) left (omega (arith, w.within)) in z)
      from (suc k) n s = record {
        within = l;
        most = k;
        enough = omega arith;
        sum = ap (λ x. x ++ lines_from k bytes q) t
            ∙ (append_assoc text (act_line a) (lines_from k bytes q)
            ∙ (ap (λ x. text ++ x) (sym (lines_next k ∙ ap (with_rest (lines_from k bytes)) e)) ∙ s));
      }

  -- a fault
  walked_out : (f : EntryFault) → entry_at bytes p ≡ Err f → text' ≡ text ++ fault_line f →
      Walked bytes p text whole → text' ≡ whole
  walked_out f e t w = from w.most w.enough w.sum
    where
      from : (k : ℕ) → length bytes ≤ p + k → text ++ lines_from k bytes p ≡ whole → text' ≡ whole
      from zero n s = absurd (let z : ⊥ = eqb-false p (length bytes) left (omega (arith, w.within)) in z)
      from (suc k) n s =
          t ∙ (ap (λ x. text ++ x) (sym (lines_next k ∙ ap (with_rest (lines_from k bytes)) e)) ∙ s)

-- the line of what was read
abbrev pub read_line : Result Entry EntryFault → List ℕ
read_line (Ok e) = act_line (act_of e)
read_line (Err f) = fault_line f

-- one line more; behind a fault nothing is left
pub walked_next : (r : Result Entry EntryFault) (old new : Reader) (bytes text text' whole : List ℕ) →
    NextEntry old (Some r) new → old.bytes.now ≡ bytes → text' ≡ text ++ read_line r →
    Walked bytes old.place text whole → (new.bytes.now ≡ bytes) × Walked bytes new.place text' whole
walked_next (Ok e) old new bytes text text' whole n b t w =
    let same : new.bytes.now ≡ bytes = ap (λ x. x.now) n.bytes ∙ b in
    let left : eqb old.place (length bytes) ≡ false = sym (ap (λ x. eqb old.place (length x)) b) ∙ n.end in
    let read : entry_at bytes old.place ≡ Ok (act_of e, new.place) = sym (ap (λ x. entry_at x old.place) b) ∙ n.read.0 in (
      same,
      walked_on bytes old.place text text' whole left (act_of e) new.place n.read.1
          (omega (arith, new.within, ap length same)) read t w,
    )
walked_next (Err f) old new bytes text text' whole n b t w =
    let same : new.bytes.now ≡ bytes = ap (λ x. x.now) n.bytes ∙ b in
    let left : eqb old.place (length bytes) ≡ false = sym (ap (λ x. eqb old.place (length x)) b) ∙ n.end in
    let read : entry_at bytes old.place ≡ Err f = sym (ap (λ x. entry_at x old.place) b) ∙ n.read.0 in
    let end : new.place ≡ length bytes = n.read.1 ∙ ap length b in (
      same,
      record {
        within = omega arith;
        most = 0;
        enough = omega arith;
        sum = append-nil text' ∙ walked_out bytes old.place text text' whole left f read t w;
      },
    )
