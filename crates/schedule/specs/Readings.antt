-- What a reader does.
use Rattle.std.specs.Prelude.{◌≡◌, ℕ, ◌<◌, true, false, List, length, Ok, Err, Option, Result, MatchOption, MatchResult, ◌==◌}
use Rattle.schedule.specs.declared.reader.Reader.{Reader}
use Rattle.schedule.specs.declared.entry.Entry.{Entry}
use Rattle.schedule.specs.declared.fault.EntryFault.{EntryFault}
use Rattle.schedule.specs.Entries.{act_of, entry_at}

-- over the same bytes, a reader answered what stands at its place by their meaning, and went to the place after it
pub record Reads {V E : Type 0} (meaning : List ℕ → ℕ → Result (V × ℕ) E) (said : ℕ → Result (V × ℕ) E)
    (old new : Reader) : Type 0 where
  pub value : said new.place ≡ meaning old.bytes.now old.place
  pub bytes : new.bytes ≡ old.bytes

-- over the same bytes, the next entry ahead of a reader: none at the end; an entry, and the place after it; or a fault,
-- behind which nothing is ahead
pub record NextEntry (old : Reader) (next : Option (Result Entry EntryFault)) (new : Reader) : Type 0 where
  pub bytes : new.bytes ≡ old.bytes
  pub end : MatchOption next ((old.place == length old.bytes.now) ≡ true) (λ _. (old.place == length old.bytes.now) ≡ false)
  pub read : MatchOption next (new.place ≡ old.place) (λ r. MatchResult r
      (λ e. (entry_at old.bytes.now old.place ≡ Ok (act_of e, new.place)) × (old.place < new.place))
      (λ f. (entry_at old.bytes.now old.place ≡ Err f) × (new.place ≡ length old.bytes.now)))
