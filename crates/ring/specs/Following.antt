-- Catching a record up in parts: with one node, at any points of a day, each time from the mark that was answered last.
use Rattle.std.specs.Prelude.{◌≡◌, ℕ, ◌<◌, List, [], ◌++◌, length, Ok, Err, Result}
use Rattle.record.specs.Kind.{Kind, Laws}
use Rattle.chooser.specs.Meaning.{Meaning}
use Rattle.rows.specs.declared.refusal.Refusal.{Refusal}
use Rattle.rows.specs.declared.size.RingSize.{RingSize}
use Rattle.ring.specs.World.{World}
use Rattle.ring.specs.CatchUp.{played, since, CatchesUp}
use Rattle.ring.specs.Day.{Day}
use Rattle.ring.specs.Show.{sheet_of}

-- A record follows a node over a day that goes on from the world w₀: it begins at mark 0, telling the list l₀, and
-- catches up as often as one likes, with any calls in between. So at the world w it has a mark and tells a list.
pub data Follows (K : Kind) (node : ℕ) (l₀ : List ℕ) (w₀ : World) (M₀ : Meaning) : World → Meaning → ℕ → List ℕ → Type 0 where
  at_mark_0 : Follows K node l₀ w₀ M₀ w₀ M₀ 0 l₀
  goes_on : (w : World) (M : Meaning) (mark : ℕ) (l : List ℕ) (v : World) (N : Meaning) →
      Follows K node l₀ w₀ M₀ w M mark l → Day K w M v N → Follows K node l₀ w₀ M₀ v N mark l
  catches_up : (w : World) (M : Meaning) (mark : ℕ) (l : List ℕ) (next : ℕ) (l' : List ℕ) →
      Follows K node l₀ w₀ M₀ w M mark l → CatchesUp K w node mark (Ok next) l l' → Follows K node l₀ w₀ M₀ w M next l'

-- the node's sheet as it was at the last catching up; empty before the first
abbrev pub sheet_then : {K : Kind} {node : ℕ} {l₀ : List ℕ} {w₀ : World} {M₀ : Meaning} {w : World} {M : Meaning} {mark : ℕ}
    {l : List ℕ} → Follows K node l₀ w₀ M₀ w M mark l → List ℕ
sheet_then at_mark_0 = []
sheet_then (goes_on w M mark l v N f d) = sheet_then f
sheet_then {node = node} (catches_up w M mark l next l' f c) = sheet_of w node

-- the messages that were played, at one catching up after the other
abbrev pub played_so_far : {K : Kind} {node : ℕ} {l₀ : List ℕ} {w₀ : World} {M₀ : Meaning} {w : World} {M : Meaning} {mark : ℕ}
    {l : List ℕ} → Follows K node l₀ w₀ M₀ w M mark l → List ℕ
played_so_far at_mark_0 = []
played_so_far (goes_on w M mark l v N f d) = played_so_far f
played_so_far {node = node} (catches_up w M mark l next l' f c) = played_so_far f ++ since w node mark

-- What catching up from that mark answers, and makes of the list l that a record tells.
pub record UpToDate (K : Kind) (w : World) (node : ℕ) (l₀ : List ℕ) (mark : ℕ) (l : List ℕ) (a : Result ℕ Refusal) (l' : List ℕ)
    : Type 0 where
  -- It is not refused, and the new mark is the end of the sheet.
  pub accepted : a ≡ Ok (length (sheet_of w node))
  -- It plays what stands behind the mark, and nothing else.
  pub new_only : l' ≡ played K w.book l (since w node mark)
  -- The list is then what the whole sheet makes of the first one,
  pub whole : l' ≡ played K w.book l₀ (sheet_of w node)
  -- and what catching up from mark 0, in one go, would leave.
  pub at_once : (b : Result ℕ Refusal) (x : List ℕ) → CatchesUp K w node 0 b l₀ x → x ≡ l'

-- What holds of a record that has followed a node to the world w.
pub record InParts {K : Kind} {node : ℕ} {l₀ : List ℕ} {w₀ : World} {M₀ : Meaning} {w : World} {M : Meaning} {mark : ℕ}
    {l : List ℕ} (f : Follows K node l₀ w₀ M₀ w M mark l) : Type 0 where
  -- The sheet has only grown: it is what it was at the last catching up, and then what was added since.
  pub grown : sheet_of w node ≡ sheet_then f ++ since w node mark
  -- All that stood there then has been played, in that order, each entry at one catching up only.
  pub played_once : played_so_far f ≡ sheet_then f
  -- The mark says how much that was,
  pub mark_is : mark ≡ length (sheet_then f)
  -- and the record tells what that makes of the first list, by the commands that the book has now.
  pub tells : l ≡ played K w.book l₀ (sheet_then f)
  -- Catching up now brings the record up to date.
  pub next : (a : Result ℕ Refusal) (l' : List ℕ) → CatchesUp K w node mark a l l' → UpToDate K w node l₀ mark l a l'

-- After an accepted start this holds of every record of the day's kind that follows any node of the ring, crashed or not.
abbrev pub EveryRecordFollows : RingSize → Result (Unit {0}) Refusal → World → Meaning → Type 0
EveryRecordFollows z (Ok u) v M =
    (K : Kind) → Laws K → (node : ℕ) → node < z.n → (l₀ : List ℕ) → (w : World) (N : Meaning) (mark : ℕ) (l : List ℕ) →
    (f : Follows K node l₀ v M w N mark l) → InParts f
EveryRecordFollows z (Err e) v M = Unit {0}
