-- A record that follows a node over a day is brought up to date by each catching up, and plays each entry once.
use Rattle.std.proofs.Common.{◌≡◌, ℕ, ◌+◌, ◌<◌, ◌≤◌, List, [], ◌∷◌, ◌++◌, length, drop, Ok, None, Option, Result, sym, refl, ap}
use Rattle.std.proofs.Common.{◌∙◌, subst, ap₂, inl, inr, arith}
use Rattle.std.proofs.Math.Seq.{drop-append_seam}
use Rattle.std.proofs.lemmas.List.{append-nil, append_assoc, length-append}
use Rattle.record.specs.Kind.{Kind, Laws}
use Rattle.record.specs.declared.command.Command.{Command}
use Rattle.chooser.specs.Meaning.{Meaning, Sound}
use Rattle.protocol.specs.Lists.{Mem}
use Rattle.protocol.proofs.Lists.{mem_left, mem_right}
use Rattle.rows.specs.Causes.{answer, unless}
use Rattle.rows.specs.Conflicts.{command_of}
use Rattle.rows.specs.declared.refusal.Refusal.{Refusal}
use Rattle.rows.specs.declared.size.RingSize.{RingSize}
use Rattle.ring.specs.World.{World}
use Rattle.ring.specs.Start.{Starts}
use Rattle.ring.specs.Show.{sheet_of}
use Rattle.ring.specs.CatchUp.{played, since, catch_up_refusal, CatchesUp}
use Rattle.ring.specs.Following.{Follows, at_mark_0, goes_on, catches_up, sheet_then, played_so_far, UpToDate, InParts}
use Rattle.ring.specs.Following.{EveryRecordFollows}
use Rattle.ring.proofs.DayJoined.{day_joined}
use Rattle.ring.proofs.Lasting.{day_lasts}
use Rattle.ring.proofs.Seeing.{Joined}
use Rattle.ring.proofs.SheetsPlayed.{catch_up_allowed, from_mark_0}
use Rattle.ring.proofs.StartJoined.{start_joined, each_start}

-- ---- playing in parts

-- playing two lists in a row is playing one after the other
played_append : (K : Kind) (book : List Command) (l xs ys : List ℕ)
    → played K book l (xs ++ ys) ≡ played K book (played K book l xs) ys
played_append K book l [] ys = refl
played_append K book l (x ∷ xs) ys = played_append K book (K.taking.after l (command_of book x)) xs ys

-- by two books with the same commands for a list it comes to the same
played_same : (K : Kind) (a b : List Command) (l xs : List ℕ) → ((m : ℕ) → Mem m xs → command_of b m ≡ command_of a m)
    → played K a l xs ≡ played K b l xs
played_same K a b l [] h = refl
played_same K a b l (m ∷ ms) h =
    ap (λ (c : Command). played K a (K.taking.after l c) ms) (sym (h m (inl refl)))
    ∙ played_same K a b (K.taking.after l (command_of b m)) ms (λ i k. h i (inr k))

-- what stands behind a first part is what is left from its length on
behind : (xs part rest : List ℕ) (mark : ℕ) → xs ≡ part ++ rest → mark ≡ length part → xs ≡ part ++ drop mark xs
behind xs part rest mark e k =
    e ∙ ap (λ (ys : List ℕ). part ++ ys)
    (sym (ap₂ (λ (i : ℕ) (ys : List ℕ). drop i ys) k e ∙ drop-append_seam part rest))

-- equal answers have equal marks
same_mark : (x y : ℕ) → ◌≡◌ {A = Result ℕ Refusal} (Ok x) (Ok y) → x ≡ y
same_mark x y e = cc

module _ {K : Kind} {z : RingSize} {need : ℕ} {low : 1 ≤ need} {high : need ≤ z.q} (laws : Laws K) (node : ℕ)
    (in_ring : node < z.n) where
  -- ---- one catching up

  -- from a mark behind a first part of the sheet
  module _ {w : World} {M : Meaning} (j : Joined K z need low high w M) (part : List ℕ) (mark : ℕ)
      (grown : sheet_of w node ≡ part ++ since w node mark) (mark_is : mark ≡ length part) where
    -- it is not refused
    free : catch_up_refusal K w node mark ≡ None
    free =
        let whole : length (sheet_of w node) ≡ length part + length (since w node mark) =
        ap length grown ∙ length-append part (since w node mark) in
        catch_up_allowed laws j node in_ring mark (omega (arith, mark_is, whole))
        (λ m h. subst (λ (xs : List ℕ). Mem m xs) (sym grown) (mem_right m part (since w node mark) h))

    -- so it brings a record up to date that has played that part
    up_to_date : (l₀ l : List ℕ) → l ≡ played K w.book l₀ part → (a : Result ℕ Refusal) (l' : List ℕ)
        → CatchesUp K w node mark a l l' → UpToDate K w node l₀ mark l a l'
    up_to_date l₀ l tells a l' c =
        let rest = since w node mark in
        let new = c.1 ∙ ap (λ (o : Option Refusal). unless o (played K w.book l rest) l) free in
        let whole = new
        ∙ ap (λ (t : List ℕ). played K w.book t rest) tells
        ∙ sym (played_append K w.book l₀ part rest)
        ∙ ap (played K w.book l₀) (sym grown) in
        record {
          accepted = c.0 ∙ ap (λ (o : Option Refusal). answer o (length (sheet_of w node))) free;
          new_only = new;
          whole = whole;
          at_once = λ b x d. d.1
              ∙ ap (λ (o : Option Refusal). unless o (played K w.book l₀ (sheet_of w node)) l₀)
              (from_mark_0 laws j node in_ring)
              ∙ sym whole;
        }

  -- ---- one after the other

  module _ {l₀ : List ℕ} {w₀ : World} {M₀ : Meaning} (start : Joined K z need low high w₀ M₀) where
    -- the world that a record has followed a node to is joined
    joined_then : {w : World} {M : Meaning} {mark : ℕ} {l : List ℕ} → Follows K node l₀ w₀ M₀ w M mark l
        → Joined K z need low high w M
    joined_then at_mark_0 = start
    joined_then (goes_on w M mark l v N f d) = day_joined laws (joined_then f) v N d
    joined_then (catches_up w M mark l next l' f c) = joined_then f

    -- with what was to be shown of the next catching up
    in_parts : {w : World} {M : Meaning} {mark : ℕ} {l : List ℕ} (f : Follows K node l₀ w₀ M₀ w M mark l)
        → sheet_of w node ≡ sheet_then f ++ since w node mark → played_so_far f ≡ sheet_then f → mark ≡ length (sheet_then f)
        → l ≡ played K w.book l₀ (sheet_then f) → InParts f
    in_parts {mark = mark} {l = l} f grown once mark_is tells = record {
      grown = grown;
      played_once = once;
      mark_is = mark_is;
      tells = tells;
      next = up_to_date (joined_then f) (sheet_then f) mark grown mark_is l₀ l tells;
    }

    -- over any calls, and one catching up after the other
    followed : {w : World} {M : Meaning} {mark : ℕ} {l : List ℕ} (f : Follows K node l₀ w₀ M₀ w M mark l) → InParts f
    followed at_mark_0 = in_parts at_mark_0 refl refl refl refl
    followed (goes_on w M mark l v N f d) =
        let p = followed f in
        let j = joined_then f in
        let lasts = day_lasts laws j v N d in
        let more = lasts.sheets node in_ring in
        let longer : sheet_of v node ≡ sheet_then f ++ (since w node mark ++ more.0) =
        more.1 ∙ ap (λ (xs : List ℕ). xs ++ more.0) p.grown ∙ append_assoc (sheet_then f) (since w node mark) more.0 in
        let known : (m : ℕ) → Mem m (sheet_then f) → m < w.ring.messages = λ m h.
        (j.ok.nodes node in_ring).sheet.known m
        (subst (λ (xs : List ℕ). Mem m xs) (sym p.grown) (mem_left m (sheet_then f) (since w node mark) h)) in
        in_parts (goes_on w M mark l v N f d)
        (behind (sheet_of v node) (sheet_then f) (since w node mark ++ more.0) mark longer p.mark_is)
        p.played_once p.mark_is
        (p.tells ∙ played_same K w.book v.book l₀ (sheet_then f) (λ m h. lasts.book.commands m (known m h)))
    followed (catches_up w M mark l next l' f c) =
        let p = followed f in
        let u = p.next (Ok next) l' c in
        let end : next ≡ length (sheet_of w node) = same_mark next (length (sheet_of w node)) u.accepted in
        in_parts (catches_up w M mark l next l' f c)
        (behind (sheet_of w node) (sheet_of w node) [] next (sym (append-nil (sheet_of w node))) end)
        (ap (λ (xs : List ℕ). xs ++ since w node mark) p.played_once ∙ sym p.grown) end u.whole

-- ---- every start

-- whatever a start answers and leaves
pub every_record_follows : (z : RingSize) (u v : World) (M : Meaning) (r : Result (Unit {0}) Refusal) → Sound M
    → Starts z u M r v → EveryRecordFollows z r v M
every_record_follows z u v M r sound h = each_start (λ a w. EveryRecordFollows z a w M) z u v M r h
    (λ e K laws node l l₀ w N mark t f. followed laws node l (start_joined z u M e sound K laws) f) (λ e. tt)
