-- Playing a sheet from its beginning is never refused, and two sheets with the same messages leave one list.
use Rattle.std.proofs.Common.{◌≡◌, ℕ, ◌<◌, ◌≤◌, Bool, true, false, cond, not, ◌&&◌, ltb, List, [], ◌∷◌, length, None, Option}
use Rattle.std.proofs.Common.{Result, sym, refl, ap, ◌∙◌, subst, inl, inr, arith}
use Rattle.std.proofs.lemmas.Bool.{cases_lt, cases_eq, and_from, not_from_true, ne_eqb, lt-ltb, le-ltb, cond-true, cond-false}
use Rattle.record.specs.Kind.{Kind, Laws}
use Rattle.chooser.specs.Meaning.{Meaning}
use Rattle.protocol.specs.Lists.{Mem, fold}
use Rattle.protocol.specs.Promises.{Machine}
use Rattle.protocol.proofs.Promises.{same_result}
use Rattle.rows.specs.Causes.{answer, unless}
use Rattle.rows.specs.Conflicts.{command_of}
use Rattle.rows.specs.declared.refusal.Refusal.{Refusal}
use Rattle.rows.specs.declared.size.RingSize.{RingSize}
use Rattle.ring.specs.World.{World}
use Rattle.ring.specs.Show.{sheet_of, show_refusal}
use Rattle.ring.specs.CatchUp.{all_playable, played, since, catch_up_refusal, CatchesUp}
use Rattle.ring.specs.Promises.{conflict, NeverUnplayable, SameSheetsSameList}
use Rattle.ring.proofs.Allowed.{passed, both_passed, show_allowed}
use Rattle.ring.proofs.Seeing.{Fine, Joined}

-- ---- the machine that takes the commands of messages

module _ {K : Kind} {z : RingSize} {w : World} (laws : Laws K) (f : Fine K z w) where
  -- the list that message m makes of a list; a number that is no message leaves it
  after : List ℕ → ℕ → List ℕ
  after l m = cond (ltb m w.ring.messages) (K.taking.after l (command_of w.book m)) l

  -- a message makes what its command makes
  after_message : (l : List ℕ) (m : ℕ) → m < w.ring.messages → after l m ≡ K.taking.after l (command_of w.book m)
  unfolding after
  after_message l m h = cond-true _ _ _ (lt-ltb m w.ring.messages h)

  -- any other number leaves the list
  after_other : (l : List ℕ) (m : ℕ) → w.ring.messages ≤ m → after l m ≡ l
  unfolding after
  after_other l m h = cond-false _ _ _ (le-ltb m w.ring.messages h)

  -- a list that can be told becomes one that can
  after_tells : (l : List ℕ) (m : ℕ) → K.taking.tells l ≡ true → K.taking.tells (after l m) ≡ true
  after_tells l m t = elim (cases_lt m w.ring.messages) [
    | inl h ↦ ap K.taking.tells (after_message l m h) ∙ laws.steady.keeps l (command_of w.book m) t (f.lawful m h)
    | inr h ↦ ap K.taking.tells (after_other l m h) ∙ t
  ]

  -- two messages, one after the other, are their commands, one after the other
  after_two : (l : List ℕ) (a b : ℕ) → a < w.ring.messages → b < w.ring.messages → after (after l a) b
      ≡ K.taking.after (K.taking.after l (command_of w.book a)) (command_of w.book b)
  after_two l a b h k =
      after_message (after l a) b k ∙ ap (λ (x : List ℕ). K.taking.after x (command_of w.book b)) (after_message l a h)

  -- different messages that do not conflict have commands that do not
  commands_free : (a b : ℕ) → (a ≡ b → ⊥) → conflict K w a b ≡ false
      → K.conflicts (command_of w.book a) (command_of w.book b) ≡ false
  commands_free a b d c =
      ap (λ (same : Bool). not same && K.conflicts (command_of w.book a) (command_of w.book b)) (sym (ne_eqb a b d)) ∙ c

  -- messages that do not conflict commute
  after_commutes : (l : List ℕ) (a b : ℕ) → K.taking.tells l ≡ true → conflict K w a b ≡ false
      → after (after l a) b ≡ after (after l b) a
  after_commutes l a b t c = elim (cases_lt a w.ring.messages) [
    | inl h ↦ elim (cases_lt b w.ring.messages) [
      | inl k ↦ elim (cases_eq a b) [
        | inl e ↦ subst (λ (m : ℕ). after (after l a) m ≡ after (after l m) a) e refl
        | inr d ↦ after_two l a b h k
            ∙ laws.commute l (command_of w.book a) (command_of w.book b) t (f.lawful a h) (f.lawful b k)
            (commands_free a b d c)
            ∙ sym (after_two l b a k h)
      ]
      | inr k ↦ after_other (after l a) b k ∙ sym (ap (λ (x : List ℕ). after x a) (after_other l b k))
    ]
    | inr h ↦ ap (λ (x : List ℕ). after x b) (after_other l a h) ∙ sym (after_other (after l b) a h)
  ]

  -- so they make a machine
  machine : Machine (conflict K w)
  machine = record { after = after; fits = K.taking.tells; keeps = after_tells; commute = after_commutes }

  -- playing messages is what the machine comes to
  folded_is_played : (sheet l : List ℕ) → ((m : ℕ) → Mem m sheet → m < w.ring.messages)
      → fold after l sheet ≡ played K w.book l sheet
  folded_is_played [] l known = refl
  folded_is_played (m ∷ ms) l known =
      ap (λ (x : List ℕ). fold after x ms) (after_message l m (known m (inl refl)))
      ∙ folded_is_played ms (K.taking.after l (command_of w.book m)) (λ a h. known a (inr h))

  -- and they can all be played
  messages_playable : (sheet : List ℕ) → ((m : ℕ) → Mem m sheet → m < w.ring.messages)
      → all_playable K w.book w.ring.messages sheet ≡ true
  messages_playable [] known = refl
  messages_playable (m ∷ ms) known =
      let h = known m (inl refl) in
      and_from _ _ (and_from _ _ (lt-ltb m w.ring.messages h) (f.lawful m h)) (messages_playable ms (λ a k. known a (inr k)))

module _ {K : Kind} {z : RingSize} {need : ℕ} {low : 1 ≤ need} {high : need ≤ z.q} {w : World} {M : Meaning}
    (laws : Laws K) (j : Joined K z need low high w M) where
  -- nothing refuses a catching up from a mark within the sheet, as long as what it plays stands there
  pub catch_up_allowed : (r : ℕ) → r < z.n → (mark : ℕ) → mark ≤ length (sheet_of w r)
      → ((m : ℕ) → Mem m (since w r mark) → Mem m (sheet_of w r)) → catch_up_refusal K w r mark ≡ None
  catch_up_allowed r l mark within there =
      both_passed (show_refusal w r) _ (show_allowed j.fine r l)
      (passed (ltb (length (sheet_of w r)) mark) _ _ (le-ltb (length (sheet_of w r)) mark within)
      (passed (not (all_playable K w.book w.ring.messages (since w r mark))) _ _
      (not_from_true _ (messages_playable laws j.fine (since w r mark) (λ m h. (j.ok.nodes r l).sheet.known m (there m h)))) refl))

  -- so not from mark 0
  pub from_mark_0 : (r : ℕ) → r < z.n → catch_up_refusal K w r 0 ≡ None
  from_mark_0 r l = catch_up_allowed r l 0 (omega arith) (λ m h. h)

  -- and it answers the new mark
  pub never_unplayable : NeverUnplayable K z w
  never_unplayable r l a x y c =
      c.0 ∙ ap (λ (o : Option Refusal). answer o (length (sheet_of w r))) (from_mark_0 r l)

  -- and its list is what the machine makes of the sheet
  caught_up : (r : ℕ) → r < z.n → (l l' : List ℕ) (a : Result ℕ Refusal) → CatchesUp K w r 0 a l l'
      → l' ≡ fold (after laws j.fine) l (sheet_of w r)
  caught_up r h l l' a c =
      c.1 ∙ ap (λ (o : Option Refusal). unless o (played K w.book l (sheet_of w r)) l) (from_mark_0 r h)
      ∙ sym (folded_is_played laws j.fine (sheet_of w r) l (j.ok.nodes r h).sheet.known)

  -- which is the same for two sheets with the same messages
  pub same_list : SameSheetsSameList K z w
  unfolding machine
  same_list r x h k to from l l₁ l₂ a₁ a₂ t c₁ c₂ =
      caught_up r h l l₁ a₁ c₁ ∙ same_result j.ok (machine laws j.fine) r x h k to from l t ∙ sym (caught_up x k l l₂ a₂ c₂)
