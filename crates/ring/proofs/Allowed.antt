-- Where the causes that several calls share do not apply: to the tables of a day, its nodes and its travelling letters.
use Rattle.std.proofs.Common.{◌≡◌, ℕ, ◌^◌, ◌<◌, ◌≤◌, Bool, true, false, not, ◌||◌, eqb, ltb, leb, ◌⊎◌, length, Some, None, Option}
use Rattle.std.proofs.Common.{refl, ap, ◌∙◌, inl, inr, arith}
use lib.Count.{ones}
use Rattle.std.proofs.lemmas.Bool.{cases_eq, true≢false, false≢true, or_from, not-true, not_from_true, eq-eqb, ne_eqb, lt-leb}
use Rattle.std.proofs.lemmas.Bool.{cond-true, cond-false}
use Rattle.std.proofs.lemmas.Bool.Decides.{nat_tests}
use Rattle.record.specs.Kind.{Kind}
use Rattle.chooser.specs.Meaning.{Meaning}
use Rattle.protocol.specs.Sets.{Set, count, none, only}
use Rattle.protocol.proofs.Counting.{count_more, count_only}
use Rattle.rows.specs.Causes.{refuse, first}
use Rattle.rows.specs.Letters.{data_letter, acknowledgement, check_letter, travelling, spoilt}
use Rattle.rows.specs.declared.refusal.Refusal.{Refusal}
use Rattle.rows.specs.declared.size.RingSize.{RingSize}
use Rattle.ring.specs.World.{World, nodes_of, unstarted, has_crashed, letter_at, wrong_sizes, table_refusal, node_refusal}
use Rattle.ring.specs.World.{letter_refusal}
use Rattle.ring.specs.Step.{stepper_refusal}
use Rattle.ring.specs.Show.{show_refusal}
use Rattle.ring.specs.Promises.{lives}
use Rattle.ring.proofs.Causes.{not_some}
use Rattle.ring.proofs.Changing.{nodes_are}
use Rattle.ring.proofs.Membership.{known_small, ones_count}
use Rattle.ring.proofs.Seeing.{Fine, Joined}

-- ---- chains of causes

-- a cause that does not apply is passed over
pub passed : (b : Bool) (e : Refusal) (rest : Option Refusal) → b ≡ false → rest ≡ None → refuse b e rest ≡ None
passed true e rest f h = absurd (true≢false f)
passed false e rest f h = h

-- and so are several
pub both_passed : (a b : Option Refusal) → a ≡ None → b ≡ None → first a b ≡ None
both_passed None b e h = h
both_passed (Some x) b e h = not_some x e

module _ {K : Kind} {z : RingSize} {w : World} (f : Fine K z w) where
  -- ---- the tables and the nodes

  -- the ring was started
  started : unstarted w.ring.size ≡ false
  started = ap unstarted f.size

  -- the tables fit
  pub tables_allowed : table_refusal w ≡ None
  tables_allowed = passed (wrong_sizes (length w.tray) (length w.book) (length w.sheets)) _ _ f.tables refl

  -- a number below that of the nodes is a node
  below_nodes : (node : ℕ) → node < z.n → leb (nodes_of w.ring.size) node ≡ false
  below_nodes node l = lt-leb (nodes_of w.ring.size) node (omega (arith, l, nodes_are f))

  -- so it may be named
  node_allowed : (node : ℕ) → node < z.n → node_refusal w.ring node ≡ None
  node_allowed node l =
      passed (unstarted w.ring.size) _ _ started (passed (leb (nodes_of w.ring.size) node) _ _ (below_nodes node l) refl)

  -- its sheet may be shown
  pub show_allowed : (node : ℕ) → node < z.n → show_refusal w node ≡ None
  show_allowed node l = both_passed (table_refusal w) _ tables_allowed (node_allowed node l)

  -- and it may step if it lives
  pub step_allowed : (node : ℕ) → node < z.n → lives w node ≡ true → stepper_refusal w node ≡ None
  step_allowed node l v =
      both_passed (table_refusal w) _ tables_allowed
      (both_passed (node_refusal w.ring node) _ (node_allowed node l)
      (passed (has_crashed w.ring node) _ _ (not-true _ v) refl))

-- ---- letters

-- a set with one member has one
count_only_one : (n m : ℕ) → m < n → count n (only m) ≡ 1
count_only_one n m l =
    let some = count_more n none (only m) (λ i k h. absurd (false≢true h)) m l refl (eq-eqb m m refl) in
    omega (arith, some, count_only n m)

-- a known kind passes the test for it
known_kind : (kind : ℕ) → (kind ≡ data_letter) ⊎ ((kind ≡ acknowledgement) ⊎ (kind ≡ check_letter))
    → (ltb kind data_letter || ltb check_letter kind) ≡ false
known_kind kind e = grind (arith, nat_tests)

module _ {K : Kind} {z : RingSize} {need : ℕ} {low : 1 ≤ need} {high : need ≤ z.q} {w : World} {M : Meaning}
    (j : Joined K z need low high w M) where
  -- data has one message
  one_message : (i : ℕ) → i < w.ring.used → (letter_at w i).kind ≡ data_letter → ones (letter_at w i).set ≡ 1
  one_message i l k =
      let unspoilt = (j.ok.post.each i l).unspoilt in
      let (m, is) = unspoilt.data_one k in
      let few = j.ok.book.messages_le in
      let below : m < 64 = omega (arith, few, unspoilt.known m (ap (λ (S : Set). S m) is ∙ eq-eqb m m refl)) in
      ones_count 64 (letter_at w i).set (known_small 64 (letter_at w i).set (λ x h. omega (arith, few, unspoilt.known x h)))
      ∙ ap (count 64) is ∙ count_only_one 64 m below

  -- no letter is spoilt
  pub unspoilt : (i : ℕ) → i < w.ring.used → spoilt (nodes_of w.ring.size) w.ring.messages (letter_at w i) ≡ false
  unspoilt i l =
      let u = (j.ok.post.each i l).unspoilt in
      or_from _ _ (known_kind (letter_at w i).kind u.kinds)
      (or_from _ _ (or_from _ _ (below_nodes j.fine (letter_at w i).sender u.sender_in)
      (below_nodes j.fine (letter_at w i).receiver u.receiver_in))
      (or_from _ _
      (lt-leb (2 ^ w.ring.messages) (letter_at w i).set (known_small w.ring.messages (letter_at w i).set u.known))
      (elim (cases_eq (letter_at w i).kind data_letter) [
        | inl k ↦ cond-true _ _ _ (eq-eqb _ _ k)
            ∙ or_from _ _ (not_from_true _ (eq-eqb _ _ (u.data_stage k))) (not_from_true _ (eq-eqb _ _ (one_message i l k)))
        | inr k ↦ cond-false _ _ _ (ne_eqb _ _ k) ∙ ne_eqb _ _ (λ e. omega (arith, e, u.later k))
      ])))

  -- so one that travels may be received or lost
  pub letter_allowed : (i : ℕ) → i < w.ring.used → (letter_at w i).mark ≡ travelling → letter_refusal w i ≡ None
  letter_allowed i l t =
      both_passed (table_refusal w) _ (tables_allowed j.fine)
      (passed (unstarted w.ring.size) _ _ (started j.fine)
      (passed (leb w.ring.used i || leb (length w.tray) i) _ _
      (or_from _ _ (lt-leb w.ring.used i l) (lt-leb (length w.tray) i (omega (arith, l, j.fine.used_in_tray))))
      (passed (not (eqb (letter_at w i).mark travelling)) _ _ (not_from_true _ (eq-eqb _ _ t))
      (passed (spoilt (nodes_of w.ring.size) w.ring.messages (letter_at w i)) _ _ (unspoilt i l) refl))))
