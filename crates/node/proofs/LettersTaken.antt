-- A letter that a node of a ring takes is taken by the node by itself, and relayed alike.
use Rattle.std.proofs.Common.{◌≡◌, ℕ, ◌*◌, ◌^◌, ◌<◌, ◌≤◌, Bool, true, false, not, ◌&&◌, eqb, List, length}
use Rattle.std.proofs.Common.{get_or, replicate, drop, None, sym, refl, ap, ◌∙◌, subst, inl, inr, arith}
use mathlib.Core.Path.{fun_ext}
use Rattle.std.proofs.lemmas.Bool.{cases_Bool, cases_lt, both_ways, or_parts, or_from, and_left, and_right, eq-eqb, ne_eqb}
use Rattle.std.proofs.lemmas.Bool.{lt-leb, leb-false, not_from_true}
use Rattle.std.proofs.lemmas.List.{length-take-le, length-drop, length-replicate}
use Rattle.record.specs.Kind.{Kind}
use Rattle.chooser.specs.Meaning.{Meaning}
use Rattle.rows.specs.Letters.{data_letter, no_letter, spoilt}
use Rattle.rows.specs.Masks.{has, any, within}
use Rattle.rows.specs.Receipts.{relays}
use Rattle.rows.specs.declared.letter.Letter.{Letter}
use Rattle.rows.specs.declared.row.Row.{Row}
use Rattle.rows.specs.declared.size.RingSize.{RingSize}
use Rattle.rows.proofs.Anys.{any_false}
use Rattle.ring.specs.World.{World}
use Rattle.ring.specs.Promises.{broadcaster}
use Rattle.ring.proofs.Allowed.{passed}
use Rattle.ring.proofs.Causes.{tables_of}
use Rattle.ring.proofs.Membership.{has_high, known_small}
use Rattle.ring.proofs.Seeing.{Joined}
use Rattle.node.specs.Tables.{Lent, lent, wrong_sizes, table_refusal}
use Rattle.node.specs.Takes.{nobody, unheard_of, unfit}
use Rattle.node.specs.Alike.{Names, member_in, sheet_part}

module _ {K : Kind} {z : RingSize} {need : ℕ} {low : 1 ≤ need} {high : need ≤ z.q} {w : World} {M : Meaning}
    (j : Joined K z need low high w M) (i : ℕ) (inside : i < z.n) (table : List ℕ) (named : Names w table) where
  -- the tables that are lent to the node by itself
  abbrev pub tables : Lent
  tables = lent w.book table (replicate z.n no_letter) (sheet_part w i)

  -- ---- sizes

  -- the node has its 64 bytes
  sheet_fits : length (sheet_part w i) ≡ 64
  sheet_fits =
      length-take-le 64 (drop (64 * i) w.sheets)
      (omega (arith, length-drop (64 * i) w.sheets, (tables_of w j.fine.tables).sheets, inside, z.high))

  -- so the tables have their sizes
  pub tables_fit : table_refusal z.n tables ≡ None
  tables_fit =
      passed (wrong_sizes z.n (length w.book) (length table) (length (replicate z.n no_letter)) (length (sheet_part w i))) _ _
      (or_from _ _
      (or_from _ _ (not_from_true _ (eq-eqb _ _ (tables_of w j.fine.tables).book))
      (not_from_true _ (eq-eqb _ _ named.places)))
      (or_from _ _ (not_from_true _ (eq-eqb _ _ (length-replicate z.n no_letter))) (not_from_true _ (eq-eqb _ _ sheet_fits)))) refl

  -- ---- who broadcast a message

  -- a node of the ring did
  by_a_node : (m : ℕ) → m < w.ring.messages → broadcaster w m < z.n
  by_a_node m h =
      let told = j.ok.book.told m h in
      subst (λ (x : ℕ). x < z.n) told.1.sender (j.ok.post.each told.0 told.1.place).unspoilt.sender_in

  -- so the table does not say that nobody did
  by_somebody : (m : ℕ) → m < w.ring.messages → eqb (get_or table m 0) nobody ≡ false
  by_somebody m h = ne_eqb _ _ (λ e. omega (arith, e, named.broadcast m h, by_a_node m h, z.high))

  module _ (l : Letter) (clean : spoilt z.n w.ring.messages l ≡ false) where
    -- its messages were broadcast
    known : (m : ℕ) → has l.set m ≡ true → m < w.ring.messages
    known m h =
        let rest = (or_parts _ _ (or_parts _ _ clean).1).1 in
        let small = leb-false _ _ (or_parts _ _ rest).0 in
        elim (cases_lt m w.ring.messages) [
          | inl l ↦ l
          | inr g ↦ absurd (both_ways _ (has_high w.ring.messages l.set m small g) h)
        ]

    -- it is none that a ring of 64 messages has not
    clean_of_64 : spoilt z.n 64 l ≡ false
    clean_of_64 =
        let a = or_parts _ _ clean in
        let b = or_parts _ _ a.1 in
        let c = or_parts _ _ b.1 in
        let few = j.ok.book.messages_le in
        or_from _ _ a.0 (or_from _ _ b.0 (or_from _ _
        (lt-leb (2 ^ 64) l.set (known_small 64 l.set (λ m h. omega (arith, few, known m h)))) c.1))

    -- nor has it a message that nobody has broadcast
    heard_of : unheard_of table l.set ≡ false
    heard_of = any_false (λ m. has l.set m && eqb (get_or table m 0) nobody) 64 (λ m h. elim (cases_Bool (has l.set m)) [
      | inl t ↦ and_right _ _ (by_somebody m (known m t))
      | inr f ↦ and_left _ _ f
    ])

    -- so the node by itself takes it, by the call for its kind
    pub fits : l.receiver ≡ i → unfit l.kind table (member_in z w i) l ≡ false
    fits to =
        or_from _ _ (or_from _ _ clean_of_64 heard_of)
        (or_from _ _ (not_from_true _ (eq-eqb _ _ to)) (not_from_true _ (eq-eqb l.kind l.kind refl)))

    -- and relays it where the ring's node does
    pub relays_alike : (row : Row) → relays table row l ≡ relays w.ring.broadcasters row l
    relays_alike row =
        let same : (m : ℕ) → (has l.set m && not (eqb (get_or table m 0) l.receiver))
        ≡ (has l.set m && not (eqb (get_or w.ring.broadcasters m 0) l.receiver)) =
        λ m. elim (cases_Bool (has l.set m)) [
          | inl t ↦ ap (λ (x : ℕ). has l.set m && not (eqb x l.receiver)) (named.broadcast m (known m t))
          | inr f ↦ and_left _ _ f ∙ sym (and_left _ _ f)
        ] in
        ap (λ (p : ℕ → Bool). eqb l.kind data_letter && (not (within l.set row.received) && any p 64)) (fun_ext same)
