-- On every day of a ring, a node by itself goes like the ring's node, as long as that lives.
use Rattle.std.proofs.Common.{◌≡◌, ℕ, ◌-◌, ◌*◌, ◌<◌, ◌≤◌, true, leb, not, List, [], ◌∷◌, ◌++◌, length, get_or, set, take}
use Rattle.std.proofs.Common.{replicate, None, Ok, Err, Option, sym, refl, ap, ◌∙◌, subst, inl, inr, arith}
use Rattle.std.proofs.lemmas.Bool.{cases_eq, both_ways, leb-false}
use Rattle.std.proofs.lemmas.List.{length-replicate, length-set, get_or-replicate, get_or-set_same, get_or-set_other, take-replicate}
use Rattle.std.proofs.lemmas.List.{drop-replicate}
use Rattle.record.specs.Kind.{Kind, Laws}
use Rattle.record.specs.declared.command.Command.{Command}
use Rattle.chooser.specs.Meaning.{Meaning, Sound}
use Rattle.protocol.specs.Lists.{Mem}
use Rattle.protocol.proofs.Lists.{mem_left}
use Rattle.rows.specs.Causes.{unless}
use Rattle.rows.specs.Conflicts.{no_command}
use Rattle.rows.specs.Letters.{no_letter}
use Rattle.rows.specs.declared.refusal.Refusal.{Refusal}
use Rattle.rows.specs.declared.row.Row.{Row}
use Rattle.rows.specs.declared.size.RingSize.{RingSize}
use Rattle.ring.specs.World.{World, row_of, table_refusal, live_refusal}
use Rattle.ring.specs.Broadcast.{broadcast_refusal, broadcast_by}
use Rattle.ring.specs.Day.{Day, begins, broadcasts, receives, steps, crashes, loses, with_ring}
use Rattle.ring.specs.Fail.{crashed_by, lose_refusal, lost_at}
use Rattle.ring.specs.History.{crashed_on}
use Rattle.ring.specs.Promises.{lives}
use Rattle.ring.specs.Start.{start_refusal, started, Starts}
use Rattle.ring.specs.declared.ring.Ring.{Ring}
use Rattle.ring.proofs.Causes.{refuse_none, first_none, either_way, tables_fit}
use Rattle.ring.proofs.DayJoined.{day_joined}
use Rattle.ring.proofs.HistoryTold.{accepted_call, refused_call, history_told}
use Rattle.ring.proofs.NodesKept.{rows_kept}
use Rattle.ring.proofs.Seeing.{Joined}
use Rattle.ring.proofs.StartJoined.{row_is_new, start_high, start_joined}
use Rattle.node.specs.Tables.{Lent, lent}
use Rattle.node.specs.Takes.{nobody}
use Rattle.node.specs.Events.{Event, told, Alone}
use Rattle.node.specs.Alike.{Names, given_on, member_in, sheet_part, blank, GoesAlike, NowhereElse}
use Rattle.node.specs.States.{new_member}
use Rattle.node.specs.declared.member.Member.{Member}
use Rattle.node.proofs.Events.{alone_once}
use Rattle.node.proofs.ReceiptsGiven.{receives_alike}
use Rattle.node.proofs.TurnsGiven.{steps_alike}
use Rattle.node.proofs.EventsGiven.{unmoved, given_one}

-- ---- a broadcast

module _ {K : Kind} {z : RingSize} {need : ℕ} {low : 1 ≤ need} {high : need ≤ z.q} {w : World} {M : Meaning} {m₀ : Member} {i : ℕ}
    {es : List Event} (j : Joined K z need low high w M) (g : GoesAlike K z m₀ i w es) (node : ℕ) (c : Command)
    (h : broadcast_refusal K w node c ≡ None) where
  -- the number of the message
  abbrev now : ℕ
  now = w.ring.messages

  below : now < 64
  below =
      let lives = (first_none (live_refusal w.ring node) _ (first_none (table_refusal w) _ h).1).1 in
      leb-false _ _ (refuse_none (leb 64 now) _ _ (refuse_none (not (K.taking.lawful c)) _ _ lives).1).0

  -- the host's table names its broadcaster too
  named : Names (broadcast_by w node c) (set g.broadcasters now node)
  named = record {
    places = length-set g.broadcasters now node ∙ g.named.places;
    broadcast = λ m l. elim (cases_eq m now) [
      | inl e ↦ ap (λ (x : ℕ). get_or (set g.broadcasters now node) x 0) e
          ∙ get_or-set_same g.broadcasters now node 0 (omega (arith, below, g.named.places))
          ∙ sym (get_or-set_same w.ring.broadcasters now node 0 (omega (arith, below, j.fine.broadcasters_length)))
          ∙ sym (ap (λ (x : ℕ). get_or (set w.ring.broadcasters now node) x 0) e)
      | inr d ↦ get_or-set_other g.broadcasters now m node 0 d ∙ g.named.broadcast m (omega (arith, l, d))
          ∙ sym (get_or-set_other w.ring.broadcasters now m node 0 d)
    ];
    others = λ m l k. get_or-set_other g.broadcasters now m node 0 (λ e. omega (arith, l, e)) ∙ g.named.others m (omega (arith, l)) k;
  }

  -- and its book has its command
  broadcast_alike : GoesAlike K z m₀ i (broadcast_by w node c) (es ++ told now node c ∷ [])
  broadcast_alike = given_one g (broadcast_by w node c) (told now node c) (set g.broadcasters now node) g.letters named (refl, refl)

-- ---- a crash: it leaves all rows

crash_alike : {K : Kind} {z : RingSize} {m₀ : Member} {i : ℕ} {w : World} {es : List Event} → GoesAlike K z m₀ i w es → (node : ℕ)
    (o : Option Refusal) (s : Ring) → s ≡ unless o (crashed_by w.ring node) w.ring → GoesAlike K z m₀ i (with_ring w s) es
crash_alike {K} {z} {m₀} {i} {w} {es} g node o s h =
    either_way (λ (r : Ring). GoesAlike K z m₀ i (with_ring w r) es) o (crashed_by w.ring node) w.ring s h
    (λ _. unmoved g (with_ring w (crashed_by w.ring node)) (rows_kept w.ring node i) refl refl
    (record { places = g.named.places; broadcast = g.named.broadcast; others = g.named.others }))
    (unmoved g (with_ring w w.ring) refl refl refl
    (record { places = g.named.places; broadcast = g.named.broadcast; others = g.named.others }))

-- ---- a day from an accepted start

module _ {K : Kind} (laws : Laws K) (z : RingSize) (u : World) {M₀ : Meaning} (sound : Sound M₀) (h : start_refusal z u M₀ ≡ None)
    {i : ℕ} (inside : i < z.n) where
  -- the world at the start
  abbrev v₀ : World
  v₀ = started z u

  -- the first node by itself has a new row, and blank tables
  begins_alike : GoesAlike K z (new_member z i) i v₀ []
  begins_alike =
      let fit = tables_fit u (first_none (table_refusal u) _ h).0 in
      let row-is : row_of v₀ i ≡ (new_member z i).row = row_is_new z i inside in
      let sheet-is : sheet_part v₀ i ≡ replicate 64 0 =
      ap (take 64) (drop-replicate (64 * i) (length u.sheets) 0)
      ∙ take-replicate 64 (length u.sheets - 64 * i) 0 (omega (arith, fit.sheets, inside, z.high)) in
      let book-is : v₀.book ≡ replicate 64 no_command = ap (λ (n : ℕ). replicate n no_command) fit.book in
      let letters = replicate z.n no_letter in
      record {
        broadcasters = replicate 64 nobody;
        letters = letters;
        named = record {
          places = length-replicate 64 nobody;
          broadcast = λ m l. absurd (omega (arith, l));
          others = λ m l k. get_or-replicate 64 m nobody 0 k;
        };
        alone =
            let P : Row → List Command → List ℕ → Type 0 = λ row book sheet.
            Alone K [] (new_member z i) (blank z) (record { number = i; size = z; row = row })
            (lent book (replicate 64 nobody) letters sheet) in
            subst (λ (row : Row). P row v₀.book (sheet_part v₀ i)) (sym row-is)
            (subst (λ (book : List Command). P (new_member z i).row book (sheet_part v₀ i)) (sym book-is)
            (subst (λ (sheet : List ℕ). P (new_member z i).row (replicate 64 no_command) sheet) (sym sheet-is) (refl, refl)));
      }

  -- what is known at every point of the day
  joined : {w : World} {M : Meaning} → Day K v₀ M₀ w M → Joined K z M₀.need sound.need_low (start_high z u M₀ h) w M
  joined {w} {M} d = day_joined laws (start_joined z u M₀ h sound K laws) w M d

  -- a node whose crash was not accepted lives
  lived : {w : World} {M : Meaning} (d : Day K v₀ M₀ w M) → (Mem i (crashed_on d) → ⊥) → lives w i ≡ true
  lived d off = (history_told z u d).alive i off

  -- call by call
  goes_on : {w : World} {M : Meaning} (d : Day K v₀ M₀ w M) → (Mem i (crashed_on d) → ⊥)
      → GoesAlike K z (new_member z i) i w (given_on i d)
  goes_on begins off = begins_alike
  goes_on (broadcasts w M node c (Ok m) v d r) off =
      let a = accepted_call (broadcast_refusal K w node c) w.ring.messages m (broadcast_by w node c) w v r.0 r.1 in
      subst (λ (x : World). GoesAlike K z (new_member z i) i x (given_on i d ++ told m node c ∷ [])) (sym a.2)
      (subst (λ (k : ℕ). GoesAlike K z (new_member z i) i (broadcast_by w node c) (given_on i d ++ told k node c ∷ [])) (sym a.1)
      (broadcast_alike (joined d) (goes_on d off) node c a.0))
  goes_on (broadcasts w M node c (Err e) v d r) off =
      let same = refused_call (broadcast_refusal K w node c) w.ring.messages e (broadcast_by w node c) w v r.0 r.1 in
      subst (λ (x : World). GoesAlike K z (new_member z i) i x (given_on i d)) (sym same) (goes_on d off)
  goes_on (receives w M place r v d e) off =
      receives_alike (joined d) place i (goes_on d off) inside (lived d off) r v e
  goes_on (steps w M node r v N d e s) off =
      steps_alike (joined d) (goes_on d off) inside (lived d off) node r v N e
  goes_on (crashes w M node (Ok x) s d r) off =
      crash_alike (goes_on d (λ on. off (mem_left i (crashed_on d) (node ∷ []) on))) node (live_refusal w.ring node) s r.1
  goes_on (crashes w M node (Err e) s d r) off = crash_alike (goes_on d off) node (live_refusal w.ring node) s r.1
  goes_on (loses w M place r v d e) off =
      let g = goes_on d off in
      either_way (λ (x : World). GoesAlike K z (new_member z i) i x (given_on i d)) (lose_refusal w place) (lost_at w place) w v
      e.1 (λ _. unmoved g (lost_at w place) refl refl refl
      (record { places = g.named.places; broadcast = g.named.broadcast; others = g.named.others })) g

  -- so as long as the node lives
  pub day_alike : {w : World} {M : Meaning} (d : Day K v₀ M₀ w M) → lives w i ≡ true
      → GoesAlike K z (new_member z i) i w (given_on i d)
  day_alike {w} d alive = goes_on d (λ on. both_ways (lives w i) ((history_told z u d).crashed i on) alive)

-- ---- a day from an accepted start, as the law has it

-- it goes alike
goes_alike : (z : RingSize) (i : ℕ) → i < z.n → (m₀ : Member) → m₀ ≡ new_member z i → (K : Kind) → Laws K → (u v : World)
    (M : Meaning) → Sound M → Starts z u M (Ok tt) v → (w : World) (N : Meaning) (d : Day K v M w N) → lives w i ≡ true
    → GoesAlike K z m₀ i w (given_on i d)
goes_alike z i inside m₀ first K laws u v M sound h w N d alive =
    let a = accepted_call (start_refusal z u M) tt tt (started z u) u v h.0 h.1 in
    subst (λ (m : Member). GoesAlike K z m i w (given_on i d)) (sym first)
    (subst (λ (x : World). (e : Day K x M w N) → GoesAlike K z (new_member z i) i w (given_on i e)) (sym a.2)
    (λ e. day_alike laws z u sound a.0 inside e alive) d)

-- and in no other way
pub goes_as_in_a_ring : (z : RingSize) (i : ℕ) → i < z.n → (m₀ : Member) → m₀ ≡ new_member z i → (K : Kind) → Laws K
    → (u v : World) (M : Meaning) → Sound M → Starts z u M (Ok tt) v → (w : World) (N : Meaning) (d : Day K v M w N)
    → lives w i ≡ true → GoesAlike K z m₀ i w (given_on i d) × NowhereElse K z m₀ i w (given_on i d)
goes_as_in_a_ring z i inside m₀ first K laws u v M sound h w N d alive =
    let g = goes_alike z i inside m₀ first K laws u v M sound h w N d alive in (
      g,
      λ k t a.
          let same = alone_once K (given_on i d) m₀ (blank z) k (member_in z w i) t
          (lent w.book g.broadcasters g.letters (sheet_part w i)) a g.alone in
          (ap (λ (m : Member). m.row) same.0, ap (λ (x : Lent). x.sheet) same.1),
    )
