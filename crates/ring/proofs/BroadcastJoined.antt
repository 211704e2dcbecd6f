-- A broadcast keeps a world joined to the protocol.
use Rattle.std.proofs.Common.{◌≡◌, ℕ, ◌+◌, ◌^◌, ◌<◌, ◌≤◌, Bool, false, not, ◌&&◌, eqb, leb, length, set, None, Result, sym, refl}
use Rattle.std.proofs.Common.{ap, ◌∙◌, subst, ap₂, inl, inr, arith}
use Rattle.std.proofs.lemmas.Bool.{cases_eq, eq-eqb, leb-false, ltb-false, not-false}
use Rattle.std.proofs.lemmas.List.{get_or-set_same, get_or-set_other, length-set}
use Rattle.record.specs.Kind.{Kind, Laws}
use Rattle.record.specs.declared.command.Command.{Command}
use Rattle.chooser.specs.Meaning.{Meaning}
use Rattle.protocol.specs.Calls.{Sends}
use Rattle.protocol.specs.Runs.{broadcasts}
use Rattle.protocol.specs.Sets.{Set}
use Rattle.rows.specs.Conflicts.{no_command, command_of}
use Rattle.rows.specs.Letters.{data_letter, letter_of, no_room}
use Rattle.rows.specs.declared.letter.Letter.{Letter}
use Rattle.rows.specs.declared.refusal.Refusal.{Refusal}
use Rattle.rows.specs.declared.size.RingSize.{RingSize}
use Rattle.rows.proofs.Clashes.{eqb_swap}
use Rattle.ring.specs.World.{World, nodes_of, wrong_sizes, table_refusal, live_refusal}
use Rattle.ring.specs.Broadcast.{broadcast_refusal, broadcast_by, Broadcasts}
use Rattle.ring.specs.Promises.{conflict}
use Rattle.ring.proofs.Called.{Called, refused_called}
use Rattle.ring.proofs.Causes.{refuse_none, first_none, either_way, tables_fit, living}
use Rattle.ring.proofs.Effects.{same_chooser, letters_stay, sends_to_all}
use Rattle.ring.proofs.Membership.{set_one}
use Rattle.ring.proofs.Seeing.{seen, size_of, Joined}
use Rattle.ring.proofs.Sending.{sent_length}

-- where a message conflicts with another, the other conflicts with it
pub conflict_both_sides : (K : Kind) → Laws K → (w : World) (a b : ℕ) → conflict K w a b ≡ conflict K w b a
conflict_both_sides K laws w a b =
    ap₂ (λ (same conflicts : Bool). not same && conflicts) (eqb_swap a b)
    (laws.symmetric (command_of w.book a) (command_of w.book b))

-- no message conflicts with itself
pub conflict_not_itself : (K : Kind) (w : World) (a : ℕ) → conflict K w a a ≡ false
conflict_not_itself K w a =
    ap (λ (same : Bool). not same && K.conflicts (command_of w.book a) (command_of w.book a)) (eq-eqb a a refl)

module _ {K : Kind} (laws : Laws K) {z : RingSize} {need : ℕ} {low : 1 ≤ need} {high : need ≤ z.q} {w : World} {M : Meaning}
    (j : Joined K z need low high w M) (node : ℕ) (c : Command) where
  -- the world after the broadcast
  abbrev after : World
  after = broadcast_by w node c

  -- and the letter that brings the message to all
  abbrev letter : Letter
  letter = letter_of node data_letter 0 (2 ^ w.ring.messages)

  -- a broadcast that is not refused
  broadcast_joined : broadcast_refusal K w node c ≡ None → Called K z need low high w M after M
  broadcast_joined h =
      let f = j.fine in
      let now = w.ring.messages in
      let fits = first_none (table_refusal w) _ h in
      let lives = first_none (live_refusal w.ring node) _ fits.1 in
      let lawful = refuse_none (not (K.taking.lawful c)) _ _ lives.1 in
      let few = refuse_none (leb 64 now) _ _ lawful.1 in
      let free = refuse_none (no_room w.tray w.ring.used (nodes_of w.ring.size)) _ _ few.1 in
      let l = living z w.ring node f.size lives.0 in
      let below : now < 64 = leb-false _ _ few.0 in
      let room : w.ring.used + nodes_of w.ring.size ≤ length w.tray = ltb-false _ _ free.0 in
      let same = sent_length w.tray w.ring.used letter (nodes_of w.ring.size) in
      let book-kept : (m : ℕ) → m < now → command_of (set w.book now c) m ≡ command_of w.book m =
      λ m k. get_or-set_other w.book now m c no_command (λ e. omega (arith, e, k)) in
      record {
        call = broadcasts node (record {
          in_ring = l.in_ring;
          alive = l.alive;
          room = below;
          messages = omega arith;
          broadcaster = get_or-set_same w.ring.broadcasters now node 0 (omega (arith, below, f.broadcasters_length));
          broadcaster_kept = λ m k. get_or-set_other w.ring.broadcasters now m node 0 (λ e. omega (arith, e, k));
          conflict_kept = λ a b k i. ap₂ (λ (x y : Command). not (eqb a b) && K.conflicts x y) (book-kept a k) (book-kept b i);
          both_sides = conflict_both_sides K laws after;
          not_itself = conflict_not_itself K after;
          sends = subst (λ (S : Set). Sends (size_of z need low high) (seen K w M) (seen K after M) node data_letter 0 S)
              (set_one now) (sends_to_all f after M letter refl need low high refl room);
          letters = letters_stay f after M letter refl;
          nodes = λ x k. refl;
          chooser = same_chooser K w after M;
          live = refl;
        });
        fine = record {
          size = f.size;
          nodes_length = f.nodes_length;
          broadcasters_length = length-set w.ring.broadcasters now node ∙ f.broadcasters_length;
          rows = f.rows;
          tables = ap₂ (λ (tray book : ℕ). wrong_sizes tray book (length w.sheets)) same (length-set w.book now c)
              ∙ f.tables;
          used_in_tray = subst (λ (k : ℕ). w.ring.used + nodes_of w.ring.size ≤ k) (sym same) room;
          lawful = λ m k. elim (cases_eq m now) [
            | inl e ↦ ap (λ (i : ℕ). K.taking.lawful (command_of (set w.book now c) i)) e
                ∙ ap K.taking.lawful
                (get_or-set_same w.book now c no_command (omega (arith, below, (tables_fit w fits.0).book)))
                ∙ not-false _ lawful.0
            | inr d ↦ ap K.taking.lawful (book-kept m (omega (arith, k, d))) ∙ f.lawful m (omega (arith, k, d))
          ];
        };
        chooser = j.chooser;
      }

  -- a broadcast, refused or not
  pub broadcasts_joined : (r : Result ℕ Refusal) (v : World) → Broadcasts K w node c r v → Called K z need low high w M v M
  broadcasts_joined r v h =
      either_way (λ (q : World). Called K z need low high w M q M) (broadcast_refusal K w node c) after w v h.1 broadcast_joined
      (refused_called j)
