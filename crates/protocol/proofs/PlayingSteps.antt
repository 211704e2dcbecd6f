-- Steps, broadcasts and proposals as functions on states, as the receipts are in Playing.
use Rattle.std.proofs.Common.{◌≡◌, ℕ, suc, ◌+◌, Bool, true, false, not, ◌&&◌, ltb}
use Rattle.std.proofs.Common.{refl, arith}
use Rattle.std.proofs.lemmas.Bool.{ltb-true}
use Rattle.protocol.specs.Sets.{◌∈◌, only}
use Rattle.protocol.specs.Ring.{Size, State, Node, Letter, data_letter, acknowledgement, check_letter}
use Rattle.protocol.specs.Setters.{with_closing}
use Rattle.protocol.specs.Nodes.{after_acknowledging, after_settling, undelivered}
use Rattle.protocol.specs.Calls.{SameLetters, Steps, new_letter}
use Rattle.protocol.specs.Runs.{Call, broadcasts, acknowledges, closes, settles}
use Rattle.protocol.proofs.Playing.{update, update_here, update_else, append_old, append_new, with_post, posted, same_book}
use Rattle.protocol.proofs.Playing.{same_chooser, becomes}

-- ---- stepping and broadcasting

-- node r may act
abbrev pub able : Size → State → ℕ → Bool
able z s r = ltb r z.n && s.live r

module _ (z : Size) (s : State) (r : ℕ) (h : able z s r ≡ true) where
  -- a step of such a node
  steps : (n : ℕ) (f : ℕ → Letter) (g : ℕ → Node) → SameLetters s (with_post n f g s) → Steps z s (with_post n f g s) r
  steps n f g k = record {
    in_ring = ltb-true r z.n (grind arith);
    alive = grind arith;
    letters = k;
    book = same_book s n f g;
    live = refl;
  }

-- it acknowledges, where nothing conflicts
abbrev pub acknowledged : Size → ℕ → State → State
acknowledged z r s =
    with_post (s.sent + z.n) (posted s s.letter r acknowledgement (s.node r).stage (undelivered (s.node r)))
    (update s.node r (after_acknowledging (s.node r))) s

-- that is a call
pub plays_acknowledge : (z : Size) (s : State) (r : ℕ) → (able z s r && not (s.node r).closing) ≡ true
    → ((a b : ℕ) → a ∈ undelivered (s.node r) → b ∈ undelivered (s.node r) → s.conflict a b ≡ false)
    → Call z s (acknowledged z r s)
plays_acknowledge z s r h free =
    let p : able z s r ≡ true = grind arith in
    let S = undelivered (s.node r) in
    let new : ℕ → Letter = λ y. new_letter r y acknowledgement (s.node r).stage S in
    let f = posted s s.letter r acknowledgement (s.node r).stage S in
    let g = update s.node r (after_acknowledging (s.node r)) in
    acknowledges r (record {
      steps = steps z s r p (s.sent + z.n) f g (λ i l. append_old s.sent s.letter new i l);
      gathering = grind arith;
      free = free;
      sends = record { places = refl; new = λ y l. append_new s.sent s.letter new y };
      becomes = becomes z s (acknowledged z r s) r (after_acknowledging (s.node r)) refl;
      chooser = same_chooser s (s.sent + z.n) f g;
    })

-- it closes its stage over a and b
abbrev pub closed : Size → ℕ → State → State
closed z r s =
    with_post (s.sent + z.n) (posted s s.letter r check_letter (s.node r).stage (s.node r).pending)
    (update s.node r (with_closing (s.node r))) s

-- that is a call
pub plays_close : (z : Size) (s : State) (r a b : ℕ)
    → (able z s r &&
    (not (s.node r).closing && (s.conflict a b && (undelivered (s.node r) a && undelivered (s.node r) b)))) ≡ true
    → Call z s (closed z r s)
plays_close z s r a b h =
    let p : able z s r ≡ true = grind arith in
    let new : ℕ → Letter = λ y. new_letter r y check_letter (s.node r).stage (s.node r).pending in
    let f = posted s s.letter r check_letter (s.node r).stage (s.node r).pending in
    let g = update s.node r (with_closing (s.node r)) in
    closes r a b (record {
      steps = steps z s r p (s.sent + z.n) f g (λ i l. append_old s.sent s.letter new i l);
      gathering = grind arith;
      conflict = grind arith;
      one = grind arith;
      other = grind arith;
      sends = record { places = refl; new = λ y l. append_new s.sent s.letter new y };
      becomes = becomes z s (closed z r s) r (with_closing (s.node r)) refl;
      chooser = same_chooser s (s.sent + z.n) f g;
    })

-- it settles its stage
abbrev pub settled : ℕ → State → State
settled r s =
    with_post s.sent s.letter
    (update s.node r (after_settling (s.nonconflicting (s.node r).stage) (s.conflicting (s.node r).stage) (s.node r))) s

-- that is a call
pub plays_settle : (z : Size) (s : State) (r : ℕ)
    → (able z s r && ((s.node r).closing && ((s.node r).proposed && s.decided (s.node r).stage))) ≡ true → Call z s
    (settled r s)
plays_settle z s r h =
    let p : able z s r ≡ true = grind arith in
    let N = after_settling (s.nonconflicting (s.node r).stage) (s.conflicting (s.node r).stage) (s.node r) in
    let g = update s.node r N in
    settles r (record {
      steps = steps z s r p s.sent s.letter g (λ i l. refl);
      closing = grind arith;
      proposed = grind arith;
      decided = grind arith;
      becomes = becomes z s (settled r s) r N refl;
      chooser = same_chooser s s.sent s.letter g;
      silent = refl;
    })

-- r broadcasts the next message
abbrev pub broadcast_by : Size → ℕ → State → State
broadcast_by z r s = record {
  messages = suc s.messages;
  conflict = s.conflict;
  broadcaster = update s.broadcaster s.messages r;
  sent = s.sent + z.n;
  letter = posted s s.letter r data_letter 0 (only s.messages);
  node = s.node;
  live = s.live;
  proposers = s.proposers;
  proposal_nonconflicting = s.proposal_nonconflicting;
  proposal_conflicting = s.proposal_conflicting;
  decided = s.decided;
  nonconflicting = s.nonconflicting;
  conflicting = s.conflicting;
}

-- that is a call
pub plays_broadcast : (z : Size) (s : State) (r : ℕ) → (able z s r && ltb s.messages 64) ≡ true
    → ((a b : ℕ) → s.conflict a b ≡ s.conflict b a) → ((a : ℕ) → s.conflict a a ≡ false) → Call z s (broadcast_by z r s)
plays_broadcast z s r h sides itself =
    let new : ℕ → Letter = λ y. new_letter r y data_letter 0 (only s.messages) in
    broadcasts r (record {
      in_ring = ltb-true r z.n (grind arith);
      alive = grind arith;
      room = ltb-true s.messages 64 (grind arith);
      messages = refl;
      broadcaster = update_here s.broadcaster s.messages r;
      broadcaster_kept = λ m l. update_else s.broadcaster s.messages r m (λ e. omega (arith, e, l));
      conflict_kept = λ a b u v. refl;
      both_sides = sides;
      not_itself = itself;
      sends = record { places = refl; new = λ y l. append_new s.sent s.letter new y };
      letters = λ i l. append_old s.sent s.letter new i l;
      nodes = λ x l. refl;
      chooser = record {
        proposers = refl;
        proposal_nonconflicting = refl;
        proposal_conflicting = refl;
        decided = refl;
        nonconflicting = refl;
        conflicting = refl;
      };
      live = refl;
    })
