-- Calls as functions on states, so that a run can be written down and its state computed. What a call asks for is one
-- test, which a written run passes by computing.
use Rattle.std.proofs.Common.{◌≡◌, ℕ, ◌+◌, ◌-◌, ◌<◌, ◌≤◌, Bool, true, false, cond, not, ◌&&◌, eqb, ltb, leb, ◌⊎◌}
use Rattle.std.proofs.Common.{refl, ap, ◌∙◌, arith}
use Rattle.std.proofs.lemmas.Bool.{and_parts, eqb-true, eqb-false, eq-eqb, ne_eqb, ltb-true, lt-ltb, le-ltb, leb-true}
use Rattle.std.proofs.lemmas.Bool.{cond-true, cond-false}
use Rattle.protocol.specs.Sets.{Set, count, none, only}
use Rattle.protocol.specs.Ring.{Size, State, Node, Letter, data_letter, acknowledgement, check_letter, travelling, taken}
use Rattle.protocol.specs.Setters.{with_check}
use Rattle.protocol.specs.Nodes.{fresh, after_data, after_hearing}
use Rattle.protocol.specs.Calls.{SameBook, SameChooser, Marks, Becomes, Takes, new_letter, marked, taker}
use Rattle.protocol.specs.Runs.{Start, Call, receives_known, receives_own, relays, hears, passes_acknowledgement}
use Rattle.protocol.specs.Runs.{keeps_check, passes_check}

-- ---- functions changed at one number, or continued from one on

-- f, but for a at the number i
abbrev pub update : {A : Type 0} → (ℕ → A) → ℕ → A → ℕ → A
update f i a l = cond (eqb l i) a (f l)

-- f below n, and then g
abbrev pub append : {A : Type 0} → ℕ → (ℕ → A) → (ℕ → A) → ℕ → A
append n f g i = cond (ltb i n) (f i) (g (i - n))

-- at the number
pub update_here : {A : Type 0} (f : ℕ → A) (i : ℕ) (a : A) → update f i a i ≡ a
update_here f i a = cond-true (eqb i i) a (f i) (eq-eqb i i refl)

-- elsewhere
pub update_else : {A : Type 0} (f : ℕ → A) (i : ℕ) (a : A) (l : ℕ) → (l ≡ i → ⊥) → update f i a l ≡ f l
update_else f i a l d = cond-false (eqb l i) a (f l) (ne_eqb l i d)

-- below n
pub append_old : {A : Type 0} (n : ℕ) (f g : ℕ → A) (i : ℕ) → i < n → append n f g i ≡ f i
append_old n f g i l = cond-true (ltb i n) (f i) (g (i - n)) (lt-ltb i n l)

-- from n on
pub append_new : {A : Type 0} (n : ℕ) (f g : ℕ → A) (y : ℕ) → append n f g (n + y) ≡ g y
append_new n f g y = cond-false (ltb (n + y) n) (f (n + y)) (g (n + y - n)) (le-ltb (n + y) n more) ∙ ap g same
  where
    more : n ≤ n + y
    more = omega arith

    same : n + y - n ≡ y
    same = omega arith

-- ---- states

-- the start of a run with this conflict
abbrev pub beginning : (ℕ → ℕ → Bool) → State
beginning conflict = record {
  messages = 0;
  conflict = conflict;
  broadcaster = λ m. 0;
  sent = 0;
  letter = λ i. new_letter 0 0 0 0 none;
  node = λ r. fresh;
  live = λ r. true;
  proposers = λ j. none;
  proposal_nonconflicting = λ j r. none;
  proposal_conflicting = λ j r. none;
  decided = none;
  nonconflicting = λ j. none;
  conflicting = λ j. none;
}

-- it is a start
pub begins : (z : Size) (conflict : ℕ → ℕ → Bool) → ((a b : ℕ) → conflict a b ≡ conflict b a) → ((a : ℕ) → conflict a a ≡ false)
    → Start z (beginning conflict)
begins z conflict p q = record {
  messages = refl;
  sent = refl;
  nodes = λ r l. refl;
  live = λ r l. refl;
  proposers = λ j r. refl;
  decided = λ j. refl;
  nonconflicting = λ m. refl;
  conflicting = λ m. refl;
  both_sides = p;
  not_itself = q;
}

-- the state with other letters and other nodes
abbrev pub with_post : ℕ → (ℕ → Letter) → (ℕ → Node) → State → State
with_post n f g s = record {
  messages = s.messages;
  conflict = s.conflict;
  broadcaster = s.broadcaster;
  sent = n;
  letter = f;
  node = g;
  live = s.live;
  proposers = s.proposers;
  proposal_nonconflicting = s.proposal_nonconflicting;
  proposal_conflicting = s.proposal_conflicting;
  decided = s.decided;
  nonconflicting = s.nonconflicting;
  conflicting = s.conflicting;
}

-- the letters once the one at place i is taken, and once x sends
abbrev pub took : State → ℕ → ℕ → Letter
took s i = update s.letter i (marked (s.letter i) taken)

-- the letters once x sends a letter to each node
abbrev pub posted : State → (ℕ → Letter) → ℕ → ℕ → ℕ → Set → ℕ → Letter
posted s f x k j S = append s.sent f (λ y. new_letter x y k j S)

module _ (s : State) (n : ℕ) (f : ℕ → Letter) (g : ℕ → Node) where
  -- it leaves the book
  pub same_book : SameBook s (with_post n f g s)
  same_book = record { messages = refl; conflict = refl; broadcaster = refl }

  -- and the chooser
  pub same_chooser : SameChooser s (with_post n f g s)
  same_chooser = record {
    proposers = refl;
    proposal_nonconflicting = refl;
    proposal_conflicting = refl;
    decided = refl;
    nonconflicting = refl;
    conflicting = refl;
  }

-- node r becomes N
pub becomes : (z : Size) (s t : State) (r : ℕ) (N : Node) → t.node ≡ update s.node r N → Becomes z s t r N
becomes z s t r N e = record {
  here = ap (λ (f : ℕ → Node). f r) e ∙ update_here s.node r N;
  others = λ x l d. ap (λ (f : ℕ → Node). f x) e ∙ update_else s.node r N x d;
}

-- ---- receiving

-- the letter at place i may be taken
abbrev pub ready : State → ℕ → Bool
ready s i =
    (ltb i s.sent && eqb (s.letter i).mark travelling)
    && (s.live (s.letter i).receiver && leb (s.letter i).stage (taker s i).stage)

module _ (s : State) (i : ℕ) (h : ready s i ≡ true) where
  -- it was sent
  place : i < s.sent
  place = ltb-true i s.sent (grind arith)

  -- it is taken, whatever becomes of the nodes
  takes : (n : ℕ) (f : ℕ → Letter) (g : ℕ → Node) → Marks s (with_post n f g s) i taken → Takes s (with_post n f g s) i
  takes n f g m = record {
    place = place;
    travels = eqb-true (s.letter i).mark travelling (grind arith);
    alive = grind arith;
    not_ahead = leb-true (s.letter i).stage (taker s i).stage (grind arith);
    marks = m;
    book = same_book s n f g;
    chooser = same_chooser s n f g;
    live = refl;
  }

  -- no letter is sent
  marks : (g : ℕ → Node) → Marks s (with_post s.sent (took s i) g s) i taken
  marks g = record {
    here = update_here s.letter i (marked (s.letter i) taken);
    others = λ l k d. update_else s.letter i (marked (s.letter i) taken) l d;
  }

-- its receiver takes data of its own message m
abbrev pub own_data : ℕ → ℕ → State → State
own_data i m s = with_post s.sent (took s i) (update s.node (s.letter i).receiver (after_data m (taker s i))) s

-- that is a call
pub plays_own : (z : Size) (s : State) (i m : ℕ)
    → (ready s i && (eqb (s.letter i).kind data_letter &&
    (not ((taker s i).received m) && eqb (s.broadcaster m) (s.letter i).receiver))) ≡ true
    → (s.letter i).set ≡ only m → Call z s (own_data i m s)
plays_own z s i m h e =
    let p : ready s i ≡ true = (and_parts (ready s i) _ h).0 in
    let g = update s.node (s.letter i).receiver (after_data m (taker s i)) in
    receives_own i m (record {
      takes = takes s i p s.sent (took s i) g (marks s i p g);
      kind = eqb-true (s.letter i).kind data_letter (grind arith);
      message = e;
      new = grind arith;
      own = eqb-true (s.broadcaster m) (s.letter i).receiver (grind arith);
      silent = refl;
      becomes = becomes z s (own_data i m s) (s.letter i).receiver (after_data m (taker s i)) refl;
    })

-- its receiver takes data of another's message m, and sends it on
abbrev pub relayed : Size → ℕ → ℕ → State → State
relayed z i m s =
    with_post (s.sent + z.n) (posted s (took s i) (s.letter i).receiver data_letter 0 (only m))
    (update s.node (s.letter i).receiver (after_data m (taker s i))) s

-- that is a call
pub plays_relay : (z : Size) (s : State) (i m : ℕ)
    → (ready s i && (eqb (s.letter i).kind data_letter
    && (not ((taker s i).received m) && not (eqb (s.broadcaster m) (s.letter i).receiver)))) ≡ true
    → (s.letter i).set ≡ only m → Call z s (relayed z i m s)
plays_relay z s i m h e =
    let p : ready s i ≡ true = (and_parts (ready s i) _ h).0 in
    let r = (s.letter i).receiver in
    let f = posted s (took s i) r data_letter 0 (only m) in
    let g = update s.node r (after_data m (taker s i)) in
    relays i m (record {
      takes = takes s i p (s.sent + z.n) f g (record {
        here = append_old s.sent (took s i) (λ y. new_letter r y data_letter 0 (only m)) i (place s i p)
            ∙ update_here s.letter i (marked (s.letter i) taken);
        others = λ l k d. append_old s.sent (took s i) (λ y. new_letter r y data_letter 0 (only m)) l k
            ∙ update_else s.letter i (marked (s.letter i) taken) l d;
      });
      kind = eqb-true (s.letter i).kind data_letter (grind arith);
      message = e;
      new = grind arith;
      not_own = eqb-false (s.broadcaster m) r (grind arith);
      sends = record {
        places = refl;
        new = λ y l. append_new s.sent (took s i) (λ y. new_letter r y data_letter 0 (only m)) y;
      };
      becomes = becomes z s (relayed z i m s) r (after_data m (taker s i)) refl;
    })

-- its receiver hears an acknowledgement
abbrev pub heard_one : Size → ℕ → State → State
heard_one z i s =
    with_post s.sent (took s i)
    (update s.node (s.letter i).receiver (after_hearing z (s.letter i).sender (s.letter i).set (taker s i))) s

-- that is a call
pub plays_hear : (z : Size) (s : State) (i : ℕ)
    → (ready s i && (eqb (s.letter i).kind acknowledgement
    && (eqb (s.letter i).stage (taker s i).stage && not (taker s i).closing))) ≡ true
    → Call z s (heard_one z i s)
plays_hear z s i h =
    let p : ready s i ≡ true = (and_parts (ready s i) _ h).0 in
    let N = after_hearing z (s.letter i).sender (s.letter i).set (taker s i) in
    let g = update s.node (s.letter i).receiver N in
    hears i (record {
      takes = takes s i p s.sent (took s i) g (marks s i p g);
      kind = eqb-true (s.letter i).kind acknowledgement (grind arith);
      stage = eqb-true (s.letter i).stage (taker s i).stage (grind arith);
      gathering = grind arith;
      silent = refl;
      becomes = becomes z s (heard_one z i s) (s.letter i).receiver N refl;
    })

-- its receiver keeps a check
abbrev pub kept_one : ℕ → State → State
kept_one i s =
    with_post s.sent (took s i)
    (update s.node (s.letter i).receiver (with_check (s.letter i).sender (s.letter i).set (taker s i))) s

-- that is a call
pub plays_keep : (z : Size) (s : State) (i : ℕ)
    → (ready s i && (eqb (s.letter i).kind check_letter && (eqb (s.letter i).stage (taker s i).stage
    && (ltb (count z.n (taker s i).kept) z.chk && not ((taker s i).kept (s.letter i).sender))))) ≡ true
    → Call z s (kept_one i s)
plays_keep z s i h =
    let p : ready s i ≡ true = (and_parts (ready s i) _ h).0 in
    let N = with_check (s.letter i).sender (s.letter i).set (taker s i) in
    let g = update s.node (s.letter i).receiver N in
    keeps_check i (record {
      takes = takes s i p s.sent (took s i) g (marks s i p g);
      kind = eqb-true (s.letter i).kind check_letter (grind arith);
      stage = eqb-true (s.letter i).stage (taker s i).stage (grind arith);
      few = ltb-true (count z.n (taker s i).kept) z.chk (grind arith);
      new = grind arith;
      silent = refl;
      becomes = becomes z s (kept_one i s) (s.letter i).receiver N refl;
    })

-- ---- receiving what changes no node

-- the letter at place i is taken, and that is all
abbrev pub passed_over : ℕ → State → State
passed_over i s = with_post s.sent (took s i) s.node s

-- that is a call where it is data of a message that its receiver has
pub plays_known : (z : Size) (s : State) (i m : ℕ)
    → (ready s i && (eqb (s.letter i).kind data_letter && (taker s i).received m)) ≡ true → (s.letter i).set ≡ only m
    → Call z s (passed_over i s)
plays_known z s i m h e =
    let p : ready s i ≡ true = (and_parts (ready s i) _ h).0 in
    receives_known i m (record {
      takes = takes s i p s.sent (took s i) s.node (marks s i p s.node);
      kind = eqb-true (s.letter i).kind data_letter (grind arith);
      message = e;
      known = grind arith;
      silent = refl;
      nodes = λ x l. refl;
    })

-- and where it is an acknowledgement that its receiver does not hear
pub plays_pass_acknowledgement : (z : Size) (s : State) (i : ℕ)
    → (ready s i && eqb (s.letter i).kind acknowledgement) ≡ true
    → ((s.letter i).stage < (taker s i).stage) ⊎ ((taker s i).closing ≡ true) → Call z s (passed_over i s)
plays_pass_acknowledgement z s i h late =
    let p : ready s i ≡ true = (and_parts (ready s i) _ h).0 in
    passes_acknowledgement i (record {
      takes = takes s i p s.sent (took s i) s.node (marks s i p s.node);
      kind = eqb-true (s.letter i).kind acknowledgement (grind arith);
      late = late;
      silent = refl;
      nodes = λ x l. refl;
    })

-- and where it is a check that its receiver does not keep
pub plays_pass_check : (z : Size) (s : State) (i : ℕ) → (ready s i && eqb (s.letter i).kind check_letter) ≡ true
    → ((s.letter i).stage < (taker s i).stage) ⊎
    ((z.chk ≤ count z.n (taker s i).kept) ⊎ ((taker s i).kept (s.letter i).sender ≡ true)) → Call z s (passed_over i s)
plays_pass_check z s i h late =
    let p : ready s i ≡ true = (and_parts (ready s i) _ h).0 in
    passes_check i (record {
      takes = takes s i p s.sent (took s i) s.node (marks s i p s.node);
      kind = eqb-true (s.letter i).kind check_letter (grind arith);
      late = late;
      silent = refl;
      nodes = λ x l. refl;
    })
