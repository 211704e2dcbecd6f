-- The world of a ring and the meaning of its chooser, seen as a state of the protocol; and what is known of them besides.
use Rattle.std.proofs.Common.{◌≡◌, ℕ, zero, suc, ◌*◌, ◌^◌, ◌<◌, ◌≤◌, Bool, true, false, cond, not, eqb, List, [], ◌∷◌, length}
use Rattle.std.proofs.Common.{get_or, take, drop, Some, None, Option, arith}
use lib.Count.{ones}
use Rattle.record.specs.Kind.{Kind}
use Rattle.chooser.specs.Meaning.{Meaning, Sound, has_proposed}
use Rattle.chooser.specs.declared.proposal.Proposal.{Proposal}
use Rattle.protocol.specs.Ring.{Size, State}
use Rattle.protocol.specs.Ring.{Node as Seen-node, Letter as Seen-letter}
use Rattle.protocol.proofs.Invariant.{Ok}
use Rattle.rows.specs.Conflicts.{command_of}
use Rattle.rows.specs.Letters.{no_letter}
use Rattle.rows.specs.Masks.{has}
use Rattle.rows.specs.Receipts.{from_sender, is_gathering, is_proposed}
use Rattle.rows.specs.Rows.{no_check, on_sheet}
use Rattle.rows.specs.declared.letter.Letter.{Letter}
use Rattle.rows.specs.declared.row.Check.{Check}
use Rattle.rows.specs.declared.row.Row.{Row}
use Rattle.rows.specs.declared.size.RingSize.{RingSize}
use Rattle.ring.specs.World.{World, row_of, wrong_sizes}
use Rattle.ring.specs.Promises.{conflict, lives, broadcaster}

-- ---- the state that a world is seen as

-- the set of the check that is kept from a sender
unfoldable pub check_from : List Check → ℕ → ℕ → ℕ
check_from checks x zero = 0
check_from checks x (suc k) =
    cond (eqb (get_or checks k no_check).sender x) (get_or checks k no_check).set (check_from checks x k)

-- the nonconflicting set that a node proposed
abbrev pub first_of : List Proposal → ℕ → ℕ
first_of [] x = 0
first_of (p ∷ ps) x = cond (eqb p.node x) p.nonconflicting (first_of ps x)

-- the conflicting one
abbrev pub second_of : List Proposal → ℕ → ℕ
second_of [] x = 0
second_of (p ∷ ps) x = cond (eqb p.node x) p.conflicting (second_of ps x)

-- whether there is a decision
abbrev pub stands : Option (ℕ × ℕ) → Bool
stands None = false
stands (Some p) = true

-- its nonconflicting set
abbrev pub left_of : Option (ℕ × ℕ) → ℕ
left_of None = 0
left_of (Some p) = p.0

-- its conflicting set
abbrev pub right_of : Option (ℕ × ℕ) → ℕ
right_of None = 0
right_of (Some p) = p.1

-- a letter with its mask as a set
abbrev pub seen_letter : Letter → Seen-letter
seen_letter l = record {
  sender = l.sender;
  receiver = l.receiver;
  kind = l.kind;
  mark = l.mark;
  stage = l.stage;
  set = has l.set;
}

-- a row with its masks as sets, and a sheet
abbrev pub seen_row : Row → List ℕ → Seen-node
seen_row row sheet = record {
  stage = row.stage;
  received = has row.received;
  delivered = has row.delivered;
  pending = has row.pending;
  early = has row.early;
  heard = λ m. has (get_or row.heard m 0);
  kept = λ x. from_sender row.checks x row.checked;
  check = λ x. has (check_from row.checks x row.checked);
  closing = not (is_gathering row.phase);
  proposed = is_proposed row.phase;
  sheet = sheet;
}

-- the used part of a sheet
abbrev pub shown : List ℕ → ℕ → Row → List ℕ
shown sheets r row = take (ones (on_sheet row)) (drop (64 * r) sheets)

-- a node: its row and the used part of its sheet
abbrev pub seen_node : List ℕ → ℕ → Row → Seen-node
seen_node sheets r row = seen_row row (shown sheets r row)

-- the world and the meaning of its chooser
abbrev pub seen : Kind → World → Meaning → State
seen K w M = record {
  messages = w.ring.messages;
  conflict = conflict K w;
  broadcaster = broadcaster w;
  sent = w.ring.used;
  letter = λ i. seen_letter (get_or w.tray i no_letter);
  node = λ r. seen_node w.sheets r (row_of w r);
  live = lives w;
  proposers = λ j x. has_proposed x (M.proposals j);
  proposal_nonconflicting = λ j x. has (first_of (M.proposals j) x);
  proposal_conflicting = λ j x. has (second_of (M.proposals j) x);
  decided = λ j. stands (M.decision j);
  nonconflicting = λ j. has (left_of (M.decision j));
  conflicting = λ j. has (right_of (M.decision j));
}

-- ---- what is known besides

-- the first k checks are of different nodes below n
abbrev pub Apart : ℕ → List Check → ℕ → Type 0
Apart n checks zero = Unit {0}
Apart n checks (suc k) =
    ((get_or checks k no_check).sender < n) × (from_sender checks (get_or checks k no_check).sender k ≡ false) × Apart n checks k

-- the proposals are of different nodes below n
abbrev pub Listed : ℕ → List Proposal → Type 0
Listed n [] = Unit {0}
Listed n (p ∷ ps) = (p.node < n) × (has_proposed p.node ps ≡ false) × Listed n ps

-- a row of a node: its tables have their sizes and name nodes of the ring
pub record RowFine (z : RingSize) (row : Row) : Type 0 where
  pub heard_length : length row.heard ≡ 64
  pub heard_nodes : (m : ℕ) → get_or row.heard m 0 < 2 ^ z.n
  pub checks_length : length row.checks ≡ 7
  pub checks_few : row.checked ≤ z.q
  pub checks_apart : Apart z.n row.checks row.checked

-- the chooser: its meaning is sound, its need is the one of the start, and only nodes of the ring proposed
pub record ChooserFine (z : RingSize) (need : ℕ) (M : Meaning) : Type 0 where
  pub sound : Sound M
  pub need_is : M.need ≡ need
  pub listed : (j : ℕ) → Listed z.n (M.proposals j)

-- the world: its tables have their sizes, all commands of messages are lawful, and nodes beyond the ring have no sheet
pub record Fine (K : Kind) (z : RingSize) (w : World) : Type 0 where
  pub size : w.ring.size ≡ Some z
  pub nodes_length : length w.ring.nodes ≡ 7
  pub broadcasters_length : length w.ring.broadcasters ≡ 64
  pub rows : (r : ℕ) → r < z.n → RowFine z (row_of w r)
  pub tables : wrong_sizes (length w.tray) (length w.book) (length w.sheets) ≡ false
  pub used_in_tray : w.ring.used ≤ length w.tray
  pub lawful : (m : ℕ) → m < w.ring.messages → K.taking.lawful (command_of w.book m) ≡ true

-- ---- the two together

-- the size of the ring, with the chooser's need
abbrev pub size_of : (z : RingSize) (need : ℕ) → 1 ≤ need → need ≤ z.q → Size
size_of z need low high = record {
  n = z.n;
  ack = z.q;
  chk = z.q;
  need = need;
  ack_le = z.within;
  chk_le = z.within;
  meet = omega (arith, z.quorum);
  need_pos = low;
  need_le = high;
  n_le = z.high;
}

-- a world of a day: it is seen as a state that keeps the protocol's invariant, and what is known besides holds
pub record Joined (K : Kind) (z : RingSize) (need : ℕ) (low : 1 ≤ need) (high : need ≤ z.q) (w : World) (M : Meaning)
    : Type 0 where
  pub ok : Ok (size_of z need low high) (seen K w M)
  pub fine : Fine K z w
  pub chooser : ChooserFine z need M
