-- A node by itself goes like the same node in a ring.
use Rattle.std.specs.Prelude.{◌≡◌, ℕ, ◌*◌, ◌<◌, ◌≤◌, Bool, true, false, cond, List, [], ◌∷◌, ◌++◌, take, drop, replicate, Ok, Err, Result}
use Rattle.std.specs.Prelude.{◌==◌, length, slice_index}
use Rattle.record.specs.Kind.{Kind, Laws}
use Rattle.chooser.specs.Meaning.{Meaning, Sound}
use Rattle.rows.specs.Conflicts.{no_command}
use Rattle.rows.specs.Letters.{no_letter}
use Rattle.rows.specs.declared.letter.Letter.{Letter}
use Rattle.rows.specs.declared.refusal.Refusal.{Refusal}
use Rattle.rows.specs.declared.refusal.Refusal.TheVariants.{NodesOutOfRange, QuorumTooLarge, QuorumTooSmall, WrongTableSize}
use Rattle.rows.specs.declared.refusal.Refusal.TheVariants.{NeedAboveQuorum, ChooserInUse, NotStarted, NoSuchNode, NodeCrashed}
use Rattle.rows.specs.declared.refusal.Refusal.TheVariants.{UnlawfulCommand, BookFull, TrayFull, PlaceUnused, NotTravelling}
use Rattle.rows.specs.declared.refusal.Refusal.TheVariants.{SpoiltLetter, LaterStage, NothingNew, TooFewChecks, Undecided, Chooser}
use Rattle.rows.specs.declared.refusal.Refusal.TheVariants.{NobodyCrashed, Unplayable, MarkBeyondSheet}
use Rattle.rows.specs.declared.size.RingSize.{RingSize}
use Rattle.ring.specs.World.{World, row_of, letter_at}
use Rattle.ring.specs.Start.{Starts}
use Rattle.ring.specs.Day.{Day, begins, broadcasts, receives, steps, crashes, loses}
use Rattle.ring.specs.Promises.{lives, broadcaster}
use Rattle.ring.specs.declared.step.Step.{Step}
use Rattle.node.specs.Tables.{Lent, lent}
use Rattle.node.specs.Takes.{nobody}
use Rattle.node.specs.Events.{Event, told, took, turned, Alone}
use Rattle.node.specs.declared.gathering_node.Gathering.{Gathering}
use Rattle.node.specs.declared.member.Member.{Member}

-- ---- what a node of a ring is given on a day

-- whether a cause lies in the node, its letter or its chooser, and not in the ring or its tray
abbrev pub is_its_own : Refusal → Bool
is_its_own NotTravelling = true
is_its_own SpoiltLetter = true
is_its_own LaterStage = true
is_its_own NothingNew = true
is_its_own TooFewChecks = true
is_its_own Undecided = true
is_its_own (Chooser e) = true
is_its_own NodesOutOfRange = false
is_its_own QuorumTooLarge = false
is_its_own QuorumTooSmall = false
is_its_own WrongTableSize = false
is_its_own NeedAboveQuorum = false
is_its_own ChooserInUse = false
is_its_own NotStarted = false
is_its_own NoSuchNode = false
is_its_own NodeCrashed = false
is_its_own UnlawfulCommand = false
is_its_own BookFull = false
is_its_own TrayFull = false
is_its_own PlaceUnused = false
is_its_own NobodyCrashed = false
is_its_own Unplayable = false
is_its_own MarkBeyondSheet = false

-- an answer of the node itself
abbrev pub is_answered : {X : Type 0} → Result X Refusal → Bool
is_answered (Ok x) = true
is_answered (Err e) = is_its_own e

-- the letters that were put into the tray between two worlds
abbrev pub posted : World → World → List Letter
posted w v = drop w.ring.used (take v.ring.used v.tray)

-- a receipt: the letter, where the node is its receiver and the answer is the node's
abbrev pub given : ℕ → World → ℕ → Result (Unit {0}) Refusal → World → List Event
given i w place r v =
    cond ((letter_at w place).receiver == i) (cond (is_answered r) (took (letter_at w place) r (posted w v) ∷ []) []) []

-- a step: the turn, where it is the node's and so is the answer
abbrev pub stepped : ℕ → World → Meaning → ℕ → Result Step Refusal → World → Meaning → List Event
stepped i w M node r v N = cond (node == i) (cond (is_answered r) (turned M r N (posted w v) ∷ []) []) []

-- all that it is given on a day, in order: word of every accepted broadcast, its letters, and its turns
abbrev pub given_on : {K : Kind} {w₀ : World} {M₀ : Meaning} {w : World} {M : Meaning} → ℕ → Day K w₀ M₀ w M → List Event
given_on i begins = []
given_on i (broadcasts w M node c (Ok m) v d h) = given_on i d ++ told m node c ∷ []
given_on i (broadcasts w M node c (Err e) v d h) = given_on i d
given_on i (receives w M place r v d h) = given_on i d ++ given i w place r v
given_on i (steps w M node r v N d h sound) = given_on i d ++ stepped i w M node r v N
given_on i (crashes w M node r s d h) = given_on i d
given_on i (loses w M place r v d h) = given_on i d

-- ---- the law

-- tables before the first call
abbrev pub blank : RingSize → Lent
blank z = lent (replicate 64 no_command) (replicate 64 nobody) (replicate z.n no_letter) (replicate 64 0)

-- node i of a ring, as a node by itself would be
abbrev pub member_in : RingSize → World → ℕ → Member
member_in z w i = record { number = i; size = z; row = row_of w i }

-- the 64 bytes of its sheet
abbrev pub sheet_part : World → ℕ → List ℕ
sheet_part w i = take 64 (drop (64 * i) w.sheets)

-- a table of who broadcast each message of a ring
pub record Names (w : World) (broadcasters : List ℕ) : Type 0 where
  pub places : length broadcasters ≡ 64
  pub broadcast : (m : ℕ) → m < w.ring.messages → slice_index broadcasters m ≡ broadcaster w m
  pub others : (m : ℕ) → w.ring.messages ≤ m → m < 64 → slice_index broadcasters m ≡ nobody

-- A node by itself that was given these events has the row and the sheet of node i in the ring. Its book is the ring's,
-- and its table names the ring's broadcasters.
pub record GoesAlike (K : Kind) (z : RingSize) (m₀ : Member) (i : ℕ) (w : World) (es : List Event) : Type 0 where
  pub broadcasters : List ℕ
  pub letters : List Letter
  pub named : Names w broadcasters
  pub alone : Alone K es m₀ (blank z) (member_in z w i) (lent w.book broadcasters letters (sheet_part w i))

-- It can come to no other row and to no other sheet.
abbrev pub NowhereElse : Kind → RingSize → Member → ℕ → World → List Event → Type 0
NowhereElse K z m₀ i w es =
    (k : Member) (u : Lent) → Alone K es m₀ (blank z) k u → (k.row ≡ row_of w i) × (u.sheet ≡ sheet_part w i)

-- Whatever day a ring of that size has, with whatever kind of record and chooser: as long as the node lives there, the
-- node by itself, given what that node is given on the day, answers the same to each call that it has for it, sends the
-- same letters, and comes to the same row and the same sheet.
abbrev pub GoesAsInARing : RingSize → ℕ → Result Gathering Refusal → Type 0
GoesAsInARing z i (Ok g) =
    (K : Kind) → Laws K → (u v : World) (M : Meaning) → Sound M → Starts z u M (Ok tt) v →
    (w : World) (N : Meaning) (d : Day K v M w N) → lives w i ≡ true →
    GoesAlike K z g.member i w (given_on i d) × NowhereElse K z g.member i w (given_on i d)
GoesAsInARing z i (Err e) = Unit {0}
