-- What the letters and the decisions of a state say: the words in which the invariant is stated.
use Rattle.std.proofs.Common.{◌≡◌, ℕ, zero, suc, ◌/◌, ◌<◌, ◌≤◌, true, false, ◌&&◌, ◌||◌, ap, subst}
use Rattle.protocol.specs.Sets.{Set, ◌∈◌, ◌∉◌, count}
use Rattle.protocol.specs.Ring.{Size, State, Letter, data_letter, acknowledgement, check_letter}

-- ---- equal sets have the same members, and equal letters the same words

-- a member of a set is a member of an equal set
pub carry : (m : ℕ) {X Y : Set} → X ≡ Y → m ∈ X → m ∈ Y
carry m e h = subst (λ (Z : Set). m ∈ Z) e h

-- the sender of equal letters
pub same_sender : {A B : Letter} → A ≡ B → A.sender ≡ B.sender
same_sender e = ap (λ (L : Letter). L.sender) e

-- the receiver of equal letters
pub same_receiver : {A B : Letter} → A ≡ B → A.receiver ≡ B.receiver
same_receiver e = ap (λ (L : Letter). L.receiver) e

-- the kind of equal letters
pub same_kind : {A B : Letter} → A ≡ B → A.kind ≡ B.kind
same_kind e = ap (λ (L : Letter). L.kind) e

-- the mark of equal letters
pub same_mark : {A B : Letter} → A ≡ B → A.mark ≡ B.mark
same_mark e = ap (λ (L : Letter). L.mark) e

-- the stage of equal letters
pub same_stage : {A B : Letter} → A ≡ B → A.stage ≡ B.stage
same_stage e = ap (λ (L : Letter). L.stage) e

-- the set of equal letters
pub same_set : {A B : Letter} → A ≡ B → A.set ≡ B.set
same_set e = ap (λ (L : Letter). L.set) e

-- ---- what the letters say

-- the letter at place i was sent by x, is of the kind k and of the stage j
pub record Posted (s : State) (i k x j : ℕ) : Type 0 where
  pub place : i < s.sent
  pub kind : (s.letter i).kind ≡ k
  pub sender : (s.letter i).sender ≡ x
  pub stage : (s.letter i).stage ≡ j

-- x sent data of the message m
abbrev pub Told : State → ℕ → ℕ → Type 0
Told s x m = (i : ℕ) × Posted s i data_letter x 0 × (m ∈ (s.letter i).set)

-- x acknowledged the message m in stage j
abbrev pub Acknowledged : State → ℕ → ℕ → ℕ → Type 0
Acknowledged s x j m = (i : ℕ) × Posted s i acknowledgement x j × (m ∈ (s.letter i).set)

-- x sent a check of stage j with the set T
abbrev pub Checked : State → ℕ → ℕ → Set → Type 0
Checked s x j T = (i : ℕ) × Posted s i check_letter x j × ((s.letter i).set ≡ T)

-- ---- what the decisions say

-- the messages that the decisions of the stages before j hold
unfoldable pub past : State → ℕ → Set
past s zero m = false
past s (suc j) m = past s j m || (s.nonconflicting j m || s.conflicting j m)

-- every stage from 1 on and before j is decided
abbrev pub Settled : State → ℕ → Type 0
Settled s j = (i : ℕ) → 1 ≤ i → i < j → i ∈ s.decided

-- M is just what more than half of some chk checks of stage j hold
pub record Tallied (z : Size) (s : State) (j : ℕ) (M : Set) : Type 0 where
  pub voters : Set
  pub votes : ℕ → Set
  pub full : count z.n voters ≡ z.chk
  pub cast : (x : ℕ) → x < z.n → x ∈ voters → Checked s x j (votes x)
  pub most : (m : ℕ) → m ∈ M → z.chk / 2 < count z.n (λ x. voters x && votes x m)
  pub all : (m : ℕ) → z.chk / 2 < count z.n (λ x. voters x && votes x m) → m ∈ M

-- X holds two conflicting messages that no stage before j decided: the cause to close stage j
pub record Cause (s : State) (j : ℕ) (X : Set) : Type 0 where
  pub a : ℕ
  pub b : ℕ
  pub conflict : s.conflict a b ≡ true
  pub a_new : a ∉ past s j
  pub b_new : b ∉ past s j
  pub a_in : a ∈ X
  pub b_in : b ∈ X

-- a cause lies in every set that has the new messages of X
pub cause_in : {s : State} {j : ℕ} (X Y : Set) → ((m : ℕ) → m ∈ X → m ∉ past s j → m ∈ Y) → Cause s j X → Cause s j Y
cause_in X Y h c = record {
  a = c.a;
  b = c.b;
  conflict = c.conflict;
  a_new = c.a_new;
  b_new = c.b_new;
  a_in = h c.a c.a_in c.a_new;
  b_in = h c.b c.b_in c.b_new;
}

-- The order that the decisions fix: a was decided in an earlier stage than b; or both in one stage, a as nonconflicting and
-- b as conflicting; or both in one stage as conflicting, and a has the lower number.
pub data Precedes (s : State) (a b : ℕ) : Type 0 where
  earlier : (j : ℕ) → Settled s j → a ∈ past s j → b ∉ past s j → Precedes s a b
  sooner : (j : ℕ) → Settled s (suc j) → a ∉ past s j → b ∉ past s j
      → a ∈ s.nonconflicting j → b ∉ s.nonconflicting j → b ∈ s.conflicting j → Precedes s a b
  lower : (j : ℕ) → Settled s (suc j) → a ∉ past s j → b ∉ past s j
      → a ∉ s.nonconflicting j → b ∉ s.nonconflicting j → a ∈ s.conflicting j → b ∈ s.conflicting j → a < b → Precedes s a b

-- the place of a letter to y with the same words as the letter at place i
pub record Copy (s : State) (i y : ℕ) : Type 0 where
  pub l : ℕ
  pub place : l < s.sent
  pub sender : (s.letter l).sender ≡ (s.letter i).sender
  pub receiver : (s.letter l).receiver ≡ y
  pub kind : (s.letter l).kind ≡ (s.letter i).kind
  pub stage : (s.letter l).stage ≡ (s.letter i).stage
  pub set : (s.letter l).set ≡ (s.letter i).set
