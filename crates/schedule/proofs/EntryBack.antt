-- The bytes of an entry read back.
use Rattle.std.proofs.Common.{◌≡◌, ℕ, ◌+◌, ◌<◌, ◌≤◌, true, cond, eqb, leb, List, [], ◌∷◌, ◌++◌, length, take, drop, ℤ, pos}
use Rattle.std.proofs.Common.{negsuc, ◌-ℤ◌, ◌≤ℤ◌, Ok, Err, sym, refl, ap, ◌∙◌, arith}
use Rattle.std.proofs.lemmas.List.{append-nil, drop_at, length-append, length-drop, drop-take, take_at, length-take-le}
use Rattle.std.proofs.lemmas.Int.{ints}
use Rattle.std.proofs.lemmas.Bool.{cond-true, le-leb, leb-true, eq-eqb}
use Rattle.record.specs.declared.command.Command.{Command}
use Rattle.schedule.specs.declared.draft.Draft.{Draft}
use Rattle.schedule.specs.declared.draft.Draft.TheVariants.{Broadcast, Receive, Step, Crash, Lose}
use Rattle.schedule.specs.declared.fault.CommandFault.TheVariants.{BytesLeft}
use Rattle.schedule.specs.Numbers.{spell}
use Rattle.schedule.specs.declared.kind.EntryKind.{EntryKind}
use Rattle.schedule.specs.declared.kind.EntryKind.TheVariants as kinds
use Rattle.schedule.specs.Commands.{command_at, command_of}
use Rattle.schedule.specs.Kinds.{entry_kind}
use Rattle.schedule.specs.Entries.{Act, broadcast, receive, step, crash, lose, single_at, body_at, act_at, entry_at}
use Rattle.schedule.specs.Drafts.{raised, fields, spelled, spelling, within, act_drafted}
use Rattle.schedule.specs.Drafts.{CommandInRange, InRange}
use Rattle.schedule.specs.Laws.{ReadsBack}
use Rattle.schedule.proofs.Back.{next}
use Rattle.schedule.proofs.Lengths.{length_spell, spell_some, length_2, length_4}

-- an amount reads back
raised_back : (a : ℤ) → negsuc 32767 ≤ℤ a → pos (raised a) -ℤ pos 32768 ≡ a
raised_back a h = omega (arith, ints)

-- an amount is written within its limit
raised_most : (a : ℤ) → negsuc 32767 ≤ℤ a → a ≤ℤ pos 32767 → raised a ≤ 65535
raised_most a h k = omega (arith, ints)

-- a command that takes up the rest reads back
command_back : (c : Command) (bytes : List ℕ) (p : ℕ) → CommandInRange c → p ≤ length bytes →
    drop p bytes ≡ spelled (fields c) → command_at bytes p ≡ Ok c
command_back c bytes p f l e =
    let a = raised c.amount in
    let whole = e ∙ sym (append-nil (spelled (fields c))) in
    let n1 = next 255 c.verb (c.subject ∷ c.day ∷ a ∷ []) [] bytes p f.verb (omega arith) whole in
    let p1 = p + length (spell c.verb) in
    let n2 = next 65535 c.subject (c.day ∷ a ∷ []) [] bytes p1 f.subject (omega arith) n1.1 in
    let p2 = p1 + length (spell c.subject) in
    let n3 = next 65535 c.day (a ∷ []) [] bytes p2 f.day (omega arith) n2.1 in
    let p3 = p2 + length (spell c.day) in
    let n4 = next 65535 a [] [] bytes p3 (raised_most c.amount f.low f.high) (omega arith) n3.1 in
    let p4 = p3 + length (spell a) in
    let end : p4 ≡ length bytes =
    omega (arith, ap length e, length-drop p bytes, length_4 c.verb c.subject c.day a) in
    let last : cond (eqb p4 (length bytes))
    (Ok (command_of c.verb c.subject c.day a)) (Err (BytesLeft p4)) ≡ Ok c =
    cond-true (eqb p4 (length bytes)) _ _ (eq-eqb p4 (length bytes) end)
    ∙ ap (λ x. Ok (record { verb = c.verb; subject = c.subject; day = c.day; amount = x }))
    (raised_back c.amount f.low) in
    simp (n1.0, n2.0, n3.0, n4.0) last

-- a body reads back
body_back : (c : Command) (ys bytes : List ℕ) (p : ℕ) → CommandInRange c → drop p bytes ≡ spelled (fields c) ++ ys →
    body_at (length (spelled (fields c))) bytes p
    ≡ Ok ((c, spelled (fields c)), p + length (spelled (fields c)))
body_back c ys bytes p f e =
    let s = spelled (fields c) in
    let n = length s in
    let some : 0 < n =
    omega (arith, length_4 c.verb c.subject c.day (raised c.amount), spell_some c.verb) in
    let fits : p + n ≤ length bytes = omega (arith, ap length e, length-drop p bytes, length-append s ys) in
    let part : take n (drop p bytes) ≡ s = ap (take n) e ∙ take_at s ys n refl in
    let inner : command_at (take (p + n) bytes) p ≡ Ok c =
    command_back c (take (p + n) bytes) p f (omega (arith, length-take-le (p + n) bytes fits))
    (drop-take p n bytes ∙ part) in
    cond-true (leb (p + n) (length bytes)) _ _ (le-leb (p + n) (length bytes) fits) ∙ simp (inner, part)

module _ (ys bytes : List ℕ) (p : ℕ) where
  -- an entry of a kind, which goes by the number k, and one number reads back
  single_back : (kind : EntryKind) (k x limit : ℕ) (make : ℕ → Act) → entry_kind k ≡ Ok kind → k ≤ 255 →
      x ≤ limit → limit < 65536 → ((q : ℕ) → act_at kind bytes q ≡ single_at limit make bytes q) →
      drop p bytes ≡ spelled (k ∷ x ∷ []) ++ ys →
      entry_at bytes p ≡ Ok (make x, p + length (spelled (k ∷ x ∷ [])))
  single_back kind k x limit make known hk hx hl is e =
      let n1 = next 255 k (x ∷ []) ys bytes p hk (omega arith) e in
      let q = p + length (spell k) in
      let n2 = next limit x [] ys bytes q hx hl n1.1 in
      let place : q + length (spell x) ≡ p + length (spelled (k ∷ x ∷ [])) = omega (arith, length_2 k x) in
      simp (n1.0, known, is q, n2.0) (ap (λ i. Ok (make x, i)) place)

  -- a broadcast reads back
  broadcast_back : (node : ℕ) (c : Command) → node ≤ 255 → CommandInRange c →
      drop p bytes ≡ spelling (Broadcast node c) ++ ys →
      entry_at bytes p ≡ Ok (broadcast node c (spelled (fields c)), p + length (spelling (Broadcast node c)))
  broadcast_back node c hn f e =
      let s = spelled (fields c) in
      let n = length s in
      let a = raised c.amount in
      let most : n ≤ 65535 =
      omega (
        arith,
        length_4 c.verb c.subject c.day a,
        length_spell c.verb,
        length_spell c.subject,
        length_spell c.day,
        length_spell a,
      ) in
      let n1 = next 255 1 (node ∷ n ∷ fields c) ys bytes p (omega arith) (omega arith) e in
      let p1 = p + length (spell 1) in
      let n2 = next 255 node (n ∷ fields c) ys bytes p1 hn (omega arith) n1.1 in
      let p2 = p1 + length (spell node) in
      let n3 = next 65535 n (fields c) ys bytes p2 most (omega arith) n2.1 in
      let p3 = p2 + length (spell n) in
      let b = body_back c ys bytes p3 f n3.1 in
      let place : p3 + n ≡ p + length (spelling (Broadcast node c)) =
      omega (
        arith,
        length-append (spell 1) (spell node ++ (spell n ++ s)),
        length-append (spell node) (spell n ++ s),
        length-append (spell n) s,
      ) in
      simp (n1.0, n2.0, n3.0, b) (ap (λ i. Ok (broadcast node c s, i)) place)

  -- an entry whose bytes stand at a place reads back
  pub entry_back : (d : Draft) → within d ≡ true → InRange d → drop p bytes ≡ spelling d ++ ys →
      entry_at bytes p ≡ Ok (act_drafted d, p + length (spelling d))
  entry_back (Broadcast node c) w f e = broadcast_back node c (leb-true node 255 w) f e
  entry_back (Receive x) w f e =
      single_back kinds.Receive 2 x 65535 receive refl (omega arith) (leb-true x 65535 w) (omega arith) (λ q. refl) e
  entry_back (Step x) w f e =
      single_back kinds.Step 3 x 255 step refl (omega arith) (leb-true x 255 w) (omega arith) (λ q. refl) e
  entry_back (Crash x) w f e =
      single_back kinds.Crash 4 x 255 crash refl (omega arith) (leb-true x 255 w) (omega arith) (λ q. refl) e
  entry_back (Lose x) w f e =
      single_back kinds.Lose 5 x 65535 lose refl (omega arith) (leb-true x 65535 w) (omega arith) (λ q. refl) e

-- whatever stands before an entry and after it
pub reads_back : (d : Draft) (n : ℕ) → within d ≡ true → InRange d → n ≡ length (spelling d) → ReadsBack d n
reads_back d n w f e before after =
    let bytes = before ++ (spelling d ++ after) in
    let p = length before in
    entry_back after bytes p d w f (drop_at before (spelling d ++ after) p refl)
    ∙ ap (λ i. Ok (act_drafted d, p + i)) (sym e)
