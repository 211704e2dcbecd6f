-- An entry has one spelling.
use Rattle.std.proofs.Common.{◌≡◌, ℕ, ◌+◌, ◌<◌, ◌≤◌, true, eqb, leb, List, [], ◌∷◌, ◌++◌, length, take, drop, pos, ◌-ℤ◌, Ok, sym}
use Rattle.std.proofs.Common.{refl, ap, ◌∙◌, subst, ⊎_elim, arith}
use Rattle.std.proofs.lemmas.List.{append_assoc, append-nil, drop-drop, drop_all, length-drop, drop-take, length-take-le}
use Rattle.std.proofs.lemmas.List.{take-append-drop}
use Rattle.std.proofs.lemmas.Int.{ints}
use Rattle.std.proofs.lemmas.Bool.{le-leb, leb-true, eqb-true}
use Rattle.std.proofs.ByRecursion.{All-take}
use Rattle.record.specs.declared.command.Command.{Command}
use Rattle.schedule.specs.declared.draft.Draft.TheVariants.{Broadcast}
use Rattle.schedule.specs.declared.fault.CommandFault.TheVariants.{BadNumber, BytesLeft}
use Rattle.schedule.specs.declared.fault.EntryFault.TheVariants.{InNumber, InCommand, BodyTooLong}
use Rattle.schedule.specs.Numbers.{spell, number_at}
use Rattle.schedule.specs.declared.kind.EntryKind.{EntryKind}
use Rattle.schedule.specs.declared.kind.EntryKind.TheVariants as kinds
use Rattle.schedule.specs.Commands.{command_at, command_of}
use Rattle.schedule.specs.Kinds.{entry_kind, number_of_kind, kind_at}
use Rattle.schedule.specs.Entries.{Act, broadcast, receive, step, crash, lose}
use Rattle.schedule.specs.Entries.{single_at, body_at, broadcast_at, act_at, entry_at}
use Rattle.schedule.specs.Drafts.{raised, fields, spelled, numbers_of, spelling, within, act_drafted, draft_of}
use Rattle.schedule.proofs.ByteLists.{AllBytes}
use Rattle.schedule.specs.Laws.{OneSpelling}
use Rattle.schedule.proofs.Steps.{through_ok, cond_is, err_ok, same_ok, kind_ok, entry_kind_number}
use Rattle.schedule.proofs.Once.{read_once}

-- the bytes of a command that was read are those of its four numbers
command_once : (bytes : List ℕ) (p : ℕ) (c : Command) → AllBytes bytes → command_at bytes p ≡ Ok c →
    drop p bytes ≡ spelled (fields c)
command_once bytes p c f e =
    let g1 = through_ok BadNumber (number_at 255 bytes p) _ c e in
    let v : ℕ × ℕ = g1.0 in
    let g2 = through_ok BadNumber (number_at 65535 bytes v.1) _ c g1.2 in
    let s : ℕ × ℕ = g2.0 in
    let g3 = through_ok BadNumber (number_at 65535 bytes s.1) _ c g2.2 in
    let d : ℕ × ℕ = g3.0 in
    let g4 = through_ok BadNumber (number_at 65535 bytes d.1) _ c g3.2 in
    let a : ℕ × ℕ = g4.0 in
    let r1 = read_once 255 p v.0 v.1 bytes (omega arith) f g1.1 in
    let r2 = read_once 65535 v.1 s.0 s.1 bytes (omega arith) f g2.1 in
    let r3 = read_once 65535 s.1 d.0 d.1 bytes (omega arith) f g3.1 in
    let r4 = read_once 65535 d.1 a.0 a.1 bytes (omega arith) f g4.1 in
    ⊎_elim
    (λ h. let same : command_of v.0 s.0 d.0 a.0 ≡ c = same_ok _ _ h.1 in
    let end : drop a.1 bytes ≡ [] =
    drop_all a.1 bytes (omega (arith, eqb-true a.1 (length bytes) h.0)) in
    let back : a.0 ≡ raised (pos a.0 -ℤ pos 32768) = omega (arith, ints) in
    r1.0 ∙ (ap (λ l. spell v.0 ++ l) (r2.0 ∙ ap (λ l. spell s.0 ++ l)
    (r3.0 ∙ ap (λ l. spell d.0 ++ l)
    (r4.0 ∙ (ap (λ l. spell a.0 ++ l) end ∙ ap (λ n. spell n ++ []) back))))
    ∙ ap (λ k. spelled (fields k)) same))
    (λ h. absurd (err_ok (BytesLeft a.1) c h.1))
    (cond_is (eqb a.1 (length bytes)) _ _ (Ok c) g4.2)

-- two numbers, one after the other
two : (k v : ℕ) (bytes ys : List ℕ) (p q : ℕ) → drop p bytes ≡ spell k ++ drop q bytes →
    drop q bytes ≡ spell v ++ ys → drop p bytes ≡ spelled (k ∷ v ∷ []) ++ ys
two k v bytes ys p q e f =
    e ∙ (ap (λ l. spell k ++ l) (f ∙ ap (λ l. l ++ ys) (sym (append-nil (spell v))))
    ∙ sym (append_assoc (spell k) (spell v ++ []) ys))

-- the law, of what was read and the place after it
abbrev Spelled : List ℕ → ℕ → Act × ℕ → Type 0
Spelled bytes p x = OneSpelling bytes p x.0 x.1

-- an entry of a kind and one number
single_once : (limit k : ℕ) (make : ℕ → Act) (bytes : List ℕ) (p q : ℕ) (x : Act × ℕ) →
    limit < 65536 → AllBytes bytes →
    ((v : ℕ) → act_drafted (draft_of (make v)) ≡ make v) →
    ((v : ℕ) → v ≤ limit → within (draft_of (make v)) ≡ true) →
    ((v : ℕ) → numbers_of (draft_of (make v)) ≡ k ∷ v ∷ []) →
    drop p bytes ≡ spell k ++ drop q bytes → single_at limit make bytes q ≡ Ok x → Spelled bytes p x
single_once limit k make bytes p q x l f m w n e h =
    let g = through_ok InNumber (number_at limit bytes q) _ x h in
    let v : ℕ × ℕ = g.0 in
    let s : ◌≡◌ {A = Act × ℕ} (make v.0, v.1) x = same_ok _ _ g.2 in
    let r = read_once limit q v.0 v.1 bytes l f g.1 in
    let bytes-are : drop p bytes ≡ spelling (draft_of (make v.0)) ++ drop v.1 bytes =
    two k v.0 bytes (drop v.1 bytes) p q e r.0
    ∙ ap (λ (l : List ℕ). spelled l ++ drop v.1 bytes) (sym (n v.0)) in
    subst (Spelled bytes p) s (w v.0 r.1, m v.0, bytes-are)

-- a body that was read holds the bytes of its command, and is as long
body_once : (n p : ℕ) (bytes : List ℕ) (x : (Command × List ℕ) × ℕ) → AllBytes bytes → body_at n bytes p ≡ Ok x →
    (spelled (fields x.0.0) ≡ x.0.1) × (n ≡ length (spelled (fields x.0.0)))
    × (drop p bytes ≡ spelled (fields x.0.0) ++ drop x.1 bytes)
body_once n p bytes x f e = ⊎_elim
    (λ h. let g = through_ok InCommand (command_at (take (p + n) bytes) p) _ x h.1 in
    let c : Command = g.0 in
    let s : ◌≡◌ {A = (Command × List ℕ) × ℕ} ((c, take n (drop p bytes)), p + n) x = same_ok _ _ g.2 in
    let fits : p + n ≤ length bytes = leb-true (p + n) (length bytes) h.0 in
    let part : take n (drop p bytes) ≡ spelled (fields c) =
    sym (drop-take p n bytes)
    ∙ command_once (take (p + n) bytes) p c (All-take (λ b. b < 256) (p + n) bytes f) g.1 in
    let size : length (take n (drop p bytes)) ≡ n =
    length-take-le n (drop p bytes) (omega (arith, length-drop p bytes)) in
    let P : (Command × List ℕ) × ℕ → Type 0 = λ y.
    (spelled (fields y.0.0) ≡ y.0.1) × (n ≡ length (spelled (fields y.0.0)))
    × (drop p bytes ≡ spelled (fields y.0.0) ++ drop y.1 bytes) in
    subst P s (
      sym part,
      sym size ∙ ap length part,
      sym (take-append-drop n (drop p bytes))
          ∙ (ap (λ l. l ++ drop n (drop p bytes)) part ∙ ap (λ l. spelled (fields c) ++ l) (drop-drop n p bytes)),
    ))
    (λ h. absurd (err_ok (BodyTooLong p) x h.1))
    (cond_is (leb (p + n) (length bytes)) _ _ (Ok x) e)

-- a broadcast
broadcast_once : (bytes : List ℕ) (p q : ℕ) (x : Act × ℕ) → AllBytes bytes →
    drop p bytes ≡ spell 1 ++ drop q bytes → broadcast_at bytes q ≡ Ok x → Spelled bytes p x
broadcast_once bytes p q x f e h =
    let g = through_ok InNumber (number_at 255 bytes q) _ x h in
    let node : ℕ × ℕ = g.0 in
    let g2 = through_ok InNumber (number_at 65535 bytes node.1) _ x g.2 in
    let n : ℕ × ℕ = g2.0 in
    let g3 = through_ok (λ f. f) (body_at n.0 bytes n.1) _ x g2.2 in
    let b : (Command × List ℕ) × ℕ = g3.0 in
    let c : Command = b.0.0 in
    let s : ◌≡◌ {A = Act × ℕ} (broadcast node.0 c b.0.1, b.1) x = same_ok _ _ g3.2 in
    let r1 = read_once 255 q node.0 node.1 bytes (omega arith) f g.1 in
    let r2 = read_once 65535 node.1 n.0 n.1 bytes (omega arith) f g2.1 in
    let r3 = body_once n.0 n.1 bytes b f g3.1 in
    let w = spelled (fields c) in
    let rest = drop b.1 bytes in
    let tail : spell n.0 ++ (w ++ rest) ≡ (spell (length w) ++ w) ++ rest =
    ap (λ i. spell i ++ (w ++ rest)) r3.1 ∙ sym (append_assoc (spell (length w)) w rest) in
    let bytes-are : drop p bytes ≡ spelling (Broadcast node.0 c) ++ rest =
    e ∙ (ap (λ l. spell 1 ++ l) (r1.0 ∙ (ap (λ l. spell node.0 ++ l)
    (r2.0 ∙ (ap (λ l. spell n.0 ++ l) r3.2 ∙ tail))
    ∙ sym (append_assoc (spell node.0) (spell (length w) ++ w) rest)))
    ∙ sym (append_assoc (spell 1) (spell node.0 ++ (spell (length w) ++ w)) rest)) in
    subst (Spelled bytes p) s
    (le-leb node.0 255 r1.1, ap (λ l. broadcast node.0 c l) r3.0, bytes-are)

-- what follows a kind, behind the number of the kind
act_once : (k : EntryKind) (bytes : List ℕ) (p q : ℕ) (x : Act × ℕ) → AllBytes bytes →
    drop p bytes ≡ spell (number_of_kind k) ++ drop q bytes → act_at k bytes q ≡ Ok x → Spelled bytes p x
act_once kinds.Broadcast bytes p q x f e h = broadcast_once bytes p q x f e h
act_once kinds.Receive bytes p q x f e h =
    single_once 65535 2 receive bytes p q x (omega arith) f (λ v. refl) (λ v l. le-leb v 65535 l) (λ v. refl) e h
act_once kinds.Step bytes p q x f e h =
    single_once 255 3 step bytes p q x (omega arith) f (λ v. refl) (λ v l. le-leb v 255 l) (λ v. refl) e h
act_once kinds.Crash bytes p q x f e h =
    single_once 255 4 crash bytes p q x (omega arith) f (λ v. refl) (λ v l. le-leb v 255 l) (λ v. refl) e h
act_once kinds.Lose bytes p q x f e h =
    single_once 65535 5 lose bytes p q x (omega arith) f (λ v. refl) (λ v l. le-leb v 65535 l) (λ v. refl) e h

-- where an entry is read, the bytes stand that are written for it
pub entry_once : (bytes : List ℕ) (p : ℕ) (x : Act × ℕ) → AllBytes bytes → entry_at bytes p ≡ Ok x →
    OneSpelling bytes p x.0 x.1
entry_once bytes p x f e =
    let g = through_ok (λ f. f) (kind_at entry_kind bytes p) _ x e in
    let k : EntryKind × ℕ = g.0 in
    let h = kind_ok entry_kind bytes p k g.1 in
    let r = read_once 255 p h.0 k.1 bytes (omega arith) f h.1 in
    let number : h.0 ≡ number_of_kind k.0 = entry_kind_number h.0 k.0 h.2 in
    act_once k.0 bytes p k.1 x f (r.0 ∙ ap (λ n. spell n ++ drop k.1 bytes) number) g.2
