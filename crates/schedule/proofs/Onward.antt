-- What is read leads on.
use Rattle.std.proofs.Common.{◌≡◌, ℕ, ◌+◌, ◌<◌, ◌≤◌, leb, List, length, take, drop, Ok, sym, ap, ◌∙◌, ⊎_elim, arith}
use Rattle.record.specs.declared.command.Command.{Command}
use Rattle.schedule.specs.declared.fault.EntryFault.TheVariants.{InNumber, InCommand, BodyTooLong}
use Rattle.schedule.specs.Numbers.{front, number_at}
use Rattle.schedule.specs.declared.kind.EntryKind.{EntryKind}
use Rattle.schedule.specs.declared.kind.EntryKind.TheVariants.{Broadcast, Receive, Step, Crash, Lose}
use Rattle.schedule.specs.Commands.{command_at}
use Rattle.schedule.specs.Kinds.{entry_kind, kind_at}
use Rattle.schedule.specs.Entries.{Act, broadcast, receive, step, crash, lose}
use Rattle.schedule.specs.Entries.{single_at, body_at, broadcast_at, act_at, entry_at}
use Rattle.schedule.proofs.Fronts.{more_none}
use Rattle.schedule.proofs.Judged.{number_judged, judged_ok}
use Rattle.schedule.proofs.Steps.{through_ok, cond_is, err_ok, same_ok, kind_ok}

-- a number leads on
pub number_on : (limit p : ℕ) (bytes : List ℕ) (t : ℕ × ℕ) → number_at limit bytes p ≡ Ok t → p < t.1
number_on limit p bytes t e =
    let bs = drop p bytes in
    let g = judged_ok limit p bs t.0 t.1 (front bs) (sym (number_judged limit bytes p) ∙ e) in
    omega (arith, more_none bs (t.0, g.0) g.1, g.4)

-- an act of one number does not lead back
single_on : (limit p : ℕ) (make : ℕ → Act) (bytes : List ℕ) (x : Act × ℕ) →
    single_at limit make bytes p ≡ Ok x → p ≤ x.1
single_on limit p make bytes x e =
    let g = through_ok InNumber (number_at limit bytes p) _ x e in
    let v : ℕ × ℕ = g.0 in
    let s : ◌≡◌ {A = Act × ℕ} (make v.0, v.1) x = same_ok _ _ g.2 in
    omega (arith, number_on limit p bytes v g.1, ap (λ (y : Act × ℕ). y.1) s)

-- a body does not lead back
body_on : (n p : ℕ) (bytes : List ℕ) (x : (Command × List ℕ) × ℕ) → body_at n bytes p ≡ Ok x → p ≤ x.1
body_on n p bytes x e = ⊎_elim
    (λ h. let g = through_ok InCommand (command_at (take (p + n) bytes) p) _ x h.1 in
    let s : ◌≡◌ {A = (Command × List ℕ) × ℕ} ((g.0, take n (drop p bytes)), p + n) x = same_ok _ _ g.2 in
    omega (arith, ap (λ (y : (Command × List ℕ) × ℕ). y.1) s))
    (λ h. absurd (err_ok (BodyTooLong p) x h.1))
    (cond_is (leb (p + n) (length bytes)) _ _ (Ok x) e)

-- a broadcast does not lead back
broadcast_on : (p : ℕ) (bytes : List ℕ) (x : Act × ℕ) → broadcast_at bytes p ≡ Ok x → p ≤ x.1
broadcast_on p bytes x e =
    let g = through_ok InNumber (number_at 255 bytes p) _ x e in
    let node : ℕ × ℕ = g.0 in
    let h = through_ok InNumber (number_at 65535 bytes node.1) _ x g.2 in
    let n : ℕ × ℕ = h.0 in
    let i = through_ok (λ f. f) (body_at n.0 bytes n.1) _ x h.2 in
    let b : (Command × List ℕ) × ℕ = i.0 in
    let s : ◌≡◌ {A = Act × ℕ} (broadcast node.0 b.0.0 b.0.1, b.1) x = same_ok _ _ i.2 in
    omega (
      arith,
      number_on 255 p bytes node g.1,
      number_on 65535 node.1 bytes n h.1,
      body_on n.0 n.1 bytes b i.1,
      ap (λ (y : Act × ℕ). y.1) s,
    )

-- what follows a kind does not lead back
act_on : (k : EntryKind) (p : ℕ) (bytes : List ℕ) (x : Act × ℕ) → act_at k bytes p ≡ Ok x → p ≤ x.1
act_on Broadcast p bytes x e = broadcast_on p bytes x e
act_on Receive p bytes x e = single_on 65535 p receive bytes x e
act_on Step p bytes x e = single_on 255 p step bytes x e
act_on Crash p bytes x e = single_on 255 p crash bytes x e
act_on Lose p bytes x e = single_on 65535 p lose bytes x e

-- an entry leads on
pub entry_on : (p : ℕ) (bytes : List ℕ) (x : Act × ℕ) → entry_at bytes p ≡ Ok x → p < x.1
entry_on p bytes x e =
    let g = through_ok (λ f. f) (kind_at entry_kind bytes p) _ x e in
    let k : EntryKind × ℕ = g.0 in
    let h = kind_ok entry_kind bytes p k g.1 in
    omega (arith, number_on 255 p bytes (h.0, k.1) h.1, act_on k.0 k.1 bytes x g.2)
