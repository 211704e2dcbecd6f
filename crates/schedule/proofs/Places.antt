-- Where faults are placed.
use Rattle.std.proofs.Common.{◌≡◌, ℕ, ◌+◌, ◌%◌, ◌≤◌, eqb, leb, ◌⊎◌, List, [], ◌∷◌, length, take, drop, Some, None}
use Rattle.std.proofs.Common.{Ok, Err, Option, Result, sym, refl, ap, ◌∙◌, inl, inr, ⊎_elim, arith}
use Rattle.std.proofs.lemmas.List.{length-drop, length-take-le}
use Rattle.std.proofs.lemmas.Bool.{cases_lt, leb-true}
use Rattle.record.specs.RecordKind.{record_kind}
use Rattle.record.specs.declared.record_kind.NoSuchKind.{NoSuchKind}
use Rattle.schedule.specs.declared.fault.NumberFault.{NumberFault}
use Rattle.schedule.specs.declared.fault.NumberFault.TheVariants.{CutShort, Unfit}
use Rattle.schedule.specs.declared.fault.CommandFault.{CommandFault}
use Rattle.schedule.specs.declared.fault.CommandFault.TheVariants.{BadNumber, BytesLeft}
use Rattle.schedule.specs.declared.fault.EntryFault.{EntryFault}
use Rattle.schedule.specs.declared.fault.EntryFault.TheVariants.{InNumber, InCommand, UnknownKind, BodyTooLong}
use Rattle.schedule.specs.declared.kind.EntryKind.{EntryKind}
use Rattle.schedule.specs.declared.kind.EntryKind.TheVariants.{Broadcast, Receive, Step, Crash, Lose}
use Rattle.schedule.specs.Numbers.{front, judged, fit, number_at}
use Rattle.schedule.specs.Chains.{through}
use Rattle.schedule.specs.Commands.{command_at}
use Rattle.schedule.specs.Kinds.{entry_kind, chooser_kind, known, kind_at}
use Rattle.schedule.specs.Entries.{Act, receive, step, crash, lose, single_at, body_at, broadcast_at, act_at, entry_at}
use Rattle.schedule.specs.Headers.{header_at}
use Rattle.schedule.specs.Reports.{place_of_number, place_of_command, place_of}
use Rattle.schedule.specs.Laws.{Between}
use Rattle.schedule.proofs.Fronts.{front_last, front_more}
use Rattle.schedule.proofs.Judged.{number_judged, judged_ok}
use Rattle.schedule.proofs.Large.{below_of}
use Rattle.schedule.proofs.Onward.{number_on}
use Rattle.schedule.proofs.Steps.{cond_is, kind_ok}

-- a success is no fault
ok_err : {A E : Type 0} (x : A) (d : E) → ◌≡◌ {A = Result A E} (Ok x) (Err d) → ⊥
ok_err x d e = let z : ◌≡◌ {A = ℕ} 0 1 = cc in omega arith

-- equal failures hold equal faults
same_err : {A E : Type 0} (x y : E) → ◌≡◌ {A = Result A E} (Err x) (Err y) → x ≡ y
same_err x y e = cc

-- a chain failed at its first reading or behind it
through_err : {A B E F : Type 0} (f : E → F) (r : Result A E) (k : A → Result B F) (x : F) → through f r k ≡ Err x →
    ((d : E) × (r ≡ Err d) × (f d ≡ x)) ⊎ ((a : A) × (r ≡ Ok a) × (k a ≡ Err x))
through_err f (Ok a) k x e = inr (a, refl, e)
through_err f (Err d) k x e = inl (d, refl, same_err _ _ e)

-- a number is no longer than the bytes that it stands in
front_in : (bs : List ℕ) (t : ℕ × ℕ) → front bs ≡ Some t → t.1 ≤ length bs
front_in [] t e = absurd (let z : ◌≡◌ {A = ℕ} 0 1 = cc in let y : ⊥ = omega arith in y)
front_in (b ∷ bs) t e = ⊎_elim
    (λ h. let z : t.1 ≡ 1 = cc (front_last b bs h) in omega arith)
    (λ h. let u = below_of (b % 128) (front bs) t (sym (front_more b bs h) ∙ e) in omega (arith, front_in bs u.0 u.1, u.3))
    (cases_lt b 128)

-- a number ends within the bytes
number_in : (limit p : ℕ) (bytes : List ℕ) (t : ℕ × ℕ) → p ≤ length bytes → number_at limit bytes p ≡ Ok t →
    t.1 ≤ length bytes
number_in limit p bytes t h e =
    let bs = drop p bytes in
    let g = judged_ok limit p bs t.0 t.1 (front bs) (sym (number_judged limit bytes p) ∙ e) in
    omega (arith, front_in bs (t.0, g.0) g.1, g.4, length-drop p bytes)

-- a number that is judged to be at fault is so where it begins
judged_err : (limit p : ℕ) (bs : List ℕ) (o : Option (ℕ × ℕ)) (f : NumberFault) → judged limit p bs o ≡ Err f →
    place_of_number f ≡ p
judged_err limit p bs None f e = ap place_of_number (sym (same_err (CutShort p) f e))
judged_err limit p bs (Some t) f e = ⊎_elim
    (λ h. absurd (ok_err (t.0, p + t.1) f h.1))
    (λ h. ap place_of_number (sym (same_err (Unfit p) f h.1)))
    (cond_is (fit limit bs t) _ _ (Err f) e)

-- a number at fault is so where it begins
number_err : (limit p : ℕ) (bytes : List ℕ) (f : NumberFault) → number_at limit bytes p ≡ Err f → place_of_number f ≡ p
number_err limit p bytes f e =
    judged_err limit p (drop p bytes) (front (drop p bytes)) f (sym (number_judged limit bytes p) ∙ e)

-- where what comes behind a number is placed, the whole is
read_then : {B E : Type 0} (layer : NumberFault → E) (place : E → ℕ) (limit p : ℕ) (bytes : List ℕ)
    (k : ℕ × ℕ → Result B E) (f : E) → p ≤ length bytes → ((d : NumberFault) → place (layer d) ≡ place_of_number d) →
    ((v : ℕ × ℕ) → p ≤ v.1 → v.1 ≤ length bytes → k v ≡ Err f → Between p (length bytes) (place f)) →
    through layer (number_at limit bytes p) k ≡ Err f → Between p (length bytes) (place f)
read_then layer place limit p bytes k f h l n e = ⊎_elim
    (λ g. let at : place f ≡ p = ap place (sym g.2) ∙ (l g.0 ∙ number_err limit p bytes g.0 g.1) in
    (omega arith, omega arith))
    (λ g. n g.0 (omega (arith, number_on limit p bytes g.0 g.1)) (number_in limit p bytes g.0 h g.1) g.2)
    (through_err layer (number_at limit bytes p) k f e)

-- what lies behind a later place lies behind an earlier one
earlier : (p q n x : ℕ) → p ≤ q → Between q n x → Between p n x
earlier p q n x h b = (omega (arith, b.0), b.1)

-- a command
command_err : (bytes : List ℕ) (p : ℕ) (f : CommandFault) → p ≤ length bytes → command_at bytes p ≡ Err f →
    Between p (length bytes) (place_of_command f)
command_err bytes p f h = read_then BadNumber place_of_command 255 p bytes _ f h (λ d. refl) (λ v o l e.
    earlier p v.1 _ _ o (read_then BadNumber place_of_command 65535 v.1 bytes _ f l (λ d. refl) (λ s o l e.
    earlier v.1 s.1 _ _ o (read_then BadNumber place_of_command 65535 s.1 bytes _ f l (λ d. refl) (λ d o l e.
    earlier s.1 d.1 _ _ o (read_then BadNumber place_of_command 65535 d.1 bytes _ f l (λ d. refl) (λ a o l e.
    ⊎_elim
    (λ g. absurd (ok_err _ f g.1))
    (λ g. let at : place_of_command f ≡ a.1 = ap place_of_command (sym (same_err (BytesLeft a.1) f g.1)) in
    (omega arith, omega arith))
    (cond_is (eqb a.1 (length bytes)) _ _ (Err f) e)) e)) e)) e))

-- a body
body_err : (n p : ℕ) (bytes : List ℕ) (f : EntryFault) → p ≤ length bytes → body_at n bytes p ≡ Err f →
    Between p (length bytes) (place_of f)
body_err n p bytes f h e = ⊎_elim
    (λ g. let fits : p + n ≤ length bytes = leb-true (p + n) (length bytes) g.0 in
    let size : length (take (p + n) bytes) ≡ p + n = length-take-le (p + n) bytes fits in
    ⊎_elim
    (λ i. let b = command_err (take (p + n) bytes) p i.0 (omega arith) i.1 in
    let at : place_of f ≡ place_of_command i.0 = ap place_of (sym i.2) in
    (omega (arith, b.0), omega (arith, b.1)))
    (λ i. absurd (ok_err _ f i.2))
    (through_err InCommand (command_at (take (p + n) bytes) p) _ f g.1))
    (λ g. let at : place_of f ≡ p = ap place_of (sym (same_err (BodyTooLong p) f g.1)) in (omega arith, omega arith))
    (cond_is (leb (p + n) (length bytes)) _ _ (Err f) e)

-- a kind
kind_err : {K : Type 0} (tried : ℕ → Result K NoSuchKind) (p : ℕ) (bytes : List ℕ) (f : EntryFault) → p ≤ length bytes →
    kind_at tried bytes p ≡ Err f → Between p (length bytes) (place_of f)
kind_err {K = K} tried p bytes f h = read_then InNumber place_of 255 p bytes _ f h (λ d. refl) (λ v o l e. from v.1 (tried v.0) e)
  where
    from : (q : ℕ) (r : Result K NoSuchKind) → known p q r ≡ Err f → Between p (length bytes) (place_of f)
    from q (Ok k) e = absurd (ok_err (k, q) f e)
    from q (Err d) e =
        let at : place_of f ≡ p = ap place_of (sym (same_err (UnknownKind p) f e)) in (omega arith, omega arith)

-- where a first reading is placed, and what follows it, the whole is
then : {A B : Type 0} (p n : ℕ) (r : Result (A × ℕ) EntryFault) (k : A × ℕ → Result B EntryFault) (f : EntryFault) →
    (r ≡ Err f → Between p n (place_of f)) →
    ((a : A × ℕ) → r ≡ Ok a → k a ≡ Err f → Between p n (place_of f)) →
    through (λ e. e) r k ≡ Err f → Between p n (place_of f)
then p n r k f h l e = ⊎_elim (λ g. h (g.1 ∙ ap Err g.2)) (λ g. l g.0 g.1 g.2) (through_err (λ e. e) r k f e)

-- an act of one number
single_err : (limit p : ℕ) (make : ℕ → Act) (bytes : List ℕ) (f : EntryFault) → p ≤ length bytes →
    single_at limit make bytes p ≡ Err f → Between p (length bytes) (place_of f)
single_err limit p make bytes f h =
    read_then InNumber place_of limit p bytes _ f h (λ d. refl) (λ v o l e. absurd (ok_err _ f e))

-- a broadcast
broadcast_err : (p : ℕ) (bytes : List ℕ) (f : EntryFault) → p ≤ length bytes → broadcast_at bytes p ≡ Err f →
    Between p (length bytes) (place_of f)
broadcast_err p bytes f h = read_then InNumber place_of 255 p bytes _ f h (λ d. refl) (λ node o l e.
    earlier p node.1 _ _ o (read_then InNumber place_of 65535 node.1 bytes _ f l (λ d. refl) (λ n o l e.
    earlier node.1 n.1 _ _ o (then n.1 (length bytes) (body_at n.0 bytes n.1) _ f (body_err n.0 n.1 bytes f l)
    (λ b g e. absurd (ok_err _ f e)) e)) e))

-- what follows a kind
act_err : (k : EntryKind) (p : ℕ) (bytes : List ℕ) (f : EntryFault) → p ≤ length bytes → act_at k bytes p ≡ Err f →
    Between p (length bytes) (place_of f)
act_err Broadcast p bytes f h e = broadcast_err p bytes f h e
act_err Receive p bytes f h e = single_err 65535 p receive bytes f h e
act_err Step p bytes f h e = single_err 255 p step bytes f h e
act_err Crash p bytes f h e = single_err 255 p crash bytes f h e
act_err Lose p bytes f h e = single_err 65535 p lose bytes f h e

-- behind a kind that is read
past_kind : {K : Type 0} (tried : ℕ → Result K NoSuchKind) (p : ℕ) (bytes : List ℕ) (k : K × ℕ) (x : ℕ) → p ≤ length bytes →
    kind_at tried bytes p ≡ Ok k → (k.1 ≤ length bytes → Between k.1 (length bytes) x) → Between p (length bytes) x
past_kind tried p bytes k x h e b =
    let g = kind_ok tried bytes p k e in
    earlier p k.1 _ _ (omega (arith, number_on 255 p bytes (g.0, k.1) g.1)) (b (number_in 255 p bytes (g.0, k.1) h g.1))

-- a fault of an entry is placed in it, or at its end
pub entry_err : (p : ℕ) (bytes : List ℕ) (f : EntryFault) → p ≤ length bytes → entry_at bytes p ≡ Err f →
    Between p (length bytes) (place_of f)
entry_err p bytes f h = then p (length bytes) (kind_at entry_kind bytes p) _ f (kind_err entry_kind p bytes f h)
    (λ k g e. past_kind entry_kind p bytes k _ h g (λ l. act_err k.0 k.1 bytes f l e))

-- a fault of a header likewise
pub header_err : (p : ℕ) (bytes : List ℕ) (f : EntryFault) → p ≤ length bytes → header_at bytes p ≡ Err f →
    Between p (length bytes) (place_of f)
header_err p bytes f h = read_then InNumber place_of _ p bytes _ f h (λ d. refl) (λ n o l e.
    earlier p n.1 _ _ o (read_then InNumber place_of _ n.1 bytes _ f l (λ d. refl) (λ q o l e.
    earlier n.1 q.1 _ _ o (then q.1 (length bytes) (kind_at chooser_kind bytes q.1) _ f (kind_err chooser_kind q.1 bytes f l)
    (λ c g e. past_kind chooser_kind q.1 bytes c _ l g (λ l. then c.1 (length bytes) (kind_at record_kind bytes c.1) _ f
    (kind_err record_kind c.1 bytes f l) (λ r g e. absurd (ok_err _ f e)) e)) e)) e))
