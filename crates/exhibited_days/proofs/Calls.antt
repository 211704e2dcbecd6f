-- Calls as data, and what they make of a world by computing: a list of calls that nothing refuses is a day.
use Rattle.std.proofs.Common.{◌≡◌, ℕ, Bool, true, false, not, ◌&&◌, List, [], ◌∷◌, is_none, Some, None, Ok, Option, Result, sym, refl, ap, subst}
use Rattle.std.proofs.lemmas.Bool.{and_parts, not-true, both_ways}
use Rattle.record.specs.Kind.{Kind}
use Rattle.record.specs.declared.command.Command.{Command}
use Rattle.chooser.specs.Meaning.{Meaning, Sound}
use Rattle.rows.specs.Causes.{first, answer, outcome, unless}
use Rattle.rows.specs.Conflicts.{conflicted}
use Rattle.rows.specs.Receipts.{is_gathering}
use Rattle.rows.specs.Rows.{undelivered}
use Rattle.rows.specs.declared.refusal.Refusal.{Refusal}
use Rattle.rows.specs.declared.row.Phase.{Phase}
use Rattle.rows.specs.declared.row.Phase.TheVariants.{Gathering, Closing, Waiting, Ahead}
use Rattle.ring.specs.World.{World, row_of, live_refusal}
use Rattle.ring.specs.Broadcast.{broadcast_refusal, broadcast_by}
use Rattle.ring.specs.Receive.{receive_refusal, received}
use Rattle.ring.specs.Gather.{gather_refusal, acknowledged, Gathers}
use Rattle.ring.specs.Fail.{crashed_by, lose_refusal, lost_at}
use Rattle.ring.specs.Step.{ByPhase, ByCause, stepper_refusal, Steps}
use Rattle.ring.specs.Day.{Day, broadcasts, receives, steps, crashes, loses, with_ring}
use Rattle.ring.specs.declared.step.Step.{Step}
use Rattle.ring.specs.declared.step.Step.TheVariants.{Acknowledged}
use Rattle.ring.proofs.Causes.{first_none}

-- a call that leaves the chooser alone; its step is an acknowledgement
pub data Call : Type 0 where
  broadcast : (node : ℕ) (c : Command) → Call
  receive : (place : ℕ) → Call
  acknowledge : (node : ℕ) → Call
  crash : (node : ℕ) → Call
  lose : (place : ℕ) → Call

-- whether nothing refuses the call
abbrev pub allowed : Kind → World → Call → Bool
allowed K w (broadcast node c) = is_none (broadcast_refusal K w node c)
allowed K w (receive place) = is_none (receive_refusal w place)
allowed K w (acknowledge node) =
    is_none (first (stepper_refusal w node) (gather_refusal w node))
    && (is_gathering (row_of w node).phase && not (conflicted K.conflicts w.book (undelivered (row_of w node))))
allowed K w (crash node) = is_none (live_refusal w.ring node)
allowed K w (lose place) = is_none (lose_refusal w place)

-- the world that it then makes
abbrev pub made : World → Call → World
made w (broadcast node c) = broadcast_by w node c
made w (receive place) = received w place
made w (acknowledge node) = acknowledged w node
made w (crash node) = with_ring w (crashed_by w.ring node)
made w (lose place) = lost_at w place

-- the same of a list of calls
abbrev pub all_allowed : Kind → World → List Call → Bool
all_allowed K w [] = true
all_allowed K w (c ∷ cs) = allowed K w c && all_allowed K (made w c) cs

abbrev pub all_made : World → List Call → World
all_made w [] = w
all_made w (c ∷ cs) = all_made (made w c) cs

-- where the test says so, nothing does
pub no_cause : (o : Option Refusal) → is_none o ≡ true → o ≡ None
no_cause None h = refl
no_cause (Some e) h = absurd (both_ways false refl h)

-- what is allowed to a gathering node is its step, in either phase that gathers
gathers : (K : Kind) (w : World) (M : Meaning) (node : ℕ) (r : Result Step Refusal) (v : World) (N : Meaning) (p : Phase)
    → is_gathering p ≡ true → Gathers K.conflicts w node r v × (N ≡ M) → ByPhase K p w M node r v N
gathers K w M node r v N Gathering h x = x
gathers K w M node r v N Closing h x = absurd (both_ways false refl h)
gathers K w M node r v N Waiting h x = absurd (both_ways false refl h)
gathers K w M node r v N Ahead h x = x

-- an acknowledgement that nothing refuses is a step
pub acknowledges : (K : Kind) (w : World) (M : Meaning) (node : ℕ) → allowed K w (acknowledge node) ≡ true →
    Steps K w M node (Ok Acknowledged) (acknowledged w node) M
acknowledges K w M node h =
    let p = and_parts (is_none (first (stepper_refusal w node) (gather_refusal w node))) _ h in
    let c = first_none (stepper_refusal w node) (gather_refusal w node) (no_cause _ p.0) in
    let q = and_parts (is_gathering (row_of w node).phase) _ p.1 in
    subst (λ (o : Option Refusal). ByCause o K w M node (Ok Acknowledged) (acknowledged w node) M) (sym c.0)
    (gathers K w M node (Ok Acknowledged) (acknowledged w node) M (row_of w node).phase q.0
    ((c.1, not-true _ q.1, refl), refl))

module _ (K : Kind) (w₀ : World) (M₀ : Meaning) (M : Meaning) (sound : Sound M) where
  -- such a call goes on with a day
  abbrev pub called : (w : World) (c : Call) → allowed K w c ≡ true → Day K w₀ M₀ w M → Day K w₀ M₀ (made w c) M
  called w (broadcast node c) h d =
      let e = no_cause (broadcast_refusal K w node c) h in
      broadcasts w M node c (Ok w.ring.messages) (broadcast_by w node c) d (
        sym (ap (λ (o : Option Refusal). answer o w.ring.messages) e),
        sym (ap (λ (o : Option Refusal). unless o (broadcast_by w node c) w) e),
      )
  called w (receive place) h d =
      let e = no_cause (receive_refusal w place) h in
      receives w M place (Ok tt) (received w place) d (
        sym (ap outcome e),
        sym (ap (λ (o : Option Refusal). unless o (received w place) w) e),
      )
  called w (acknowledge node) h d = steps w M node (Ok Acknowledged) (acknowledged w node) M d (acknowledges K w M node h) sound
  called w (crash node) h d =
      let e = no_cause (live_refusal w.ring node) h in
      crashes w M node (Ok tt) (crashed_by w.ring node) d (
        sym (ap outcome e),
        sym (ap (λ (o : Option Refusal). unless o (crashed_by w.ring node) w.ring) e),
      )
  called w (lose place) h d =
      let e = no_cause (lose_refusal w place) h in
      loses w M place (Ok tt) (lost_at w place) d (
        sym (ap outcome e),
        sym (ap (λ (o : Option Refusal). unless o (lost_at w place) w) e),
      )

  -- and so do such calls one after the other
  abbrev pub calls_day : (w : World) (cs : List Call) → all_allowed K w cs ≡ true → Day K w₀ M₀ w M → Day K w₀ M₀ (all_made w cs) M
  calls_day w [] h d = d
  calls_day w (c ∷ cs) h d =
      let p = and_parts (allowed K w c) (all_allowed K (made w c) cs) h in calls_day (made w c) cs p.1 (called w c p.0 d)
