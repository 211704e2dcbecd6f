-- The invariant holds at the start, every call keeps it, and so it holds after every run.
use Rattle.std.proofs.Common.{ℕ, ◌<◌, ◌||◌, sym, subst, ap₂, inl, inr, arith}
use Rattle.std.proofs.lemmas.Bool.{both_ways, false≢true}
use Rattle.protocol.specs.Sets.{◌∈◌, ◌∉◌}
use Rattle.protocol.specs.Ring.{Size, State, Node}
use Rattle.protocol.specs.Nodes.{fresh}
use Rattle.protocol.specs.Runs.{Start, Call, Run, starts, goes_on, broadcasts, receives_known, receives_own, relays, hears}
use Rattle.protocol.specs.Runs.{passes_acknowledgement, keeps_check, passes_check, acknowledges, closes, proposes, settles}
use Rattle.protocol.specs.Runs.{crashes, loses, refused}
use Rattle.protocol.proofs.Facts.{past}
use Rattle.protocol.proofs.Invariant.{NodeOk, Ok}
use Rattle.protocol.proofs.Counting.{count_none}
use Rattle.protocol.proofs.Broadcasting.{broadcasts_ok}
use Rattle.protocol.proofs.ReceivingKnown.{receives_known_ok}
use Rattle.protocol.proofs.ReceivingOwn.{receives_own_ok}
use Rattle.protocol.proofs.Relaying.{relays_ok}
use Rattle.protocol.proofs.Hearing.{hears_ok}
use Rattle.protocol.proofs.PassingAcknowledgements.{passes_acknowledgement_ok}
use Rattle.protocol.proofs.KeepingChecks.{keeps_check_ok}
use Rattle.protocol.proofs.PassingChecks.{passes_check_ok}
use Rattle.protocol.proofs.Acknowledging.{acknowledges_ok}
use Rattle.protocol.proofs.Closing.{closes_ok}
use Rattle.protocol.proofs.Proposing.{proposes_ok}
use Rattle.protocol.proofs.Settling.{settles_ok, none_early, none_kept}
use Rattle.protocol.proofs.Crashing.{crashes_ok}
use Rattle.protocol.proofs.Losing.{loses_ok}

module _ {z : Size} {s : State} (b : Start z s) where
  -- no letter, no proposal and no past at the start
  no_letter : {A : Type 0} (i : ℕ) → i < s.sent → A
  no_letter i l = absurd (omega (arith, l, b.sent))

  -- no proposal
  no_proposal : {A : Type 0} (j r : ℕ) → r ∈ s.proposers j → A
  no_proposal j r h = absurd (both_ways (s.proposers j r) (b.proposers j r) h)

  -- and no past
  no_past : (m : ℕ) → m ∉ past s 1
  unfolding past
  no_past m = ap₂ ◌||◌ (b.nonconflicting m) (b.conflicting m)

  -- so a fresh node keeps the invariant
  fresh_ok : (r : ℕ) → NodeOk z s r fresh
  fresh_ok r = record {
    stage = record {
      first = omega arith;
      settled = λ i l h. absurd (omega (arith, l, h));
      delivered_is = λ m. sym (no_past m);
    };
    pending = record {
      received_known = λ m h. absurd (false≢true h);
      received_told = λ m h. absurd (false≢true h);
      pending_received = λ m h. absurd (false≢true h);
      pending_new = λ m h. absurd (false≢true h);
      pending_free = λ x y h. absurd (false≢true h);
      pending_sent = λ m h. absurd (false≢true h);
    };
    early = none_early z s 1 fresh.delivered;
    checks = none_kept z s 1;
    closing = record {
      closed = λ j l h. elim h [ inl w ↦ absurd (omega (arith, l, w)) | inr w ↦ absurd (false≢true w.1) ];
      proposed_when = λ j h. no_proposal j r h;
      proposed_stands = λ h. absurd (false≢true h);
    };
    sheet = record {
      once = tt;
      has = λ m h. absurd h;
      has_delivered = λ m h. absurd (false≢true h);
      has_early = λ m h. absurd (false≢true h);
      known = λ m h. absurd h;
      ordered = λ x y c h. absurd h;
    };
    sent_letters = λ i l. no_letter i l;
    taken_letters = λ i l. no_letter i l;
  }

  -- and the start does
  pub start_ok : Ok z s
  start_ok = record {
    book = record {
      messages_le = omega (arith, b.messages);
      both_sides = b.both_sides;
      not_itself = b.not_itself;
      told = λ m l. absurd (omega (arith, l, b.messages));
    };
    post = record {
      each = λ i l. no_letter i l;
      pairs = λ i j l. no_letter i l;
      copies = λ i y l. no_letter i l;
    };
    chooser = record {
      proposer_in = λ j r h. no_proposal j r h;
      proposal = λ j r l h. no_proposal j r h;
      chosen = λ j h. absurd (both_ways (s.decided j) (b.decided j) h);
      decides = λ j h. absurd (omega (arith, h, z.need_pos, count_none z.n (s.proposers j) (λ i l. b.proposers j i)));
    };
    nodes = λ r l. subst (λ (N : Node). NodeOk z s r N) (sym (b.nodes r l)) (fresh_ok r);
  }

-- every call keeps the invariant
pub call_ok : {z : Size} {s t : State} → Ok z s → Call z s t → Ok z t
call_ok o (broadcasts r c) = broadcasts_ok r o c
call_ok o (receives_known i m c) = receives_known_ok i m o c
call_ok o (receives_own i m c) = receives_own_ok i m o c
call_ok o (relays i m c) = relays_ok i m o c
call_ok o (hears i c) = hears_ok i o c
call_ok o (passes_acknowledgement i c) = passes_acknowledgement_ok i o c
call_ok o (keeps_check i c) = keeps_check_ok i o c
call_ok o (passes_check i c) = passes_check_ok i o c
call_ok o (acknowledges r c) = acknowledges_ok r o c
call_ok o (closes r a b c) = closes_ok r a b o c
call_ok o (proposes r c) = proposes_ok r o c
call_ok o (settles r c) = settles_ok r o c
call_ok o (crashes r c) = crashes_ok r o c
call_ok o (loses i c) = loses_ok i o c
call_ok {z} o (refused e) = subst (λ (u : State). Ok z u) (sym e) o

-- so every run does
pub run_ok : {z : Size} {s t : State} → Run z s t → Ok z t
run_ok (starts b) = start_ok b
run_ok (goes_on d c) = call_ok (run_ok d) c
