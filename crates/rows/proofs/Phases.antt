-- What closing, proposing and letters make of a phase.
use Rattle.std.proofs.Common.{◌≡◌, ℕ, true, false, cond, eqb, refl}
use Rattle.std.proofs.lemmas.Bool.{cond_both}
use Rattle.rows.specs.Letters.{data_letter}
use Rattle.rows.specs.Receipts.{is_gathering, is_proposed, after_data, counts, after_hearing, is_kept, is_check, after_check}
use Rattle.rows.specs.Receipts.{taken_row}
use Rattle.rows.specs.Rows.{closed_phase, proposed_phase, with_check}
use Rattle.rows.specs.declared.letter.Letter.{Letter}
use Rattle.rows.specs.declared.row.Phase.{Phase}
use Rattle.rows.specs.declared.row.Phase.TheVariants.{Gathering, Closing, Waiting, Ahead}
use Rattle.rows.specs.declared.row.Row.{Row}

-- nobody gathers after closing
pub closed_gathers : (phase : Phase) → is_gathering (closed_phase phase) ≡ false
closed_gathers Gathering = refl
closed_gathers Closing = refl
closed_gathers Waiting = refl
closed_gathers Ahead = refl

-- but who has proposed has still proposed
pub closed_proposed : (phase : Phase) → is_proposed (closed_phase phase) ≡ is_proposed phase
closed_proposed Gathering = refl
closed_proposed Closing = refl
closed_proposed Waiting = refl
closed_proposed Ahead = refl

-- who gathers goes on gathering after proposing
pub proposed_gathers : (phase : Phase) → is_gathering (proposed_phase phase) ≡ is_gathering phase
proposed_gathers Gathering = refl
proposed_gathers Closing = refl
proposed_gathers Waiting = refl
proposed_gathers Ahead = refl

-- and has proposed
pub proposed_proposed : (phase : Phase) → is_proposed (proposed_phase phase) ≡ true
proposed_proposed Gathering = refl
proposed_proposed Closing = refl
proposed_proposed Waiting = refl
proposed_proposed Ahead = refl

-- no letter changes it
pub taken_phase : (n q : ℕ) (l : Letter) (row : Row) → (taken_row n q l row).phase ≡ row.phase
taken_phase n q l row =
    let Kept : Row → Type 0 = λ x. x.phase ≡ row.phase in
    let checked : Row = cond (is_check l row) (after_check q l row) row in
    let heard : Row = cond (counts n l row) (after_hearing q l row) checked in
    let kept : Row = with_check (record { sender = l.sender; set = l.set }) row in
    cond_both (eqb l.kind data_letter) (after_data l row) heard Kept (λ _. refl) (λ _.
    cond_both (counts n l row) (after_hearing q l row) checked Kept (λ _. refl) (λ _.
    cond_both (is_check l row) (after_check q l row) row Kept (λ _.
    cond_both (is_kept q l row) kept row Kept (λ _. refl) (λ _. refl)) (λ _. refl)))
