-- A day with a new chooser is the day that the header asks for.
use Rattle.std.proofs.Common.{◌≡◌, ℕ, List, Ok, Option, sym, subst}
use Rattle.chooser.specs.Meaning.{Meaning}
use Rattle.chooser.specs.Ruled.{Fresh}
use Rattle.record.specs.RecordKind.{kind_of}
use Rattle.rows.specs.Size.{Sized, size_refusal}
use Rattle.rows.specs.declared.refusal.Refusal.{Refusal}
use Rattle.rows.specs.declared.size.RingSize.{RingSize}
use Rattle.schedule.specs.declared.header.ChooserKind.{ChooserKind}
use Rattle.schedule.specs.declared.header.ChooserKind.TheVariants.{FirstCome, LowestOf}
use Rattle.schedule.specs.declared.header.Header.{Header}
use Rattle.report.specs.Reports.{need_of, Chosen, Printed, BySize}

module _ (h : Header) (z : RingSize) (sized : Sized h.n h.q (Ok z)) (M N : Meaning) (bytes : List ℕ) (p : ℕ) (s : List ℕ)
    (printed : Printed (kind_of h.«record») z bytes p M N s) where
  -- by the need of the chooser, and what it decided
  by_need : Fresh (need_of h.chooser h.q) M → Chosen h.chooser N → BySize (size_refusal h.n h.q) h bytes p s
  by_need fresh chosen =
      subst (λ (o : Option Refusal). BySize o h bytes p s) (sym sized.0) (z, M, N, sized.1, sized.2, fresh, chosen, printed)

  -- First-come has need 1
  pub by_first_come : h.chooser ≡ FirstCome → Fresh 1 M → BySize (size_refusal h.n h.q) h bytes p s
  by_first_come e fresh =
      by_need (subst (λ (k : ChooserKind). Fresh (need_of k h.q) M) (sym e) fresh)
      (subst (λ (k : ChooserKind). Chosen k N) (sym e) tt)

  -- Lowest-of has the quorum as its need
  pub by_lowest_of : h.chooser ≡ LowestOf → Fresh z.q M → Chosen LowestOf N → BySize (size_refusal h.n h.q) h bytes p s
  by_lowest_of e fresh chosen =
      by_need (subst (λ (k : ChooserKind). Fresh (need_of k h.q) M) (sym e) (subst (λ (q : ℕ). Fresh q M) sized.2 fresh))
      (subst (λ (k : ChooserKind). Chosen k N) (sym e) chosen)
