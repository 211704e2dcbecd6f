-- What a call of the ring makes of a node by itself that goes alike: nothing, or one event more.
use Rattle.std.proofs.Common.{◌≡◌, ℕ, List, [], ◌∷◌, ◌++◌, sym, subst}
use Rattle.std.proofs.lemmas.List.{append-nil}
use Rattle.record.specs.Kind.{Kind}
use Rattle.record.specs.declared.command.Command.{Command}
use Rattle.rows.specs.declared.letter.Letter.{Letter}
use Rattle.rows.specs.declared.row.Row.{Row}
use Rattle.rows.specs.declared.size.RingSize.{RingSize}
use Rattle.ring.specs.World.{World, row_of}
use Rattle.node.specs.Tables.{lent}
use Rattle.node.specs.Events.{Event, Does, Alone}
use Rattle.node.specs.Alike.{Names, member_in, sheet_part, blank, GoesAlike}
use Rattle.node.specs.declared.member.Member.{Member}
use Rattle.node.proofs.Events.{one_more}

module _ {K : Kind} {z : RingSize} {m₀ : Member} {i : ℕ} {w : World} {es : List Event} (g : GoesAlike K z m₀ i w es) where
  -- another world with the same row and sheet of the node, the same book, and the same broadcasters
  pub unmoved : (v : World) → row_of v i ≡ row_of w i → sheet_part v i ≡ sheet_part w i → v.book ≡ w.book → Names v g.broadcasters
      → GoesAlike K z m₀ i v es
  unmoved v row sheet book named = record {
    broadcasters = g.broadcasters;
    letters = g.letters;
    named = named;
    alone = subst (λ (b : List Command). Alone K es m₀ (blank z) (member_in z v i) (lent b g.broadcasters g.letters (sheet_part v i)))
        (sym book)
        (subst (λ (s : List ℕ). Alone K es m₀ (blank z) (member_in z v i) (lent w.book g.broadcasters g.letters s)) (sym sheet)
        (subst (λ (x : Row). Alone K es m₀ (blank z) (record { number = i; size = z; row = x })
        (lent w.book g.broadcasters g.letters (sheet_part w i))) (sym row) g.alone));
  }

  -- nothing is given to it
  pub nothing_given : (xs : List Event) → xs ≡ [] → GoesAlike K z m₀ i w (es ++ xs)
  nothing_given xs none =
      subst (λ (ys : List Event). GoesAlike K z m₀ i w (es ++ ys)) (sym none)
      (subst (λ (ys : List Event). GoesAlike K z m₀ i w ys) (sym (append-nil es)) g)

  -- one event is given to it, which leaves it with the row and the sheet of a world
  pub given_one : (v : World) (e : Event) (table : List ℕ) (letters : List Letter) → Names v table
      → Does K e (member_in z w i) (lent w.book g.broadcasters g.letters (sheet_part w i)) (member_in z v i)
      (lent v.book table letters (sheet_part v i)) → GoesAlike K z m₀ i v (es ++ e ∷ [])
  given_one v e table letters named h = record {
    broadcasters = table;
    letters = letters;
    named = named;
    alone = one_more K es e m₀ (blank z) (member_in z w i) (member_in z v i)
        (lent w.book g.broadcasters g.letters (sheet_part w i)) (lent v.book table letters (sheet_part v i)) g.alone h;
  }
