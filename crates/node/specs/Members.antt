-- A node whatever its state: what it keeps, and the tables with another letter or sheet.
use Rattle.std.specs.Prelude.{ℕ, List}
use Rattle.rows.specs.Letters.{sent}
use Rattle.rows.specs.declared.letter.Letter.{Letter}
use Rattle.rows.specs.declared.row.Row.{Row}
use Rattle.node.specs.Tables.{Lent, lent}
use Rattle.node.specs.declared.member.Member.{Member}

-- with another row
abbrev pub with_row : Row → Member → Member
with_row row m = record { number = m.number; size = m.size; row = row }

-- the tables after a letter was sent to all nodes: it stands in them once for each
abbrev pub sending : Member → Letter → Lent → Lent
sending m l t = lent t.book t.broadcasters (sent t.letters 0 l m.size.n) t.sheet

-- the tables with another sheet
abbrev pub with_sheet : List ℕ → Lent → Lent
with_sheet sheet t = lent t.book t.broadcasters t.letters sheet
