-- The table is worked out.
use Rattle.std.proofs.Common.{◌≡◌, true, refl}
use Rattle.std.specs.List.{list_all}
use Rattle.rows.specs.Masks.{those}
use Rattle.rows.specs.Receipts.{from_sender}
use Rattle.schedule.specs.Numbers.{number_at}
use Rattle.cases.specs.Cases.{holds}
use Rattle.cases.specs.Table.{worked_cases}

-- each case comes out as it says
pub worked_out : list_all holds worked_cases ≡ true
unfolding those from_sender number_at
worked_out = refl
