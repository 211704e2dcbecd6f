-- The theorem over a day.
use Rattle.std.specs.Prelude.{Ok, Err, Result}
use Rattle.record.specs.Kind.{Kind, Laws}
use Rattle.chooser.specs.Meaning.{Meaning}
use Rattle.rows.specs.declared.refusal.Refusal.{Refusal}
use Rattle.rows.specs.declared.size.RingSize.{RingSize}
use Rattle.ring.specs.World.{World}
use Rattle.ring.specs.Day.{Day}
use Rattle.ring.specs.History.{Told}
use Rattle.ring.specs.Promises.{Kept}

-- After an accepted start, whatever the kind of record, whatever calls are made and whatever the chooser decides, every
-- promise is kept at every point of the day; and the messages and the live nodes that the promises speak of are those of
-- the day: its accepted broadcasts, and the nodes without an accepted crash.
abbrev pub EveryDayKeeps : RingSize → Result (Unit {0}) Refusal → World → Meaning → Type 0
EveryDayKeeps z (Ok u) v M =
    (K : Kind) → Laws K → (w : World) (N : Meaning) (d : Day K v M w N) → Kept K z w N × Told d
EveryDayKeeps z (Err e) v M = Unit {0}
