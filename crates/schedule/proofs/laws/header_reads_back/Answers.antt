use Rattle.schedule.proofs.DayBack.{day_reads_back}
use Rattle.schedule.proofs.laws.header_reads_back.Goals as goal

pub returns-clause-day : goal.returns-clause-day
returns-clause-day c = day_reads_back
