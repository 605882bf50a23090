use Rattle.dl_iv.proofs.Common.{le_refl}
use Rattle.dl_iv.proofs.interval.Iv.point.Goals as goal

pub returns-clause-holds : goal.returns-clause-holds
returns-clause-holds g c = record { low = le_refl _; high = le_refl _ }
