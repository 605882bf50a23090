use Rattle.dl_transform.proofs.Common.{refl}
use Rattle.dl_transform.proofs.factors.join.Goals as goal

pub returns-clause-first : goal.returns-clause-first
returns-clause-first c = c.lowered_once-a.ensures.same c.args.p 2 refl
