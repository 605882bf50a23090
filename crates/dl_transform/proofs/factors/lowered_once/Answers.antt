use Rattle.dl_transform.proofs.Common.{arith}
use Rattle.dl_transform.proofs.Residues.{same_by}
use Rattle.dl_transform.proofs.factors.lowered_once.Goals as goal

pub returns-then-rest-lt9223372036854775808-clause-same : goal.returns-then-rest-lt9223372036854775808-clause-same
returns-then-rest-lt9223372036854775808-clause-same c p k e =
    same_by p _ c.args.x k 0 (omega (arith, e, c.if-rest-lt9223372036854775808.true))
