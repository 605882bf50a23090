use Rattle.dl_sources.proofs.Common.{arith, subst, IfSome, ◌also◌, IsPooledFor}
use Rattle.dl_sources.proofs.ByHalves.{pooled_none, pooled_sum}
use Rattle.dl_sources.proofs.ReadAs.{unit_on}
use Rattle.dl_sources.proofs.halves.pooled_grid.Goals as goal

pub plain_grid-requires : goal.plain_grid-requires
plain_grid-requires g c =
    let made = subst (λ o. IfSome o (IsPooledFor c.args.plan.now)) c.in-Some.is c.requires.pooled in
    (omega arith) also unit_on c.requires.at made.valid also made.sum.alone.clause also made.sum.alone.zero

pub returns-in-None : goal.returns-in-None
returns-in-None g c = pooled_none c.requires.at c.in-None.is

pub returns-in_ok-grid-in-Some : goal.returns-in_ok-grid-in-Some
returns-in_ok-grid-in-Some g c =
    let made = subst (λ o. IfSome o (IsPooledFor c.args.plan.now)) c.in-Some.is c.requires.pooled in
    pooled_sum c.requires.at c.in-Some.unit c.in-Some.is made c.in_ok-grid-in-Some.ensures
