use Rattle.dl_sources.proofs.Common.{IfOk-weaker}
use Rattle.dl_sources.proofs.PooledUnits.{some_factor}
use Rattle.dl_sources.proofs.factor.pooled_unit.Goals as goal

pub pool-requires : goal.pool-requires
pool-requires g c = some_factor c.requires.at.valid c.requires.shares

pub returns : goal.returns
returns g c =
    let s = some_factor c.requires.at.valid c.requires.shares in
    IfOk-weaker c.pool.result _ _ (λ unit pooled. record {
      at = c.requires.at;
      shape = s.0;
      shares = s.1;
      sum = pooled s.0 s.1;
    }) c.pool.ensures.pooled
