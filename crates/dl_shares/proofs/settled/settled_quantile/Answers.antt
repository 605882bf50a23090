use Rattle.dl_shares.proofs.Common.{◌≡◌, ◌^◌, arith, length, subst, low_at, high_at, IsFirstAtLeast, IsFirstFound, low_cdf, high_cdf, in_order}
use Rattle.dl_shares.proofs.settled.settled_quantile.Goals as goal

pub returns-clause-some : goal.returns-clause-some
returns-clause-some g c =
    let found = subst (IsFirstFound (low_cdf (2 ^ g.row.B) (low_at c.args.g.now)) c.args.p (length c.args.g.now))
    c.in_ok-hi.was c.quantile-bracket.ensures.hi in
    let order = in_order c.args.g.now c.args.p c.quantile-bracket.result.lo c.in_ok-hi.hi c.cells.ensures.grid
    c.quantile-bracket.ensures.lo found in
    let same : c.quantile-bracket.result.lo ≡ c.in_ok-hi.hi = omega arith in (
      found.0,
      record {
        first = subst (IsFirstAtLeast (high_cdf (2 ^ g.row.B) (high_at c.args.g.now)) c.args.p (length c.args.g.now))
            same c.quantile-bracket.ensures.lo;
        found = found;
      },
    )
