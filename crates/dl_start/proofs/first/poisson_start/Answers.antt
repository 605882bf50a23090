use Rattle.dl_start.proofs.Common.{◌*◌, ◌over◌, poisson}
use Rattle.dl_start.proofs.Shares.{shares}
use Rattle.dl_start.proofs.first.poisson_start.Goals as goal

pub returns : goal.returns
returns c =
    let s = c.loop-shares.shares in
    let h = rw c.from-2.ensures at c.exponential_start.ensures.holds in
    record {
      holds = rw (← shares c.args.num c.args.den s c.requires.positive c.loop-shares.invariant.some)
          (c.power_of.ensures.holds (poisson (c.args.num over (s * c.args.den))) h);
    }
