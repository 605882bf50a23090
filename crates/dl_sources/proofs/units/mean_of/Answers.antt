use Rattle.dl_sources.proofs.Common.{arith, new_zero, ◌also◌}
use Rattle.dl_sources.proofs.Scales.{plan_scale}
use Rattle.dl_sources.proofs.ZeroLaws.{same_mean, most_small}
use Rattle.dl_sources.proofs.units.mean_of.Goals as goal

pub none_of-requires : goal.none_of-requires
none_of-requires g c =
    (omega arith) also plan_scale g.row.B c.args.cells c.requires.on.scale also c.requires.on.valid.count
    also c.requires.on.valid.expected
    also (c.in-Some.p, new_zero c.args.cells c.args.unit.now c.in-Some.p c.requires.on.valid c.in-Some.is)

pub returns-in-None-clause-mean : goal.returns-in-None-clause-mean
returns-in-None-clause-mean g c = same_mean c.in-None.is
    c.in_ok-mean.ensures.mean

pub returns-in-None-clause-small : goal.returns-in-None-clause-small
returns-in-None-clause-small g c = most_small c.args.unit.now.zero c.in_ok-mean.mean.hi c.in_ok-mean.ensures.small
