use Rattle.dl_sources.proofs.Common.{arith, new_zero, ◌also◌}
use Rattle.dl_sources.proofs.Scales.{plan_scale}
use Rattle.dl_sources.proofs.ZeroLaws.{none_high, changed_mean, changed_small}
use Rattle.dl_sources.proofs.units.changed_mean.Goals as goal

pub zero_mean-requires : goal.zero_mean-requires
zero_mean-requires g c =
    let u = c.args.unit.now in
    let p = c.args.p in
    let valid = c.requires.on.valid in
    let scale = plan_scale g.row.B c.args.cells c.requires.on.scale in
    let zero = new_zero c.args.cells u p valid c.requires.zero in
    (omega arith) also zero.below also zero.den
    also none_high c.args.none scale valid c.requires.zero c.requires.none c.requires.width
    also (omega (arith, changed_small u c.args.mean.hi c.requires.zero c.requires.small))

pub returns-clause-mean : goal.returns-clause-mean
returns-clause-mean g c =
    changed_mean c.args.none (plan_scale g.row.B c.args.cells c.requires.on.scale) c.requires.on.valid c.requires.zero
    c.requires.none c.requires.width c.requires.mean c.zero_mean.ensures.holds c.zero_mean.ensures.width

pub returns-clause-small : goal.returns-clause-small
returns-clause-small g c =
    let bound = changed_small c.args.unit.now c.args.mean.hi c.requires.zero c.requires.small in
    omega arith
