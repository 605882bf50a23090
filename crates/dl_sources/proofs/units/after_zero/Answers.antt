use Rattle.dl_sources.proofs.Common.{arith, aggregate_of, new_zero, ◌also◌}
use Rattle.dl_sources.proofs.Scales.{plan_scale}
use Rattle.dl_sources.proofs.ZeroLaws.{same_grid, same_mean, none_high, before, changed_grid, most_small}
use Rattle.dl_sources.proofs.units.after_zero.Goals as goal

pub none_of-requires : goal.none_of-requires
none_of-requires g c =
    let on = c.requires.on in
    (omega arith) also plan_scale g.row.B c.args.cells on.scale also on.valid.count also on.valid.expected
    also (c.in-Some.p, new_zero c.args.cells c.args.unit.now c.in-Some.p on.valid c.in-Some.is)

pub zero_grid-requires : goal.zero_grid-requires
zero_grid-requires g c =
    let u = c.args.unit.now in
    let none = c.in_ok-none-in-Some in
    let p = c.in-Some.p in
    let valid = c.requires.on.valid in
    let scale = plan_scale g.row.B c.args.cells c.requires.on.scale in
    let zero = new_zero c.args.cells u p valid c.in-Some.is in
    (omega arith) also (omega arith) also zero.below also zero.den
    also none_high none.none scale valid c.in-Some.is none.ensures.holds none.ensures.width
    also (aggregate_of u, before none.none scale valid c.in-Some.is none.ensures.holds none.ensures.width c.requires.grid)

pub returns-in_ok-changed-in-Some : goal.returns-in_ok-changed-in-Some
returns-in_ok-changed-in-Some g c =
    let none = c.in_ok-none-in-Some in
    let made = c.in_ok-changed-in-Some.ensures in record {
      grid = changed_grid none.none (plan_scale g.row.B c.args.cells c.requires.on.scale) c.requires.on.valid c.in-Some.is
          none.ensures.holds none.ensures.width c.requires.grid made.cells made.encloses made.spread;
      mean = c.changed_mean-mean.ensures.mean;
      small = c.changed_mean-mean.ensures.small;
    }

pub returns-in-None : goal.returns-in-None
returns-in-None g c = record {
  grid = same_grid c.in-None.is c.requires.grid;
  mean = same_mean c.in-None.is c.requires.mean;
  small = most_small c.args.unit.now.zero c.args.mean.hi c.requires.small;
}
