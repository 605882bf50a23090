use Rattle.dl_outcomes.proofs.Common.{◌≡◌, ◌*◌, ◌/◌, ◌^◌, arith, div_ceil, part_within, at_zero_small}
use Rattle.dl_grid.proofs.CellLaws.{one_fits}
use Rattle.dl_outcomes.proofs.Rounded.{parts_order, cell_fits}
use Rattle.dl_outcomes.proofs.change.Change.cell.Goals as goal

pub invariant_of-part-clause-ordered : goal.invariant_of-part-clause-ordered
invariant_of-part-clause-ordered g c =
    let S = 2 ^ g.row.B in
    let low = c.args.self.low in
    let high = c.args.self.high in
    let by = c.args.self.claims in
    let left = c.sub_floor0-left.result in
    let lo : c.from.result ≡ left.lo * S / low.by * by.times / by.by = cc in
    let hi : c.from-2.result ≡ div_ceil (div_ceil (left.hi * S) high.by * by.times) by.by = cc in
    rw (lo, hi) (parts_order left.lo left.hi S high.by low.by by.times by.by high.positive (omega arith) by.positive
    left.ordered)

pub add-requires : goal.add-requires
add-requires g c = (omega arith, omega (arith, at_zero_small c.args.self.at_0.hi c.args.y))

pub floor-requires : goal.floor-requires
floor-requires g c =
    let low = c.args.self.low in
    cell_fits c.sub_floor0-left.result.lo low.times low.by low.positive (omega arith)
    (omega (arith, one_fits g.row.B c.args.cell.scale_below)) (omega arith)

pub ceil-requires : goal.ceil-requires
ceil-requires g c =
    let high = c.args.self.high in
    cell_fits c.sub_floor0-left.result.hi high.times high.by high.positive (omega arith)
    (omega (arith, one_fits g.row.B c.args.cell.scale_below)) (omega arith)

pub floor-lo-requires : goal.floor-lo-requires
floor-lo-requires g c =
    let claims = c.args.self.claims in
    omega (arith, part_within c.floor.result claims.times claims.by claims.positive c.args.self.part)

pub ceil-hi-requires : goal.ceil-hi-requires
ceil-hi-requires g c =
    let claims = c.args.self.claims in
    omega (arith, part_within c.ceil.result claims.times claims.by claims.positive c.args.self.part)

pub returns-clause-low : goal.returns-clause-low
returns-clause-low g c = cc

pub returns-clause-high : goal.returns-clause-high
returns-clause-high g c = cc
