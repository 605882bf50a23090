use Rattle.dl_outcomes.proofs.Common.{◌^◌, arith, low_at, high_at, spread_set, high_end, low_in_mass, mass_set}
use Rattle.dl_outcomes.proofs.Walk.{low_more, high_more, not_here}
use Rattle.dl_outcomes.proofs.clause_grid.add_at.Goals as goal

pub returns-then-y-from-clause-low : goal.returns-then-y-from-clause-low
returns-then-y-from-clause-low g c x inside =
    let held = low_in_mass c.args.grid.now c.args.y c.args.more (omega arith) in
    rw c.set.ensures (low_more c.args.grid.now c.args.y x c.clamp_to.result c.args.more.lo (omega arith) (omega arith))

pub returns-then-y-from-clause-high : goal.returns-then-y-from-clause-high
returns-then-y-from-clause-high g c x inside =
    rw c.set.ensures (high_more c.args.grid.now c.args.y x c.clamp_to.result c.args.more.hi (2 ^ g.row.B) (omega arith)
    (omega arith) (high_end c.args.grid.now x c.cells.ensures.grid))

pub returns-then-y-from-clause-mass : goal.returns-then-y-from-clause-mass
returns-then-y-from-clause-mass g c = rw c.set.ensures
    (omega (arith, mass_set c.args.grid.now c.args.y c.clamp_to.result (omega arith)))

pub returns-then-y-from-clause-spread : goal.returns-then-y-from-clause-spread
returns-then-y-from-clause-spread g c =
    let held = low_in_mass c.args.grid.now c.args.y c.args.more (omega arith) in
    rw c.set.ensures (omega (arith, spread_set c.args.grid.now c.args.y c.clamp_to.result (omega arith)))

pub returns-else-y-from-clause-low : goal.returns-else-y-from-clause-low
returns-else-y-from-clause-low g c x inside = not_here c.args.y x (low_at c.args.grid.now x) c.args.more.lo
    (omega arith)

pub returns-else-y-from-clause-high : goal.returns-else-y-from-clause-high
returns-else-y-from-clause-high g c x inside =
    let small = high_end c.args.grid.now x c.cells.ensures.grid in
    omega (arith, not_here c.args.y x (high_at c.args.grid.now x) c.args.more.hi (omega arith))
