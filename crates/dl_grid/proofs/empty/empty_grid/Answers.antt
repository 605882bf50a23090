use Rattle.std.proofs.Common.{◌^◌, arith, sym, ◌∙◌}
use Rattle.dl_grid.proofs.CellSets.{high_emptied, low_emptied, mass_none, spread_none}
use Rattle.dl_grid.proofs.empty.empty_grid.Goals as goal

pub returns-clause-low : goal.returns-clause-low
returns-clause-low g c = rw c.set.ensures (low_emptied c.in_ok-grid.grid c.point.result (2 ^ g.row.B)
    (omega (arith, c.in_ok-grid.ensures.cells)) c.in_ok-grid.ensures.low c.point.ensures.low)

pub returns-clause-high : goal.returns-clause-high
returns-clause-high g c = rw c.set.ensures (high_emptied c.in_ok-grid.grid c.point.result (2 ^ g.row.B)
    (omega (arith, c.in_ok-grid.ensures.cells)) c.in_ok-grid.ensures.high c.point.ensures.high)

pub returns-clause-mass : goal.returns-clause-mass
returns-clause-mass g c =
    rw c.set.ensures (mass_none _ (low_emptied c.in_ok-grid.grid c.point.result (2 ^ g.row.B)
    (omega (arith, c.in_ok-grid.ensures.cells)) c.in_ok-grid.ensures.low c.point.ensures.low))

pub returns-clause-spread : goal.returns-clause-spread
returns-clause-spread g c =
    let some = c.in_ok-grid.ensures.cells in
    rw c.set.ensures (spread_none _ (λ x.
    high_emptied c.in_ok-grid.grid c.point.result (2 ^ g.row.B)
    (omega (arith, some)) c.in_ok-grid.ensures.high c.point.ensures.high x
    ∙ sym (low_emptied c.in_ok-grid.grid c.point.result (2 ^ g.row.B)
    (omega (arith, some)) c.in_ok-grid.ensures.low c.point.ensures.low x)))
