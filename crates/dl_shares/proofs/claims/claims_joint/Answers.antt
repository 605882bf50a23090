use Rattle.dl_shares.proofs.Common.{◌+◌, ◌*◌, ◌^◌, ◌≤◌, ◌∙◌, min, ap, ap₂, arith, length, mul-le-mul_right, pow_pos, scale_of, spread, thinned_mean, up, claims_down, claims_up}
use Rattle.dl_shares.proofs.ClaimSums.{cells_order, cells_top, cells_near}
use Rattle.dl_shares.proofs.ShareEnds.{whole_lowered}
use Rattle.dl_shares.proofs.Widths.{lowered_narrow}
use Rattle.dl_shares.proofs.claims.claims_joint.Goals as goal

pub of_claims-requires : goal.of_claims-requires
of_claims-requires g c =
    let grid = c.args.grid.now in
    let is = c.cells.ensures.grid in
    let scale = scale_of grid is.some in
    let low = rw c.as_slice.ensures at c.cell_sums-low.ensures.low in
    let high = rw c.as_slice.ensures at c.cell_sums-low.ensures.high in
    rw (low, high) (
      omega arith,
      (
        scale.0,
        (
          scale.1,
          (
            c.requires.claims,
            (
              cells_order grid c.args.unit.now c.args.q is c.requires.inside,
              cells_top grid c.args.unit.now c.args.q is c.requires.inside,
            ),
          ),
        ),
      ),
    )

pub returns-clause-low : goal.returns-clause-low
returns-clause-low g c =
    c.clamp_to.ensures.low
    ∙ ap₂ min
    (c.of_claims.ensures.low ∙ ap (claims_down c.args.unit.now) (rw c.as_slice.ensures at c.cell_sums-low.ensures.low))
    (ap (λ t. c.args.q * t) c.units_of_one.ensures)

pub returns-clause-high : goal.returns-clause-high
returns-clause-high g c =
    c.clamp_to.ensures.high
    ∙ ap₂ min
    (c.of_claims.ensures.high ∙ ap (claims_up c.args.unit.now) (rw c.as_slice.ensures at c.cell_sums-low.ensures.high))
    (ap (λ t. c.args.q * t) c.units_of_one.ensures)

pub returns-clause-holds : goal.returns-clause-holds
returns-clause-holds g c Q R exact most =
    let low = rw c.as_slice.ensures at c.cell_sums-low.ensures.low in
    let high = rw c.as_slice.ensures at c.cell_sums-low.ensures.high in
    rw (c.clamp_to.ensures.low, c.clamp_to.ensures.high, c.units_of_one.ensures)
    (whole_lowered Q R (2 ^ g.row.B) c.of_claims.result.lo c.of_claims.result.hi c.args.q (pow_pos g.row.B)
    (c.of_claims.ensures.holds Q R (rw (low, high) exact)) most)

pub returns-clause-width : goal.returns-clause-width
returns-clause-width g c =
    let grid = c.args.grid.now in
    let q = c.args.q in
    let low = rw c.as_slice.ensures at c.cell_sums-low.ensures.low in
    let high = rw c.as_slice.ensures at c.cell_sums-low.ensures.high in
    let few : q ≤ length grid = omega (arith, c.requires.inside) in
    let wide : q * spread grid + 1 ≤ length grid * spread grid + 2 = omega (arith, mul-le-mul_right (spread grid) few) in
    omega (
      arith,
      lowered_narrow c.of_claims.result.hi c.of_claims.result.lo (q * c.units_of_one.result),
      c.of_claims.ensures.width (q * spread grid) (rw (low, high) (cells_near grid c.args.unit.now q
          c.cells.ensures.grid c.requires.inside)),
      mul-le-mul_right (up (thinned_mean c.args.unit.now)) wide,
    )
