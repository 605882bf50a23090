use Rattle.dl_shares.proofs.Common.{◌+◌, ◌*◌, ◌≤◌, arith, length, mul-le-mul_right, scale_of, spread, thinned_mean, sum_to, up}
use Rattle.dl_shares.proofs.ClaimSums.{sums_near, sums_top, sums_fit, sums_hold}
use Rattle.dl_shares.proofs.claims.claims_sums.Goals as goal

pub overflow_mul-parts : goal.overflow_mul-parts
overflow_mul-parts g c =
    let parts = rw c.as_slice.ensures at c.running_sums-low.ensures.parts in
    let fits = sums_fit c.args.grid.now c.args.unit.now c.args.q c.cells.ensures.grid c.requires.inside c.requires.narrow in
    rw (parts, c.spread.ensures) (omega (arith, fits))

pub overflow_add-low : goal.overflow_add-low
overflow_add-low g c =
    let low = rw c.as_slice.ensures at c.running_sums-low.ensures.low in
    let parts = rw c.as_slice.ensures at c.running_sums-low.ensures.parts in
    let fits = sums_fit c.args.grid.now c.args.unit.now c.args.q c.cells.ensures.grid c.requires.inside c.requires.narrow in
    rw (low, parts, c.spread.ensures) (omega (arith, fits))

pub of_claims-requires : goal.of_claims-requires
of_claims-requires g c =
    let grid = c.args.grid.now in
    let is = c.cells.ensures.grid in
    let scale = scale_of grid is.some in
    let low = rw c.as_slice.ensures at c.running_sums-low.ensures.low in
    let parts = rw c.as_slice.ensures at c.running_sums-low.ensures.parts in
    rw (low, parts, c.spread.ensures) (
      omega arith,
      (
        scale.0,
        (
          scale.1,
          (
            c.requires.claims,
            (omega arith, sums_top grid c.args.unit.now c.args.q is c.requires.inside c.requires.narrow),
          ),
        ),
      ),
    )

pub returns-clause-holds : goal.returns-clause-holds
returns-clause-holds g c joint R rise each =
    let low = rw c.as_slice.ensures at c.running_sums-low.ensures.low in
    let parts = rw c.as_slice.ensures at c.running_sums-low.ensures.parts in
    c.of_claims.ensures.holds (λ N. sum_to c.args.q (λ x. joint x N)) R (rw (low, parts, c.spread.ensures)
    (sums_hold c.args.grid.now c.args.unit.now c.args.q c.cells.ensures.grid c.requires.inside joint R rise each))

pub returns-clause-width : goal.returns-clause-width
returns-clause-width g c =
    let grid = c.args.grid.now in
    let q = c.args.q in
    let low = rw c.as_slice.ensures at c.running_sums-low.ensures.low in
    let parts = rw c.as_slice.ensures at c.running_sums-low.ensures.parts in
    let few : q ≤ length grid = omega (arith, c.requires.inside) in
    let wide : q * spread grid + 1 ≤ length grid * spread grid + 2 = omega (arith, mul-le-mul_right (spread grid) few) in
    omega (
      arith,
      c.of_claims.ensures.width (q * spread grid) (rw (low, parts, c.spread.ensures) (sums_near grid c.args.unit.now q
          c.cells.ensures.grid c.requires.inside)),
      mul-le-mul_right (up (thinned_mean c.args.unit.now)) wide,
    )
