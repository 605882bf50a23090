use Rattle.dl_claims.proofs.Common.{◌+◌, ◌^◌, ◌≤◌, arith, ap, ◌∙◌, min, high_at, mass_low, all_at_zero, high_joined}
use Rattle.dl_claims.proofs.HornerSteps.{convolved_mass}
use Rattle.dl_claims.proofs.counts.one_claim_more.Goals as goal

pub add_at_zero-requires : goal.add_at_zero-requires
add_at_zero-requires g c =
    let mass : mass_low c.in_ok-grid.grid ≤ mass_low c.args.later.now =
    convolved_mass c.args.base.now c.args.later.now c.in_ok-grid.grid c.args.cells c.cells.ensures.grid.mass
    c.in_ok-grid.ensures.cells c.in_ok-grid.ensures.convolution in
    (omega arith, (omega arith, (omega (arith, c.in_ok-grid.ensures.cells), (c.requires.small, omega (arith, mass)))))

pub returns-clause-high : goal.returns-clause-high
returns-clause-high g c s inside =
    high_joined (high_at c.in_ok-grid.grid) (high_at c.add_at_zero.new.grid) c.args.share.hi
    (2 ^ g.row.B) c.add_at_zero.ensures.high c.add_at_zero.ensures.others s
    (omega (arith, c.in_ok-grid.ensures.convolution.high s inside))
    ∙ ap (λ t. min (t + all_at_zero c.args.share.hi s) (2 ^ g.row.B)) (c.in_ok-grid.ensures.convolution.high s inside)

pub returns-clause-mass : goal.returns-clause-mass
returns-clause-mass g c =
    let mass : mass_low c.in_ok-grid.grid ≤ mass_low c.args.later.now =
    convolved_mass c.args.base.now c.args.later.now c.in_ok-grid.grid c.args.cells c.cells.ensures.grid.mass
    c.in_ok-grid.ensures.cells c.in_ok-grid.ensures.convolution in
    omega (arith, mass, c.add_at_zero.ensures.mass)
