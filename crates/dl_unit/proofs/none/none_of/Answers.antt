use Rattle.dl_unit.proofs.Common.{◌^◌, arith, subst, sym, ap, GridEncloses, compound_of, IsClaimCount, IsNewZero, none_budget}
use Rattle.dl_unit.proofs.NoClaim.{IsOne, other_one, one_cell, none_valid, none_spread, none_holds, none_width, no_zero_amount, below_few, below_budget}
use Rattle.dl_unit.proofs.none.none_of.Goals as goal
use Rattle.dl_unit.proofs.none.none_of.Goals.{in-Gamma+else-num-den, in_default}

pub gamma_claims-requires : goal.gamma_claims-requires
gamma_claims-requires g c =
    let sev = c.in_ok-sev.ensures in
    let count = subst IsClaimCount c.in-Gamma.is c.requires.count in
    let changed = subst (λ f. IsNewZero f c.requires.changed.0) c.in-Gamma.is c.requires.changed.1 in (
      omega arith,
      (
        one_cell g.row.B c.requires.scale,
        (
          no_zero_amount c.args.freq.now c.in_ok-sev.sev sev.items sev.total,
          (
            count.shape,
            (
              count.beta,
              below_few c.in-Gamma.shape c.in-Gamma.mean c.requires.changed.0 changed count.shape
                  (omega (arith, c.num.ensures.part, c.den.ensures.part, c.if-num-den.true)),
            ),
          ),
        ),
      ),
    )

pub returns-then-num-den-clause-holds : goal.returns-then-num-den-clause-holds
returns-then-num-den-clause-holds g c =
    let sev = c.in_ok-sev.ensures in
    let encloses = subst (λ f. GridEncloses c.in_ok-grid.grid (compound_of f c.in_ok-sev.sev)) (sym c.in-Gamma.is)
    c.in_ok-grid.ensures.encloses in
    none_holds c.args.freq.now c.in_ok-sev.sev sev.items sev.total c.in_ok-grid.grid c.at.result
    (omega (arith, c.in_ok-grid.ensures.cells)) encloses c.at.ensures.low c.at.ensures.high

pub returns-then-num-den-clause-width : goal.returns-then-num-den-clause-width
returns-then-num-den-clause-width g c =
    let changed = subst (λ f. IsNewZero f c.requires.changed.0) c.in-Gamma.is c.requires.changed.1 in
    omega (
      arith,
      none_width c.in_ok-grid.grid c.at.result c.in_ok-grid.ensures.cells c.at.ensures.low c.at.ensures.high,
      c.in_ok-grid.ensures.spread,
      below_budget c.in-Gamma.shape c.in-Gamma.mean c.requires.changed.0 changed (2 ^ g.row.B),
      ap (none_budget (2 ^ g.row.B)) c.in-Gamma.is,
    )

pub sum_grid-requires : goal.sum_grid-requires
sum_grid-requires g c =
    let sev = c.in_ok-sev.ensures in
    let one : IsOne c.args.freq.now = elim c.match-freq.branch [
      | in-Gamma+else-num-den w ↦ rw w.in-Gamma.is
          (omega (arith, w.num.ensures.part, w.den.ensures.part, w.if-num-den.false))
      | in_default w ↦ other_one c.args.freq.now w.in_default.not-Gamma
    ] in (
      omega arith,
      (
        one_cell g.row.B c.requires.scale,
        (
          1,
          none_valid c.args.freq.now c.in_ok-sev.sev sev.items sev.total c.requires.changed.0 c.requires.count
              c.requires.expected c.requires.changed.1 one,
        ),
      ),
    )

pub returns-clause-holds : goal.returns-clause-holds
returns-clause-holds g c =
    let sev = c.in_ok-sev.ensures in
    none_holds c.args.freq.now c.in_ok-sev.sev sev.items sev.total c.in_ok-grid-2.grid c.at-2.result
    (omega (arith, c.in_ok-grid-2.ensures.cells)) c.in_ok-grid-2.ensures.encloses c.at-2.ensures.low c.at-2.ensures.high

pub returns-clause-width : goal.returns-clause-width
returns-clause-width g c =
    let sev = c.in_ok-sev.ensures in
    omega (
      arith,
      none_width c.in_ok-grid-2.grid c.at-2.result c.in_ok-grid-2.ensures.cells c.at-2.ensures.low c.at-2.ensures.high,
      c.in_ok-grid-2.ensures.spread,
      none_spread c.args.freq.now c.in_ok-sev.sev sev.items sev.total (2 ^ g.row.B),
    )
