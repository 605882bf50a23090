use Rattle.dl_grid.proofs.Common.{◌^◌, arith, ap₂, div_ceil, pow_pos}
use Rattle.dl_grid.proofs.WidthLaws.{cv_is}
use Rattle.dl_grid.proofs.Computed.{some_is, is_told}
use Rattle.dl_grid.proofs.widths.convolution_spread.Goals as goal

pub returns-clause-value : goal.returns-clause-value
returns-clause-value g c =
    some_is c.checked_add-3.result _ _ _ c.checked_add-3.ensures (omega (
      arith,
      cv_is (2 ^ g.row.B) c.args.cells c.args.x c.args.y (pow_pos g.row.B),
      ap₂ (λ s t. div_ceil s t) c.in_ok-checked_mul.ensures.1 c.units_of_one.ensures,
    ))

pub returns-in_err-sum-clause-room : goal.returns-in_err-sum-clause-room
returns-in_err-sum-clause-room g c small fits =
    let spread = cv_is (2 ^ g.row.B) c.args.cells c.args.x c.args.y (pow_pos g.row.B) in
    absurd (c.in_err-sum.ensures (omega arith))

pub returns-in_err-checked_add-clause-room : goal.returns-in_err-checked_add-clause-room
returns-in_err-checked_add-clause-room g c small fits =
    absurd (c.in_err-checked_add.ensures (omega (
      arith,
      cv_is (2 ^ g.row.B) c.args.cells c.args.x c.args.y (pow_pos g.row.B),
      ap₂ (λ s t. div_ceil s t) c.in_ok-checked_mul.ensures.1 c.units_of_one.ensures,
    )))

pub returns-clause-room : goal.returns-clause-room
returns-clause-room g c small fits =
    is_told c.checked_add-3.result _ _ c.checked_add-3.ensures (omega (
      arith,
      cv_is (2 ^ g.row.B) c.args.cells c.args.x c.args.y (pow_pos g.row.B),
      ap₂ (λ s t. div_ceil s t) c.in_ok-checked_mul.ensures.1 c.units_of_one.ensures,
    ))
