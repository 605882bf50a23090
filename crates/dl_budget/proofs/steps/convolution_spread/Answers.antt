use Rattle.dl_budget.proofs.Common.{◌≡◌, ◌*◌, ◌^◌, arith, ap, ◌∙◌, div_ceil, pow_pos, cv_is}
use Rattle.dl_budget.proofs.SizeLaws.{joined_small}
use Rattle.dl_budget.proofs.steps.convolution_spread.Goals as goal

pub returns-clause-value : goal.returns-clause-value
returns-clause-value g c =
    omega (
      arith,
      ap (λ scale. div_ceil (c.args.x * c.args.y) scale) c.units_of_one.ensures,
      cv_is (2 ^ g.row.B) c.args.cells c.args.x c.args.y (pow_pos g.row.B),
    )

pub returns-clause-small : goal.returns-clause-small
returns-clause-small g c =
    let product : c.div_ceil-product.result ≡ div_ceil (c.args.x * c.args.y) (2 ^ g.row.B) =
    c.div_ceil-product.ensures ∙ ap (λ scale. div_ceil (c.args.x * c.args.y) scale) c.units_of_one.ensures in
    omega (arith, product, joined_small g.row.B c.args.x c.args.y c.requires.scale c.requires.left c.requires.right)
