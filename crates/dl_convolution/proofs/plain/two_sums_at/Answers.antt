use Rattle.dl_convolution.proofs.Common.{◌+◌, ◌*◌, arith, ap₂, ◌∙◌}
use Rattle.dl_convolution.proofs.Fits.{sum_fits}
use Rattle.dl_convolution.proofs.Columns.{column_ends, column_last}
use Rattle.dl_convolution.proofs.plain.two_sums_at.Goals as goal

pub overflow_add-result : goal.overflow_add-result
overflow_add-result c =
    omega (
      arith,
      column_last c.args.a.now c.args.b.now (c.args.s + 1) _ _ _ (omega arith) (omega arith)
          c.two_sums_up_to-first.ensures.second
          (c.product_of_ends-last.ensures ∙ ap₂ (λ x y. x * y) c.item_or_zero.ensures c.item_or_zero-2.ensures),
      sum_fits (c.args.s + 1) c.requires (omega arith),
    )

pub returns-clause-first : goal.returns-clause-first
returns-clause-first c =
    c.two_sums_up_to-first.ensures.first
    ∙ column_ends c.args.a.now c.args.b.now c.args.s _ (omega arith) (omega arith)

pub returns-clause-second : goal.returns-clause-second
returns-clause-second c =
    column_last c.args.a.now c.args.b.now (c.args.s + 1) _ _ _ (omega arith) (omega arith)
    c.two_sums_up_to-first.ensures.second
    (c.product_of_ends-last.ensures ∙ ap₂ (λ x y. x * y) c.item_or_zero.ensures c.item_or_zero-2.ensures)
