use Rattle.dl_convolution.proofs.Common.{◌/◌, ◌^◌, arith, length, get_or, sym, ap, ◌∙◌, min, div_ceil, scale_of}
use Rattle.dl_grid.proofs.EndLists.{low_at_ends, high_at_ends, low_ends_long}
use Rattle.dl_convolution.proofs.Ends.{convolved_ends, convolved_spread, all_fit}
use Rattle.dl_convolution.proofs.grids.grid_of_sums.Goals as goal

pub round_down-lows-requires : goal.round_down-lows-requires
round_down-lows-requires g c = (scale_of c.args.a.now c.cells.ensures.grid.some).1

pub round_up-highs-requires-clause-scale : goal.round_up-highs-requires-clause-scale
round_up-highs-requires-clause-scale g c = (scale_of c.args.a.now c.cells.ensures.grid.some).1

pub round_up-highs-requires-clause-small : goal.round_up-highs-requires-clause-small
round_up-highs-requires-clause-small g c =
    all_fit c.args.a.now c.args.b.now c.args.highs.items (length c.args.lows.items) c.cells.ensures.grid
    c.cells-2.ensures.grid c.requires.in_first c.requires.paired c.requires.high

pub from_ends-requires : goal.from_ends-requires
from_ends-requires g c = (
  omega arith,
  convolved_ends c.args.a.now c.args.b.now _ _ (length c.args.lows.items) c.cells.ensures.grid
      c.cells-2.ensures.grid c.requires.some c.requires.in_first (omega arith) (omega arith)
      (λ s inside. c.round_down-lows.ensures.each s inside ∙ ap (λ sum. sum / 2 ^ g.row.B) (c.requires.low s inside))
      (λ s inside. c.round_up-highs.ensures.each s (omega arith)
      ∙ ap (λ sum. min (2 ^ g.row.B) (div_ceil sum (2 ^ g.row.B))) (c.requires.high s inside)),
)

pub returns-clause-convolution : goal.returns-clause-convolution
returns-clause-convolution g c = record {
  low = λ s inside. sym (low_at_ends c.from_ends.result s) ∙ ap (λ l. get_or l s 0) c.from_ends.ensures.low
      ∙ c.round_down-lows.ensures.each s inside ∙ ap (λ sum. sum / 2 ^ g.row.B) (c.requires.low s inside);
  high = λ s inside. sym (high_at_ends c.from_ends.result s) ∙ ap (λ l. get_or l s 0) c.from_ends.ensures.high
      ∙ c.round_up-highs.ensures.each s (omega arith)
      ∙ ap (λ sum. min (2 ^ g.row.B) (div_ceil sum (2 ^ g.row.B))) (c.requires.high s inside);
}

pub returns-clause-cells : goal.returns-clause-cells
returns-clause-cells g c = omega (arith, low_ends_long c.from_ends.result, ap length c.from_ends.ensures.low)

pub returns-clause-spread : goal.returns-clause-spread
returns-clause-spread g c =
    convolved_spread c.args.a.now c.args.b.now c.from_ends.result (length c.args.lows.items)
    c.cells.ensures.grid c.cells-2.ensures.grid (returns-clause-cells g c) (returns-clause-convolution g c)
