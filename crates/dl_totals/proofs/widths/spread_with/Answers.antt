use Rattle.dl_totals.proofs.Common.{◌^◌, arith, ap, ◌∙◌, convolution_spread, scale_of}
use Rattle.dl_totals.proofs.Added.{one_wider}
use Rattle.dl_totals.proofs.widths.spread_with.Goals as goal

pub convolution_spread-requires : goal.convolution_spread-requires
convolution_spread-requires g c = (scale_of c.unit-item.result c.cells.ensures.grid.some).1

pub loop-unit-preserved : goal.loop-unit-preserved
loop-unit-preserved g c =
    one_wider c.args.units.now c.args.cells c.loop-unit.unit-index c.loop-unit.most c.in_ok-most.most c.args.sum
    c.unit-item.result (omega arith) c.unit-item.is
    (c.in_ok-most.ensures.value ∙ ap (λ t. convolution_spread (2 ^ g.row.B) c.args.cells c.loop-unit.most t) c.spread.ensures)
    c.loop-unit.invariant
