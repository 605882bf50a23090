use Rattle.dl_measures.proofs.Common.{scale_of}
use Rattle.dl_measures.proofs.MarkLaws.{few_ends}
use Rattle.dl_measures.proofs.distribution.Distribution.of.Goals as goal

pub units_of_one-one-requires : goal.units_of_one-one-requires
units_of_one-one-requires g c = (scale_of c.args.grid.now c.lows-lows.ensures.grid.some).1

pub marks_of-requires : goal.marks_of-requires
marks_of-requires g c =
    few_ends c.args.grid.now c.lows-lows.ensures.grid c.units_of_one-one.ensures c.lows-lows.ensures.cells c.lows-lows.ensures.fits

pub marks_of-requires-2 : goal.marks_of-requires-2
marks_of-requires-2 g c =
    few_ends c.args.grid.now c.lows-lows.ensures.grid c.units_of_one-one.ensures c.highs-highs.ensures.cells c.highs-highs.ensures.fits
