use Rattle.dl_measures.proofs.Common.{scale_of}
use Rattle.dl_measures.proofs.MarkLaws.{few_ends}
use Rattle.dl_measures.proofs.distribution.Distribution.lows.Goals as goal

pub units_of_one-requires : goal.units_of_one-requires
units_of_one-requires g c = (scale_of _ c.lows.ensures.grid.some).1

pub running-requires-clause-few : goal.running-requires-clause-few
running-requires-clause-few g c =
    few_ends _ c.lows.ensures.grid c.units_of_one.ensures c.lows.ensures.cells c.lows.ensures.fits
