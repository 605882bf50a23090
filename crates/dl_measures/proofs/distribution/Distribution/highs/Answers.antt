use Rattle.dl_measures.proofs.Common.{scale_of}
use Rattle.dl_measures.proofs.MarkLaws.{few_ends}
use Rattle.dl_measures.proofs.distribution.Distribution.highs.Goals as goal

pub units_of_one-requires : goal.units_of_one-requires
units_of_one-requires g c = (scale_of _ c.highs.ensures.grid.some).1

pub running-requires-clause-few : goal.running-requires-clause-few
running-requires-clause-few g c =
    few_ends _ c.highs.ensures.grid c.units_of_one.ensures c.highs.ensures.cells c.highs.ensures.fits
