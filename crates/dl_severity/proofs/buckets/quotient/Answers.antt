-- The quotient of a whole value.
use Rattle.dl_severity.proofs.Whole.{quotient_whole}
use Rattle.dl_severity.proofs.buckets.quotient.Goals as goal

pub returns : goal.returns
returns c =
    quotient_whole c.args.value c.args.bs c.num.result c.den.result c.den-2.result c.num-2.result c.requires.bucket
    c.num.ensures.part c.den.ensures.part c.den-2.ensures.part c.num-2.ensures.part c.requires.on_grid
