-- Whole where the denominator divides the numerator.
use Rattle.dl_severity.proofs.Whole.{divides_whole, whole_divides}
use Rattle.dl_severity.proofs.buckets.is_on_grid.Goals as goal

pub returns : goal.returns
returns c = (
  divides_whole c.args.value c.args.bs c.num.result c.den.result c.den-2.result c.num-2.result c.requires.bucket
      c.num.ensures.part c.den.ensures.part c.den-2.ensures.part c.num-2.ensures.part,
  whole_divides c.args.value c.args.bs c.num.result c.den.result c.den-2.result c.num-2.result c.requires.bucket
      c.num.ensures.part c.den.ensures.part c.den-2.ensures.part c.num-2.ensures.part,
)
