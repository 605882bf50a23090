-- The parts that are left after the common divisor is taken out are in lowest terms, and no greater.
use Rattle.dl_frac.proofs.Common.{◌∙◌, cut_pos, cut_lowest, lowest_self, cut_same}
use Rattle.dl_frac.proofs.arithmetic.reduced.Goals as goal

pub invariant_of-result : goal.invariant_of-result
invariant_of-result c =
    rw c.divisor-common.ensures.value (
      cut_pos c.args.num c.args.den c.requires.positive,
      (cut_lowest c.args.num c.args.den c.requires.positive, tt),
    )

pub returns : goal.returns
returns c = lowest_self _ _ _ _ ∙ rw c.divisor-common.ensures.value (cut_same c.args.num c.args.den c.requires.positive)
