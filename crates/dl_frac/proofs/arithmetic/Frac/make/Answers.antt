-- The parts that are left after the common divisor is taken out.
use Rattle.dl_frac.proofs.Common.{cut_pos, cut_lowest, cut_same}
use Rattle.dl_frac.proofs.arithmetic.Frac.make.Goals as goal

pub lowest_terms-requires-clause-positive : goal.lowest_terms-requires-clause-positive
lowest_terms-requires-clause-positive c = rw c.wide_divisor-common.ensures.value (cut_pos c.args.num c.args.den c.requires)

pub lowest_terms-requires-clause-lowest : goal.lowest_terms-requires-clause-lowest
lowest_terms-requires-clause-lowest c = rw c.wide_divisor-common.ensures.value (cut_lowest c.args.num c.args.den c.requires)

pub returns : goal.returns
returns c = rw (← cut_same c.args.num c.args.den c.requires, ← c.wide_divisor-common.ensures.value) c.lowest_terms.ensures
