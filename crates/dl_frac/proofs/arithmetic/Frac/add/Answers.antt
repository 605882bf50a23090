-- The parts that are left after the two cuts.
use Rattle.dl_exact.proofs.Parts.{sum_is}
use Rattle.dl_frac.proofs.FractionLaws.{sum_pos, sum_lowest, sum_same}
use Rattle.dl_frac.proofs.arithmetic.Frac.add.Goals as goal

pub lowest_terms-requires-clause-positive : goal.lowest_terms-requires-clause-positive
lowest_terms-requires-clause-positive c =
    rw (c.wide_divisor-cut.ensures.value, c.divisor-shared.ensures.value)
    (sum_pos c.self.inside.num c.self.inside.den c.o.inside.num c.o.inside.den c.self.inside.positive
    c.o.inside.positive)

pub lowest_terms-requires-clause-lowest : goal.lowest_terms-requires-clause-lowest
lowest_terms-requires-clause-lowest c =
    rw (c.wide_divisor-cut.ensures.value, c.divisor-shared.ensures.value)
    (sum_lowest c.self.inside.num c.self.inside.den c.o.inside.num c.o.inside.den c.self.inside.positive
    c.o.inside.positive c.self.inside.lowest c.o.inside.lowest)

pub returns : goal.returns
returns c =
    rw (
      ← sum_is c.args.self c.args.o,
      ← c.self.view_is,
      ← c.o.view_is,
      ← sum_same c.self.inside.num c.self.inside.den c.o.inside.num c.o.inside.den c.self.inside.positive
          c.o.inside.positive,
    )
    (rw (← c.divisor-shared.ensures.value, ← c.wide_divisor-cut.ensures.value) c.lowest_terms.ensures)
