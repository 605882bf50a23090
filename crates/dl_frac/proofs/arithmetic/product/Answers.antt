-- The parts that are left after the cut across.
use Rattle.dl_frac.proofs.FractionLaws.{product_pos, product_lowest, product_same}
use Rattle.dl_frac.proofs.arithmetic.product.Goals as goal

pub lowest_terms-requires-clause-positive : goal.lowest_terms-requires-clause-positive
lowest_terms-requires-clause-positive c =
    rw (c.divisor-up.ensures.value, c.divisor-down.ensures.value)
    (product_pos c.args.a c.args.b c.args.c c.args.d c.requires.left c.requires.right)

pub lowest_terms-requires-clause-lowest : goal.lowest_terms-requires-clause-lowest
lowest_terms-requires-clause-lowest c =
    rw (c.divisor-up.ensures.value, c.divisor-down.ensures.value)
    (product_lowest c.args.a c.args.b c.args.c c.args.d c.requires.left c.requires.right c.requires.left_lowest
    c.requires.right_lowest)

pub returns : goal.returns
returns c = rw (
  ← product_same c.args.a c.args.b c.args.c c.args.d c.requires.left c.requires.right,
  ← c.divisor-up.ensures.value,
  ← c.divisor-down.ensures.value,
) c.lowest_terms.ensures
