-- The parts of the number and of the shape, multiplied out.
use Rattle.dl_rules.proofs.Common.{most_beta, num_pos}
use Rattle.dl_rules.proofs.Shapes.{over_shape}
use Rattle.dl_rules.proofs.frequencies.is_large_over.Goals as goal

pub returns : goal.returns
returns c =
    rw (c.den.ensures.part, c.num.ensures.part, c.num-2.ensures.part, c.den-2.ensures.part, c.in-Some.is)
    (over_shape c.in-Some.number c.args.shape most_beta (num_pos c.args.shape c.requires.above))
