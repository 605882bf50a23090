use Rattle.std.proofs.Common.{arith, ◌∙◌}
use Rattle.dl_convolution.proofs.Columns.{column_ends}
use Rattle.dl_convolution.proofs.plain.sum_at.Goals as goal

pub returns : goal.returns
returns c =
    c.sum_up_to.ensures ∙ column_ends c.args.a.now c.args.b.now c.args.s _ (omega arith) (omega arith)
