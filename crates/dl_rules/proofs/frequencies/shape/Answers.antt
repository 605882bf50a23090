-- The square of the denominator over that of the numerator.
use Rattle.dl_rules.proofs.Common.{◌∙◌, ap, true, admitted}
use Rattle.dl_rules.proofs.Shapes.{shape_over}
use Rattle.dl_rules.proofs.frequencies.shape.Goals as goal

pub returns : goal.returns
returns c =
    c.small.ensures _ c.make.ensures ∙ ap (admitted true)
    (shape_over c.args.variation c.num-num.result c.den-den.result c.requires c.num-num.ensures.part
    c.den-den.ensures.part)
