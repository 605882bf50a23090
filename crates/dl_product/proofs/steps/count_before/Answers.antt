use Rattle.dl_product.proofs.Apart.{count_of}
use Rattle.dl_product.proofs.steps.count_before.Goals as goal

pub returns : goal.returns
returns c =
    count_of c.args.cells c.args.start c.args.step c.args.most _ _ _ c.requires c.saturating_sub.ensures c.div_ceil.ensures
    c.min.ensures
