-- The first sign cuts.
use Rattle.dl_arguments.proofs.Cuts.{cut_is}
use Rattle.dl_arguments.proofs.asks.cut.Goals as goal

pub returns : goal.returns
returns c = cut_is c.args.sign c.args.text.now c.split_once.result c.split_once.ensures.cases c.requires
