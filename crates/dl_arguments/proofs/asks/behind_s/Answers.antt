-- The one byte is an `s`.
use Rattle.dl_arguments.proofs.Common.{arith, strip_prefix_char}
use Rattle.dl_arguments.proofs.Cuts.{behind_is}
use Rattle.dl_arguments.proofs.asks.behind_s.Goals as goal

pub returns : goal.returns
returns c = behind_is c.args.text.now c.strip_prefix.result
    (strip_prefix_char 115 c.args.text.now c.strip_prefix.result c.strip_prefix.ensures.cases (omega arith))
