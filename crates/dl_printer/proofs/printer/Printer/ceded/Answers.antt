-- The layer comes behind the share.
use Rattle.dl_printer.proofs.Common.{ceded_pieces, rules}
use Rattle.dl_printer.proofs.Growing.{with_append}
use Rattle.dl_printer.proofs.printer.Printer.ceded.Goals as goal

pub returns : goal.returns
unfolding ceded_pieces
returns c = search (rules, with_append)
