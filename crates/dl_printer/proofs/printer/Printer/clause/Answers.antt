-- Each call goes on where the one before it ended.
use Rattle.dl_printer.proofs.Common.{clause_pieces, rules}
use Rattle.dl_printer.proofs.Growing.{with_append}
use Rattle.dl_printer.proofs.printer.Printer.clause.Goals as goal

pub returns : goal.returns
unfolding clause_pieces
returns c = search (rules, with_append)
