-- The units come behind the head.
use Rattle.dl_printer.proofs.Common.{program_pieces, rules}
use Rattle.dl_printer.proofs.Growing.{with_append}
use Rattle.dl_printer.proofs.printer.Printer.program.Goals as goal

pub returns : goal.returns
unfolding program_pieces
returns c = search (rules, with_append)
