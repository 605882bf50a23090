-- A note is one token.
use Rattle.dl_printer.proofs.Common.{rules}
use Rattle.dl_printer.proofs.units.TextPrinted.print.Goals as goal

pub returns : goal.returns
returns c = search rules
