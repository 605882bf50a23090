-- What the parts so far have added.
use Rattle.dl_printer.proofs.Common.{◌≡◌, take, flat_map, with_pieces}
use Rattle.dl_printer.proofs.printer.Printer.each.Given as goal

abbrev pub invariant-loop-part : goal.invariant-loop-part
invariant-loop-part g l = l.self ≡ with_pieces l.fn.self (flat_map g.T.Printed.pieces (take l.part-index l.parts))
