use Rattle.dl_printer.proofs.Common.{◌≡◌, take, flat_map, and_ceded_pieces, with_pieces}
use Rattle.dl_printer.proofs.printer.Printer.more_layers.Given as goal

abbrev pub invariant-loop-layer : goal.invariant-loop-layer
invariant-loop-layer l = l.self ≡ with_pieces l.fn.self (flat_map and_ceded_pieces (take l.layer-index l.layers))
