use Rattle.dl_cert.proofs.ReadCells.{ReadTo}
use Rattle.dl_cert.proofs.lines.cells_from.Given as goal

abbrev pub invariant-loop-count : goal.invariant-loop-count
invariant-loop-count l = ReadTo l.text l.start l.from l._count l.list.items
