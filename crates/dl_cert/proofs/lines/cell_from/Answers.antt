use Rattle.dl_cert.proofs.Common.{arith}
use Rattle.dl_cert.proofs.Words.{not_blank, none_left}
use Rattle.dl_cert.proofs.Readings.{cell_begins, no_cell_begins, no_cell_at}
use Rattle.dl_cert.proofs.lines.cell_from.Goals as goal

pub returns-then-from-text-clause-cell : goal.returns-then-from-text-clause-cell
returns-then-from-text-clause-cell c =
    no_cell_at _ (none_left c.args.text.now c.args.from (omega (arith, c.if-from-text.true)))

pub returns-then-text-from-ne32-clause-cell : goal.returns-then-text-from-ne32-clause-cell
returns-then-text-from-ne32-clause-cell c =
    no_cell_at _ (not_blank c.args.text.now c.args.from (omega (arith, c.if-from-text.false, c.requires))
    c.if-text-from-ne32.true)

pub returns-in_default-clause-cell : goal.returns-in_default-clause-cell
returns-in_default-clause-cell c =
    no_cell_begins c.args.text.now c.args.from
    (omega (arith, c.if-from-text.false, c.requires)) c.if-text-from-ne32.false c.after-rest.ensures
    c.index_of-end.ensures.offset c.in_default.ensures

pub returns-clause-cell : goal.returns-clause-cell
returns-clause-cell c =
    cell_begins c.args.text.now c.args.from
    (omega (arith, c.if-from-text.false, c.requires)) c.if-text-from-ne32.false c.after-rest.ensures
    c.index_of-end.ensures.offset c.in-Some.ensures
