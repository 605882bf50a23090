use Rattle.dl_cert.proofs.Common.{◌∙◌, ap, arith, Some}
use Rattle.dl_cert.proofs.Words.{cell_spelled}
use Rattle.dl_cert.proofs.lines.read_cell.Goals as goal

pub returns : goal.returns
returns c =
    cell_spelled c.args.text.now c.cell_of.result c.index_of-comma.ensures.offset
    (omega (arith, c.if-comma-text.false, c.index_of-comma.ensures.within)) c.after.ensures
    (ap (λ n. Some n) c.from.ensures ∙ c.in-Some.ensures.value) (ap (λ n. Some n) c.from-2.ensures ∙ c.in-Some-number.ensures.value)
    c.cell_of.ensures
