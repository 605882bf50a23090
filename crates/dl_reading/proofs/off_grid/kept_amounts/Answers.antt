-- Each amount is mapped to a whole number.
use Rattle.dl_reading.proofs.Common.{arith}
use Rattle.dl_reading.proofs.OffGrid.{kept_num, kept_more}
use Rattle.dl_reading.proofs.off_grid.kept_amounts.Goals as goal

pub amounts-preserved : goal.amounts-preserved
amounts-preserved c =
    kept_more c.args.cede.now c.deref_mut-amount-items.result.now c.amounts.amount-items c.amounts.amount-index
    c.amounts-test.true
    c.amounts.invariant _ c.unwrap.result (omega arith)
    (kept_num c.at.result _ c.unwrap.result c.at.ensures.value c.unwrap.ensures)
