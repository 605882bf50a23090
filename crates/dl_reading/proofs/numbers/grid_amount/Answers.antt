-- The quotient by the parts of the amount and of the bucket size.
use Rattle.dl_reading.proofs.Amounts.{amount_read}
use Rattle.dl_reading.proofs.numbers.grid_amount.Goals as goal

pub returns : goal.returns
returns c = rw c.none.ensures
    (amount_read c.args.most c.args.amount c.args.bs c.num.result c.den.result c.den-2.result c.num-2.result
    c.requires.bucket.above c.num.ensures.part c.den.ensures.part c.den-2.ensures.part c.num-2.ensures.part
    c.args.span c.min.result c.span_if.result c.span_if-2.result c.min.ensures c.span_if.ensures
    c.span_if-2.ensures)
