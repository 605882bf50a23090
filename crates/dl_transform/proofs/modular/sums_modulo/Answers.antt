use Rattle.dl_transform.proofs.Common.{arith, low_sum}
use Rattle.dl_transform.proofs.Products.{product_over}
use Rattle.dl_transform.proofs.modular.sums_modulo.Goals as goal

pub returns-in_default : goal.returns-in_default
returns-in_default c =
    let a = c.args.a.lows.now in
    rw c.in_default.is (c.items_of.ensures.items (low_sum a a)
    (product_over c.args.table.now c.args.levels _ a a _ _ _ (omega arith) (rw c.in_default.is at c.requires.room)
    c.values_of.ensures.values c.values_of.ensures.values c.square_all.ensures.same))

pub returns : goal.returns
returns c =
    let a = c.args.a.lows.now in
    let b = c.in-Some.b.lows.now in
    rw c.in-Some.is (c.items_of-2.ensures.items (low_sum a b)
    (product_over c.args.table.now c.args.levels _ a b _ _ _ (omega arith) (rw c.in-Some.is at c.requires.room)
    c.values_of.ensures.values c.values_of-2.ensures.values c.multiply_all.ensures.same))
