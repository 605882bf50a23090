use Rattle.dl_transform.proofs.Common.{arith, low_sum, mixed_sum}
use Rattle.dl_transform.proofs.Products.{mixed_over, product_over, square_over}
use Rattle.dl_transform.proofs.modular.ends_modulo.Goals as goal

pub returns-in_default-clause-low : goal.returns-in_default-clause-low
returns-in_default-clause-low c =
    let a = c.args.a.lows.now in
    rw c.in_default.is (c.items_of.ensures.items (low_sum a a)
    (product_over c.args.table.now c.args.levels _ a a _ _ _ (omega arith) (rw c.in_default.is at c.requires.room)
    c.values_of.ensures.values c.values_of.ensures.values c.square_all.ensures.same))

pub returns-in_default-clause-mixed : goal.returns-in_default-clause-mixed
returns-in_default-clause-mixed c =
    let a = c.args.a.lows.now in
    let u = c.args.a.widths.now in
    rw c.in_default.is (c.items_of-in_default.ensures.items (mixed_sum a u a u)
    (mixed_over c.args.table.now c.args.levels _ a u a u _ _ _ _ _ (omega arith) (rw c.in_default.is at c.requires.room)
    c.args.a.words.within c.args.a.words.within c.values_of.ensures.values c.values_of-2.ensures.values
    c.values_of.ensures.values c.values_of-2.ensures.values
    (square_over c.args.table.now.p _ _ _ _ _ _ (omega arith) c.add_ends.ensures.same c.multiply_all.ensures.same)))

pub returns-clause-low : goal.returns-clause-low
returns-clause-low c =
    let a = c.args.a.lows.now in
    let b = c.in-Some.b.lows.now in
    rw c.in-Some.is (c.items_of-2.ensures.items (low_sum a b)
    (product_over c.args.table.now c.args.levels _ a b _ _ _ (omega arith) (rw c.in-Some.is at c.requires.room)
    c.values_of.ensures.values c.values_of-3.ensures.values c.multiply_all-2.ensures.same))

pub returns-clause-mixed : goal.returns-clause-mixed
returns-clause-mixed c =
    let a = c.args.a in
    let b = c.in-Some.b in
    rw c.in-Some.is (c.items_of-3.ensures.items (mixed_sum a.lows.now a.widths.now b.lows.now b.widths.now)
    (mixed_over c.args.table.now c.args.levels _ a.lows.now a.widths.now b.lows.now b.widths.now _ _ _ _ _ (omega arith)
    (rw c.in-Some.is at c.requires.room) a.words.within b.words.within c.values_of.ensures.values c.values_of-2.ensures.values
    c.values_of-3.ensures.values c.values_of-4.ensures.values c.mix_all.ensures.same))
