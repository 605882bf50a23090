use Rattle.dl_product.proofs.Common.{◌≡◌, ◌∙◌, arith, length, get_or, ap, if_ok_two, pair_sum, written, unwrap_or, Cells}
use Rattle.dl_product.proofs.Reading.{ends_sum}
use Rattle.dl_product.proofs.sums.Room.multiply.Goals as goal

pub returns-clause-low : goal.returns-clause-low
returns-clause-low c =
    let items = c.set_length.new.list.items in
    let same : length c.transform.new.lows ≡ length items = c.transform.auto.lows ∙ ap length c.as_mut_slice-lows.ensures.value in
    if_ok_two c.transform.result _ _ _ (λ _ each _ yes s inside. ap (λ xs. get_or xs s 0)
    (written items c.transform.new.lows _ same c.set_length.new.list.ok.0)
    ∙ each yes s (omega (arith, inside, ap length c.as_mut_slice-lows.ensures.value, c.in_ok-set_length.ensures))
    ∙ ap (λ (o : Cells). pair_sum c.args.a.cells.lows.now o.lows.now s) (c.cells_of-second.ensures c.args.a))
    c.transform.ensures.low c.transform.ensures.low

pub returns-clause-high : goal.returns-clause-high
returns-clause-high c =
    let a = c.args.a in
    let b = unwrap_or c.args.b a in
    let items = c.set_length-2.new.list.items in
    let same : length c.transform.new.highs ≡ length items = c.transform.auto.highs ∙ ap length c.as_mut_slice-highs.ensures.value in
    if_ok_two c.transform.result _ _ _ (λ _ each _ yes s inside. ap (λ xs. get_or xs s 0)
    (written items c.transform.new.highs _ same c.set_length-2.new.list.ok.0)
    ∙ each yes s (omega (arith, inside, ap length c.as_mut_slice-highs.ensures.value, c.in_ok-set_length-2.ensures))
    ∙ rw (c.cells_of-second.ensures a) (ends_sum a.cells.lows.now a.cells.widths.now a.highs.items.now b.cells.lows.now
    b.cells.widths.now b.highs.items.now s a.widths b.widths)) c.transform.ensures.high c.transform.ensures.high
