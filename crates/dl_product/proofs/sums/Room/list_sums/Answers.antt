use Rattle.dl_product.proofs.Common.{◌≡◌, ◌∙◌, arith, length, get_or, ap, fewer_fit, get_or_past, if_ok_two, written}
use Rattle.dl_product.proofs.Apart.{list_sums}
use Rattle.dl_product.proofs.sums.Room.list_sums.Goals as goal

pub write_sums-requires : goal.write_sums-requires
write_sums-requires c =
    rw (ap length c.as_mut_slice.ensures.value ∙ c.in_ok-set_length.ensures)
    (fewer_fit _ c.count_before-count.ensures.within c.requires.fit)

pub returns-clause-sums : goal.returns-clause-sums
returns-clause-sums c =
    let a = c.args.a in
    let b = c.unwrap_or-other.result in
    let items = c.set_length.new.list.items in
    let room = ap length c.as_mut_slice.ensures.value ∙ c.in_ok-set_length.ensures in
    let same : length c.write_sums.new.out ≡ length items = c.write_sums.auto.out ∙ ap length c.as_mut_slice.ensures.value in
    let whole = c.as_slice.ensures.value ∙ written items c.write_sums.new.out _ same c.set_length.new.list.ok.0 in
    let long : length c.as_slice.result.now ≡ c.count_before-count.result = ap length whole ∙ c.write_sums.auto.out ∙ room in
    if_ok_two c.spread_out.result _ _ _ (λ v each _ f h p q s inside.
    list_sums a.start b.start c.args.step c.args.cells (length a.items.now) (length b.items.now) a.items.now b.items.now
    c.as_slice.result.now v.items f h c.requires.some p (rw c.unwrap_or-other.ensures q) each
    (λ k below. ap (λ xs. get_or xs k 0) whole ∙ rw c.unwrap_or-other.ensures
    (c.in_ok-write_sums.ensures k (omega (arith, below, long, room))))
    (rw long c.count_before-count.ensures) (λ i past. get_or_past a.items.now i 0 past)
    (λ j past. get_or_past b.items.now j 0 past) s inside) c.spread_out.ensures.each c.spread_out.ensures.each
