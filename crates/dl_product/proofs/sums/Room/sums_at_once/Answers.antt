use Rattle.dl_product.proofs.Common.{◌≡◌, ◌∙◌, arith, length, ap, get_or_past, HoldsEnds}
use Rattle.dl_product.proofs.Apart.{list_sums}
use Rattle.dl_product.proofs.Reading.{low_past}
use Rattle.dl_product.proofs.sums.Room.sums_at_once.Goals as goal

pub returns : goal.returns
returns c =
    let a = c.args.a in
    let b = c.unwrap_or-other.result in
    let step : b.step ≡ a.step = rw c.unwrap_or-other.ensures c.requires in
    let low_long : length c.as_slice.result.now ≡ c.count_before-count.result =
    ap length c.as_slice.ensures.value ∙ c.in_ok-multiply.ensures.low_count in
    let high_long : length c.as_slice-2.result.now ≡ c.count_before-count.result =
    ap length c.as_slice-2.ensures.value ∙ c.in_ok-multiply.ensures.high_count in
    record {
      low_cells = c.in_ok-lows.ensures.cells;
      high_cells = c.in_ok-highs.ensures.cells;
      low = λ xs us ys vs p q s inside.
          let held : HoldsEnds ys vs b = rw c.unwrap_or-other.ensures q in
          list_sums a.highs.start b.highs.start a.step c.args.cells (length a.highs.items.now) (length b.highs.items.now)
          a.cells.lows.now b.cells.lows.now c.as_slice.result.now c.in_ok-lows.lows.items _ _ a.some p.cells
          (rw (← step) held.cells) c.in_ok-lows.ensures.each
          (λ k below. rw (c.as_slice.ensures.value, c.unwrap_or-other.ensures)
          (c.in_ok-multiply.ensures.low c.if-not-branch.false k (omega (arith, below, low_long))))
          (rw low_long c.count_before-count.ensures) (low_past a) (low_past b) s inside;
      high = λ xs us ys vs p q s inside.
          let held : HoldsEnds ys vs b = rw c.unwrap_or-other.ensures q in
          list_sums a.highs.start b.highs.start a.step c.args.cells (length a.highs.items.now) (length b.highs.items.now)
          a.highs.items.now b.highs.items.now c.as_slice-2.result.now c.in_ok-highs.highs.items _ _ a.some p.high
          (rw (← step) held.high) c.in_ok-highs.ensures.each
          (λ k below. rw (c.as_slice-2.ensures.value, c.unwrap_or-other.ensures)
          (c.in_ok-multiply.ensures.high c.if-not-branch.false k (omega (arith, below, high_long))))
          (rw high_long c.count_before-count.ensures) (λ i past. get_or_past a.highs.items.now i 0 past)
          (λ j past. get_or_past b.highs.items.now j 0 past) s inside;
    }
