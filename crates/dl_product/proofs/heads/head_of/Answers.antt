use Rattle.dl_product.proofs.Common.{◌∙◌, ◌-◌, ◌≤◌, length, get_or, take, arith, sym, inl, inr, cases_lt, end_fits, get_or-take, length-take, get_or_default, most_cell_end, size_of, size_few}
use Rattle.dl_product.proofs.Taken.{head_ends, taken_at, taken_long, taken_past}
use Rattle.dl_product.proofs.heads.head_of.Goals as goal

pub invariant_of-result : goal.invariant_of-result
invariant_of-result g c =
    let long = length-take c.args.cells c.highs.result.now in
    record {
      ends = head_ends c.lows.result.now c.highs.result.now c.args.cells c.end_of_head-end.result
          (omega (arith, c.lows.ensures.cells, c.requires.within)) (omega (arith, c.highs.ensures.cells, c.requires.within))
          (omega (arith, long, c.end_of_head-end.ensures.within))
          (omega (arith, size_few (size_of c.args.grid.now c.lows.ensures.grid), c.requires.within))
          (λ k. rw (c.lows.ensures.each k, c.highs.ensures.each k) (c.lows.ensures.order k))
          (λ k. end_fits c.highs.result.now most_cell_end c.highs.ensures.fits k);
    }

pub returns : goal.returns
returns g c =
    let n = c.args.cells in
    let e = c.end_of_head-end.result in
    let lows = c.lows.result.now in
    let highs = c.highs.result.now in
    let low_inside : n ≤ length lows = omega (arith, c.lows.ensures.cells, c.requires.within) in
    let inside : n ≤ length highs = omega (arith, c.highs.ensures.cells, c.requires.within) in
    let within : e ≤ n = omega (arith, length-take n highs, c.end_of_head-end.ensures.within) in
    let rest = get_or (take n highs) (n - 1) 0 in
    record {
      grid = c.lows.ensures.grid;
      within = omega (arith, taken_long highs n e inside within, within);
      low = λ x b. elim (cases_lt x e) [
        | inl c1 ↦ taken_at lows n e low_inside within x 0 c1 ∙ c.lows.ensures.each x
        | inr past ↦ taken_past lows n e low_inside within x 0 past
            ∙ sym (sym (c.lows.ensures.each x) ∙ sym (get_or-take n lows x 0 b) ∙ c.end_of_head-end.ensures.low x past)
      ];
      high = λ x b. elim (cases_lt x e) [
        | inl c1 ↦ taken_at highs n e inside within x rest c1
            ∙ get_or_default highs x rest 0 (omega (arith, b, inside)) ∙ c.highs.ensures.each x
        | inr past ↦ taken_past highs n e inside within x rest past
            ∙ sym (sym (c.highs.ensures.each x) ∙ get_or_default highs x 0 rest (omega (arith, b, inside))
            ∙ sym (get_or-take n highs x rest b) ∙ c.end_of_head-end.ensures.high x past)
      ];
    }
