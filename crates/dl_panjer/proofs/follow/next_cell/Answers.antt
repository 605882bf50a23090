use Rattle.dl_panjer.proofs.Common.{◌≡◌, ◌-◌, ◌≤◌, ◌^◌, eqb, length, arith, ◌∙◌, not, div_ceil, low_at, high_at, one_fits, counted, total_pos, low_le_high, IsGridSize, ◌*◌, size_few, Bool, List, Item, IsWeighted, coefficient, next_sum, ◌<◌, ℕ, suc}
use Rattle.dl_panjer.proofs.ItemSums.{next_sum_rises}
use Rattle.dl_panjer.proofs.Reading.{low_at_most, high_at_most}
use Rattle.dl_panjer.proofs.Steps.{high_counted, next_order, step_fits, cell_low, cell_high}
use Rattle.dl_panjer.proofs.follow.next_cell.Goals as goal

-- the product of a sum over the total weight and the rate's first part
fits : (b : Bool) (num : ℕ) {B n T total sum : ℕ} {items : List Item} {ends : ℕ → ℕ} → IsWeighted items T → IsGridSize B n
    → ((k : ℕ) → ends k ≤ 2 ^ B) → sum ≡ next_sum (coefficient b items) ends (n - 1) → total ≡ T
    → counted b 65536 num < 2 ^ 64 → div_ceil sum total * num < 2 ^ 128
fits b num {B} {n} {T} {items = items} {ends} w size small is all room =
    let last : suc (n - 1) ≤ 65536 = omega (arith, size_few size, size.some) in
    step_fits b (suc (n - 1)) (2 ^ B) _ num last (one_fits B size.scale_below)
    (rw (is, all) (high_counted b items T (2 ^ B) (n - 1) (total_pos items T w) w.sum ends small)) room

pub divisor-den-requires : goal.divisor-den-requires
divisor-den-requires g c = size_few c.requires.cells.size

pub ends_of-lo-requires-clause-total : goal.ends_of-lo-requires-clause-total
ends_of-lo-requires-clause-total g c =
    omega (arith, c.from.ensures, total_pos c.args.items.now c.args.total c.requires.weighted)

pub ends_of-lo-requires-clause-ordered : goal.ends_of-lo-requires-clause-ordered
ends_of-lo-requires-clause-ordered g c =
    let cells = c.args.cells.now in
    rw (c.sums_before-sums.ensures.low, c.sums_before-sums.ensures.high) (next_sum_rises
    (coefficient (not (eqb g.row.BY_AMOUNT 0)) c.args.items.now) (low_at cells) (high_at cells) _ (low_le_high cells))

pub ends_of-lo-requires-clause-fits : goal.ends_of-lo-requires-clause-fits
ends_of-lo-requires-clause-fits g c =
    fits (not (eqb g.row.BY_AMOUNT 0)) _ c.requires.weighted c.requires.cells.size (high_at_most c.args.cells.now c.requires.cells.small)
    c.sums_before-sums.ensures.high c.from.ensures
    (rw c.from-num.ensures c.requires.room)

pub invariant_of-result-clause-ordered : goal.invariant_of-result-clause-ordered
invariant_of-result-clause-ordered g c =
    let b = not (eqb g.row.BY_AMOUNT 0) in
    let cells = c.args.cells.now in
    let w = c.requires.weighted in
    let divisor = c.divisor-den.ensures in
    let num = c.from-num.ensures in
    let low = c.ends_of-lo.ensures.low ∙ cell_low b c.args.items.now c.args.total c.args.rate (low_at cells)
    (length cells) _ _ _ _ c.requires.cells.size.some c.sums_before-sums.ensures.low c.from.ensures num divisor in
    let high = c.ends_of-lo.ensures.high ∙ cell_high (2 ^ g.row.B) b c.args.items.now c.args.total c.args.rate (high_at cells)
    (length cells) _ _ _ _ c.requires.cells.size.some c.sums_before-sums.ensures.high c.from.ensures num divisor in
    rw (low, high) (next_order b c.args.items.now c.args.total (2 ^ g.row.B) (length cells - 1)
    (total_pos c.args.items.now c.args.total w) w.sum c.args.rate
    (low_at cells) (high_at cells) (low_le_high cells) (low_at_most cells c.requires.cells.small))

pub invariant_of-result-clause-in_range : goal.invariant_of-result-clause-in_range
invariant_of-result-clause-in_range g c =
    omega (arith, c.ends_of-lo.ensures.high, one_fits g.row.B c.requires.cells.size.scale_below)

pub returns : goal.returns
returns g c =
    let b = not (eqb g.row.BY_AMOUNT 0) in
    let cells = c.args.cells.now in
    let num = c.from-num.ensures in
    let divisor = c.divisor-den.ensures in
    record {
      low = c.ends_of-lo.ensures.low ∙ cell_low b c.args.items.now c.args.total c.args.rate (low_at cells) (length cells)
          _ _ _ _ c.requires.cells.size.some c.sums_before-sums.ensures.low c.from.ensures num divisor;
      high = c.ends_of-lo.ensures.high ∙ cell_high (2 ^ g.row.B) b c.args.items.now c.args.total c.args.rate (high_at cells)
          (length cells) _ _ _ _ c.requires.cells.size.some c.sums_before-sums.ensures.high c.from.ensures num divisor;
    }
