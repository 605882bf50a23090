use Rattle.dl_panjer.proofs.Common.{ℕ, suc, ◌≡◌, ◌-◌, ◌*◌, ◌^◌, ◌≤◌, length, arith, refl, ap₂, ◌∙◌, whole, ◌<ℚ◌, Fraction, low_at, high_at, low_le_high, one_fits, total_pos, num_below}
use Rattle.dl_panjer.proofs.Reading.{low_at_most, high_at_most}
use Rattle.dl_panjer.proofs.Shapes.{shape_rises, shape_fits, shape_order}
use Rattle.dl_panjer.proofs.shape.next_of_shape.Goals as goal

below_one : (t : Fraction) → t <ℚ whole 1 → t.num ≤ t.den
below_one t h = omega (arith, num_below t h)

-- the parts by which a sum is divided
parts_are : (t : Fraction) (d n : ℕ) → d ≡ t.den → 1 ≤ n → d * n ≡ t.den * suc (n - 1)
parts_are t d n is some =
    let e : n ≡ suc (n - 1) = omega (arith, some) in
    ap₂ (λ a b. a * b) is e

pub ends_of-lo-requires-clause-ordered : goal.ends_of-lo-requires-clause-ordered
ends_of-lo-requires-clause-ordered g c =
    let cells = c.args.cells.now in
    rw (c.sums_of_shape-sums.ensures.low, c.sums_of_shape-sums.ensures.high)
    (shape_rises c.args.items.now c.args.total c.args.t (low_at cells) (high_at cells) (length cells - 1)
    (total_pos c.args.items.now c.args.total c.requires.weighted) (low_le_high cells))

pub ends_of-lo-requires-clause-fits : goal.ends_of-lo-requires-clause-fits
ends_of-lo-requires-clause-fits g c =
    let cells = c.args.cells.now in
    rw (
      c.sums_of_shape-sums.ensures.high,
      parts_are c.args.t c.from.result (length cells)
          (c.from.ensures ∙ c.den.ensures.part) c.requires.cells.size.some,
    )
    (shape_fits c.args.items.now c.args.total (2 ^ g.row.B) c.args.t (length cells - 1)
    (total_pos c.args.items.now c.args.total c.requires.weighted) c.requires.weighted.sum
    (below_one c.args.t c.requires.below) (high_at cells) (high_at_most cells c.requires.cells.small) c.from-2.result
    (one_fits g.row.B c.requires.cells.size.scale_below) (omega (arith, c.from-2.ensures)))

pub returns : goal.returns
returns g c =
    let cells = c.args.cells.now in
    let e = parts_are c.args.t c.from.result (length cells) (c.from.ensures ∙ c.den.ensures.part) c.requires.cells.size.some in
    record {
      low = rw (c.ends_of-lo.ensures.low, c.sums_of_shape-sums.ensures.low, e, c.from-2.ensures, c.from-3.ensures) refl;
      high = rw (c.ends_of-lo.ensures.high, c.sums_of_shape-sums.ensures.high, e, c.from-2.ensures, c.from-3.ensures)
          refl;
    }

pub invariant_of-result-clause-ordered : goal.invariant_of-result-clause-ordered
invariant_of-result-clause-ordered g c =
    let cells = c.args.cells.now in
    let e = parts_are c.args.t c.from.result (length cells) (c.from.ensures ∙ c.den.ensures.part) c.requires.cells.size.some in
    rw (
      c.ends_of-lo.ensures.low,
      c.ends_of-lo.ensures.high,
      c.sums_of_shape-sums.ensures.low,
      c.sums_of_shape-sums.ensures.high,
      e,
      c.from-2.ensures,
      c.from-3.ensures,
    ) (shape_order c.args.items.now c.args.total (2 ^ g.row.B) c.args.t (length cells - 1)
    (total_pos c.args.items.now c.args.total c.requires.weighted) c.requires.weighted.sum
    (below_one c.args.t c.requires.below) c.args.rate (low_at cells) (high_at cells) (low_le_high cells)
    (low_at_most cells c.requires.cells.small))

pub invariant_of-result-clause-in_range : goal.invariant_of-result-clause-in_range
invariant_of-result-clause-in_range g c =
    omega (arith, c.ends_of-lo.ensures.high, one_fits g.row.B c.requires.cells.size.scale_below)
