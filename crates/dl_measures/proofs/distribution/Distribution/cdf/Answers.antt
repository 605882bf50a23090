use Rattle.dl_measures.proofs.Common.{ℕ, ◌+◌, ◌≤◌, min, arith, ap₂, ◌∙◌, scale_of, one_in_range, low_sum}
use Rattle.dl_measures.proofs.Sums.{high_mass, low_high}
use Rattle.dl_measures.proofs.MarkLaws.{mark_of}
use Rattle.dl_measures.proofs.distribution.Distribution.cdf.Goals as goal

lesser_rises : (x y one : ℕ) → x ≤ y → min x one ≤ min y one
lesser_rises x y one h = omega arith

pub units_of_one-one-requires : goal.units_of_one-one-requires
units_of_one-one-requires g c = (scale_of _ c.lows.ensures.grid.some).1

pub invariant_of-result : goal.invariant_of-result
invariant_of-result g c =
    let low = mark_of c.lows.ensures.sums (c.args.x + 1) c.at-low.ensures in
    let high = mark_of c.highs.ensures.sums (c.args.x + 1) c.at-high.ensures in
    let scale = scale_of _ c.lows.ensures.grid.some in
    record {
      ordered = rw (c.min.ensures, c.min-2.ensures) (lesser_rises _ _ _ (omega (arith, low.sum, high.sum, low_high c.args.self.now (c.args.x + 1))));
      in_range = omega (arith, c.min-2.ensures, c.units_of_one-one.ensures, one_in_range g.row.B scale.1);
      scale_above = scale.0;
      scale_below = scale.1;
    }

pub returns-clause-low : goal.returns-clause-low
returns-clause-low g c =
    c.min.ensures ∙ ap₂ min ((mark_of c.lows.ensures.sums (c.args.x + 1) c.at-low.ensures).sum ∙ low_sum (c.args.x + 1) _)
    c.units_of_one-one.ensures

pub returns-clause-high : goal.returns-clause-high
returns-clause-high g c =
    c.min-2.ensures ∙ ap₂ min ((mark_of c.highs.ensures.sums (c.args.x + 1) c.at-high.ensures).sum ∙ high_mass (c.args.x + 1) _)
    c.units_of_one-one.ensures
