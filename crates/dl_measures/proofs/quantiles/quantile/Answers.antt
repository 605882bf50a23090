use Rattle.dl_measures.proofs.Common.{◌≡◌, ◌*◌, ◌^◌, ◌<◌, arith, length, subst, ◌∙◌, Some, None, low_at, low_cdf, scale_of, IsFirstAtLeast}
use Rattle.dl_measures.proofs.Reached.{found_high, found_low, is_bracket, is_tight, is_around, goal_fits}
use Rattle.dl_measures.proofs.quantiles.quantile.Goals as goal

pub units_of_one-requires : goal.units_of_one-requires
units_of_one-requires g c = (scale_of c.args.g.now c.cells-cells.ensures.grid.some).1

pub overflow_mul-goal : goal.overflow_mul-goal
overflow_mul-goal g c =
    omega (
      arith,
      goal_fits c.args.p g.row.B c.from.result c.units_of_one.result
          (scale_of c.args.g.now c.cells-cells.ensures.grid.some).1
          c.requires.below_one c.requires.small (c.from.ensures ∙ c.num.ensures.part) c.units_of_one.ensures,
    )

pub returns-then-hi-cells : goal.returns-then-hi-cells
returns-then-hi-cells g c =
    let den : c.from-den.result ≡ c.args.p.den = c.from-den.ensures ∙ c.den.ensures.part in
    let parts : c.from.result * c.units_of_one.result ≡ c.args.p.num * 2 ^ g.row.B = cc in
    let first = c.first_reaching-lo.ensures in
    let last = c.first_reaching-hi.ensures in
    let inside : c.first_reaching-hi.result < length c.args.g.now = omega arith in
    let lo = found_high c.args.g.now c.args.p den parts c.first_reaching-lo.result first.within first.before first.reached
    c.highs.ensures.sums c.requires.below_one in
    let hi = found_low c.args.g.now c.args.p den parts c.first_reaching-hi.result last.within last.before last.reached c.lows.ensures.sums in
    record {
      lo = lo;
      hi = (inside, hi);
      holds = is_bracket c.args.g.now c.args.p c.first_reaching-lo.result (Some c.first_reaching-hi.result) lo
          (inside, hi);
      tight = is_tight c.args.g.now c.args.p c.first_reaching-lo.result (Some c.first_reaching-hi.result) lo
          (inside, hi);
      quantile = is_around c.args.g.now c.args.p c.first_reaching-lo.result (Some c.first_reaching-hi.result) lo
          (inside, hi);
    }

pub returns : goal.returns
returns g c =
    let den : c.from-den.result ≡ c.args.p.den = c.from-den.ensures ∙ c.den.ensures.part in
    let parts : c.from.result * c.units_of_one.result ≡ c.args.p.num * 2 ^ g.row.B = cc in
    let first = c.first_reaching-lo.ensures in
    let last = c.first_reaching-hi.ensures in
    let all : c.first_reaching-hi.result ≡ length c.args.g.now = omega (arith, last.within, c.lows.ensures.sums.long) in
    let lo = found_high c.args.g.now c.args.p den parts c.first_reaching-lo.result first.within first.before first.reached
    c.highs.ensures.sums c.requires.below_one in
    let hi = subst
    (λ x. IsFirstAtLeast (low_cdf (2 ^ g.row.B) (low_at c.args.g.now)) c.args.p (length c.args.g.now) x) all
    (found_low c.args.g.now c.args.p den parts c.first_reaching-hi.result last.within last.before last.reached c.lows.ensures.sums) in
    record {
      lo = lo;
      hi = hi;
      holds = is_bracket c.args.g.now c.args.p c.first_reaching-lo.result None lo hi;
      tight = is_tight c.args.g.now c.args.p c.first_reaching-lo.result None lo hi;
      quantile = is_around c.args.g.now c.args.p c.first_reaching-lo.result None lo hi;
    }
