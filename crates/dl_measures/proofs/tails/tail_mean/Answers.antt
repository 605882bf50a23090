use Rattle.dl_measures.proofs.Common.{◌≡◌, ℕ, ◌+◌, ◌-◌, ◌*◌, ◌/◌, ◌^◌, ◌<◌, ◌≤◌, List, None, length, arith, ap, ap₂, refl, subst, div_ceil, pow_pos, ◌over◌, ◌-ℚ◌, lt_not_le, cells_fit, low_at, high_at, spread, low_cdf, IsTight, are_units, IsFirstFound, AtLeast, Loss, One, Cdf, Layer, partial_sums, total, GridEncloses, AreDeclared, Tail}
use Rattle.dl_measures.proofs.TailLaws.{in_order, near_level, short_of, tail_low, tail_high, tail_narrow, tail_most_units, slack_fits, quotient_fits, rest_above}
use Rattle.dl_measures.proofs.tails.tail_mean.Goals as goal

pub overflow_sub-hi : goal.overflow_sub-hi
overflow_sub-hi g c =
    in_order c.args.g.now c.args.p c.quantile-bracket.result.lo c.in_ok-hi.hi c.cells.ensures.grid
    c.quantile-bracket.ensures.lo
    (subst (IsFirstFound (low_cdf (2 ^ g.row.B) (low_at c.args.g.now)) c.args.p (length c.args.g.now)) c.in_ok-hi.was
    c.quantile-bracket.ensures.hi)

pub overflow_mul-slack : goal.overflow_mul-slack
overflow_mul-slack g c =
    let found = subst (IsFirstFound (low_cdf (2 ^ g.row.B) (low_at c.args.g.now)) c.args.p (length c.args.g.now))
    c.in_ok-hi.was c.quantile-bracket.ensures.hi in
    let inside : c.from.result ≤ length c.args.g.now = omega arith in
    omega (
      arith,
      slack_fits c.args.g.now c.from.result c.cells.ensures.grid inside,
      ap (λ t. c.from.result * t) c.spread.ensures,
    )

pub add-requires : goal.add-requires
add-requires g c =
    let start = ap₂ (λ s t. s * t) c.from-2.ensures c.units_of_one.ensures in
    let cells = cells_fit c.args.g.now c.quantile-bracket.result.lo c.cells.ensures.grid
    c.quantile-bracket.ensures.lo.within in
    let rest = quotient_fits c.layer_mean-excess.result.hi c.args.p.den (c.args.p.den - c.args.p.num)
    (rest_above c.args.p c.requires.below_one) (omega arith) c.requires.small in
    (omega arith, omega arith)

pub overflow_mul-from : goal.overflow_mul-from
overflow_mul-from g c =
    let start = ap₂ (λ s t. s * t) c.from-2.ensures c.units_of_one.ensures in
    omega (
      arith,
      start,
      cells_fit c.args.g.now c.quantile-bracket.result.lo c.cells.ensures.grid
          c.quantile-bracket.ensures.lo.within,
    )

pub point-start-requires : goal.point-start-requires
point-start-requires g c =
    let start = ap₂ (λ s t. s * t) c.from-2.ensures c.units_of_one.ensures in
    let cells = cells_fit c.args.g.now c.quantile-bracket.result.lo c.cells.ensures.grid
    c.quantile-bracket.ensures.lo.within in
    (omega arith, (omega arith, (omega arith, omega (arith, start, cells))))

pub over_the_rest-requires : goal.over_the_rest-requires
over_the_rest-requires g c = (omega arith, (c.requires.below_one, (c.requires.small, omega arith)))

pub returns-in_err-hi-clause-none : goal.returns-in_err-hi-clause-none
returns-in_err-hi-clause-none g c = rw c.from_residual.ensures (
  λ _. subst (IsFirstFound (low_cdf (2 ^ g.row.B) (low_at c.args.g.now)) c.args.p (length c.args.g.now)) c.in_err-hi.was
      c.quantile-bracket.ensures.hi,
  λ _. refl,
)

pub returns : goal.returns
returns g c =
    let found = subst (IsFirstFound (low_cdf (2 ^ g.row.B) (low_at c.args.g.now)) c.args.p (length c.args.g.now))
    c.in_ok-hi.was c.quantile-bracket.ensures.hi in
    let low : c.add.result.lo ≡ c.quantile-bracket.result.lo * 2 ^ g.row.B
    + (c.layer_mean-excess.result.lo - (c.in_ok-hi.hi - c.quantile-bracket.result.lo) * spread c.args.g.now) *
    c.args.p.den / (c.args.p.den - c.args.p.num) = cc in
    let high : c.add.result.hi ≡ c.quantile-bracket.result.lo * 2 ^ g.row.B + div_ceil
    (c.layer_mean-excess.result.hi * c.args.p.den) (c.args.p.den - c.args.p.num) = cc in
    let near : (us : List Loss) → AreDeclared us → GridEncloses c.args.g.now (total us) → (x : ℕ)
    → c.quantile-bracket.result.lo ≤ x → x < c.in_ok-hi.hi
    → AtLeast (partial_sums us (Cdf x)) (partial_sums us One)
    (c.args.p -ℚ spread c.args.g.now over 2 ^ g.row.B) =
    λ us d e. near_level us (length c.args.g.now) c.quantile-bracket.result.lo c.in_ok-hi.hi c.args.p _
    (omega arith)
    (subst (λ t. IsTight (partial_sums us) (length c.args.g.now) c.quantile-bracket.result.lo t
    c.args.p (spread c.args.g.now over 2 ^ g.row.B)) c.in_ok-hi.was
    (c.quantile-bracket.ensures.tight us (are_units us d) e)) in
    let least : (us : List Loss) → AreDeclared us → GridEncloses c.args.g.now (total us)
    → AtLeast (partial_sums us (Layer None c.quantile-bracket.result.lo)) (partial_sums us One)
    (c.layer_mean-excess.result.lo over 2 ^ g.row.B) → (q : ℕ)
    → AtLeast (partial_sums us (Tail c.args.p q)) (partial_sums us One) (c.add.result.lo over 2 ^ g.row.B) =
    λ us d e excess. tail_low us c.args.p (2 ^ g.row.B) c.quantile-bracket.result.lo c.in_ok-hi.hi
    (spread c.args.g.now) (pow_pos g.row.B) d c.requires.below_one (near us d e)
    (in_order c.args.g.now c.args.p c.quantile-bracket.result.lo c.in_ok-hi.hi c.cells.ensures.grid
    c.quantile-bracket.ensures.lo found)
    (short_of us (2 ^ g.row.B) (length c.args.g.now) (low_at c.args.g.now) (high_at c.args.g.now) c.args.p
    c.quantile-bracket.result.lo d (pow_pos g.row.B) e c.quantile-bracket.ensures.lo)
    ((c.quantile-bracket.ensures.holds us (are_units us d) e).reached c.in_ok-hi.hi c.in_ok-hi.was)
    c.layer_mean-excess.result.lo c.add.result.lo excess low in
    record {
      none = (
        λ e. absurd (cc),
        λ first. absurd (lt_not_le _ _ (first.before c.in_ok-hi.hi found.0)
            (found.1.reached found.0)),
      );
      holds = λ us q d e mean is.
          let around = c.quantile-bracket.ensures.quantile us q d e is in
          let excess = c.layer_mean-excess.ensures.holds us d e (λ _. mean) in (
            least us d e excess.0 q,
            tail_high us c.args.p (2 ^ g.row.B) c.quantile-bracket.result.lo c.in_ok-hi.hi (spread c.args.g.now)
                (pow_pos g.row.B) d c.requires.below_one (near us d e) q c.layer_mean-excess.result.lo
                c.layer_mean-excess.result.hi c.add.result.hi is around.0 (around.1 c.in_ok-hi.hi c.in_ok-hi.was)
                excess high,
          );
      least = λ us q d e mean. least us d e (c.layer_mean-excess.ensures.holds us d e (λ _. mean)).0 q;
      width = tail_narrow c.args.p (2 ^ g.row.B) c.quantile-bracket.result.lo c.in_ok-hi.hi (length c.args.g.now)
          (spread c.args.g.now) (c.args.mean.hi - c.args.mean.lo)
          c.layer_mean-excess.result.lo c.layer_mean-excess.result.hi c.add.result.lo c.add.result.hi
          c.requires.below_one c.quantile-bracket.ensures.lo.within (omega arith)
          c.layer_mean-excess.ensures.width low high;
      most = tail_most_units c.args.p (2 ^ g.row.B) c.quantile-bracket.result.lo
          (length c.args.g.now) c.args.mean.hi c.layer_mean-excess.result.hi c.add.result.hi c.requires.below_one
          c.quantile-bracket.ensures.lo.within c.layer_mean-excess.ensures.most high;
    }
