-- The bracket of a quantile in whole numbers: how little lies between its ends, and above the level at them.
use Rattle.dl_shares.proofs.Common.{ℕ, suc, ◌≡◌, ◌+◌, ◌-◌, ◌*◌, ◌/◌, ◌^◌, ◌<◌, ◌≤◌, min, List, take, Some, arith, refl, sym, ap, subst, ◌∙◌, add-one, div_ceil, div_ceil_least, div_ceil_times, mul-le-mul_right, le_of_mul-le-mul_right, pow_pos, Fraction, ◌<ℚ◌, ◌≤ℚ◌, over_self, below_grows, below_more, count_below, Iv, low_at, high_at, mass_low, mass_high, spread, IsGrid, apart, high_mass, low_cdf, high_cdf, le_over, lt_over, floor_le_ceiling, low_high, low_most, IsBracketIn, low_above, high_above}
use Rattle.dl_shares.proofs.ClaimSums.{low_running}
use Rattle.dl_shares.proofs.Widths.{above_narrow}

-- ---- what the distribution has above the level

pub low_is : {B : ℕ} (grid : List (Iv B)) (p : Fraction) (x lo low : ℕ) → IsGrid grid
    → lo ≡ min (mass_low (take (x + 1) grid)) (2 ^ B) → low ≡ lo - div_ceil (2 ^ B * p.num) p.den
    → low ≡ low_above grid p x
low_is {B} grid p x lo low is sum above =
    above ∙ ap (λ t. t - div_ceil (2 ^ B * p.num) p.den) (low_running grid x lo is sum)

pub high_is : {B : ℕ} (grid : List (Iv B)) (p : Fraction) (x hi high : ℕ)
    → hi ≡ min (mass_high (take (x + 1) grid)) (2 ^ B) → high ≡ hi - 2 ^ B * p.num / p.den → high ≡ high_above grid p x
high_is {B} grid p x hi high sum above =
    let same : hi ≡ min (2 ^ B) (count_below (suc x) (high_at grid)) =
    omega (arith, sum, high_mass (x + 1) grid, ap (λ n. count_below n (high_at grid)) (add-one x)) in
    above ∙ ap (λ t. t - 2 ^ B * p.num / p.den) same

pub above_apart : {B : ℕ} (grid : List (Iv B)) (p : Fraction) (x : ℕ)
    → high_above grid p x - low_above grid p x ≤ spread grid + 1
above_apart {B} grid p x = omega (
  arith,
  above_narrow (2 ^ B) p.num p.den (count_below (suc x) (low_at grid))
      (min (2 ^ B) (count_below (suc x) (high_at grid)))
      _ _ p.positive refl refl,
  apart grid (suc x),
)

pub above_order : {B : ℕ} (grid : List (Iv B)) (p : Fraction) (x : ℕ) → IsGrid grid
    → low_above grid p x ≤ high_above grid p x
above_order {B} grid p x is =
    let least : 2 ^ B * p.num / p.den ≤ div_ceil (2 ^ B * p.num) p.den =
    floor_le_ceiling (2 ^ B * p.num) (2 ^ B * p.num) p.den p.den p.positive (omega arith) (omega arith) in
    omega (arith, low_high grid (suc x), low_most grid (suc x) is)

-- ---- the bracket

module _ {B : ℕ} (grid : List (Iv B)) (p : Fraction) (lo hi : ℕ) (bracket : IsBracketIn grid p lo (Some hi)) where
  module _ (less : lo < hi) where
    reached : 2 ^ B * p.num ≤ count_below (suc lo) (high_at grid) * p.den
    reached =
        let there = le_over p.num p.den _ (2 ^ B) p.positive (pow_pos B)
        (subst (λ t. t ≤ℚ high_cdf (2 ^ B) (high_at grid) lo) (sym (over_self p))
        (bracket.first.reached (omega (arith, bracket.found.0)))) in
        omega (
          arith,
          there,
          mul-le-mul_right {m = min (2 ^ B) (count_below (suc lo) (high_at grid))}
              {n = count_below (suc lo) (high_at grid)} p.den (omega arith),
        )

    short : (y : ℕ) → y < hi → count_below (suc y) (low_at grid) * p.den < 2 ^ B * p.num
    short y before =
        let there = lt_over _ (2 ^ B) p.num p.den (pow_pos B) p.positive
        (subst (λ t. low_cdf (2 ^ B) (low_at grid) y <ℚ t) (sym (over_self p)) (bracket.found.1.before y before)) in
        omega (arith, there)

    pub none_above : low_above grid p lo ≡ 0
    none_above =
        let most : count_below (suc lo) (low_at grid) ≤ div_ceil (2 ^ B * p.num) p.den =
        le_of_mul-le-mul_right {k = p.den}
        (omega (arith, short lo less, (div_ceil_times (2 ^ B * p.num) p.den p.positive).0))
        p.positive in
        omega (arith, most)

    pub between_few : count_below hi (high_at grid) - count_below (suc lo) (high_at grid) ≤ spread grid
    between_few =
        let last : suc (hi - 1) ≡ hi = omega arith in
        let few : count_below (suc (hi - 1)) (low_at grid) ≤ count_below (suc lo) (high_at grid) =
        le_of_mul-le-mul_right {k = p.den} (omega (arith, short (hi - 1) (omega arith), reached)) p.positive in
        omega (arith, few, ap (λ n. count_below n (low_at grid)) last, apart grid hi)

    -- nearly all of the last cell lies above the level
    pub last_near : high_at grid hi - low_above grid p hi ≤ spread grid
    last_near = omega (
      arith,
      div_ceil_least (2 ^ B * p.num) p.den _ p.positive reached,
      below_grows (suc lo) hi (high_at grid) (omega arith),
      below_more hi (high_at grid),
      ap (λ n. count_below n (high_at grid)) (add-one hi),
      apart grid (suc hi),
    )
