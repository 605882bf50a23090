use Rattle.dl_iv.proofs.Common.{◌≡◌, ℕ, ◌+◌, ◌-◌, ◌*◌, ◌/◌, ◌%◌, ◌^◌, ◌<◌, ◌≤◌, arith, refl, sym, ap, ◌∙◌, le-mul_of_pos_right, le_trans, div_ceil, pow_pos, mul-le}
use Rattle.std.proofs.Common.{mod-lt}
use Rattle.std.proofs.Math.Nat.{le_refl}
use Rattle.dl_iv.proofs.Rounding.{power_le, scale_of_halves, floor_by_steps, ceiling_by_steps, floor_le_ceiling}
use Rattle.dl_iv.proofs.Operations.{enclose_low, enclose_high}
use Rattle.dl_iv.proofs.interval.Iv.enclose.Goals as goal

module _ (b n d f s : ℕ) (pos : 0 < d) (first : f ≡ 2 ^ (b / 2)) (second : s ≡ 2 ^ (b - b / 2)) where
  -- the ends that the code makes are the floor and the ceiling of the whole product
  low_end : (n / d * f + n % d * f / d) * s + n % d * f % d * s / d ≡ 2 ^ b * n / d
  low_end = sym (floor_by_steps n d f s pos) ∙ ap (λ t. t * n / d) (scale_of_halves b f s first second)

  high_end : {r : ℕ} → r ≡ div_ceil (n % d * f % d * s) d
      → (n / d * f + n % d * f / d) * s + r ≡ div_ceil (2 ^ b * n) d
  high_end up = ap (λ t. (n / d * f + n % d * f / d) * s + t) up ∙ sym (ceiling_by_steps n d f s pos)
      ∙ ap (λ t. div_ceil (t * n) d) (scale_of_halves b f s first second)

  -- the part that is whole in both ends is within the greatest end, also before its last factor
  above_fits : div_ceil (2 ^ b * n) d ≤ 2 ^ 127 → (n / d * f + n % d * f / d) * s ≤ 2 ^ 127
  above_fits fits = omega (arith, high_end refl)

  before_fits : div_ceil (2 ^ b * n) d ≤ 2 ^ 127 → n / d * f + n % d * f / d ≤ 2 ^ 127
  before_fits fits = le_trans (le-mul_of_pos_right _ (rw second (pow_pos (b - b / 2)))) (above_fits fits)

ends_ordered : (m d : ℕ) {r : ℕ} → 0 < d → r ≡ div_ceil m d → m / d ≤ r
ends_ordered m d h e = rw e (floor_le_ceiling m m d d h (le_refl d) (le_refl m))

-- a rest times the power of a half of the scale
rest_fits : (r d f b : ℕ) → r < d → d < 2 ^ 100 → f ≡ 2 ^ b → b ≤ 28 → r * f < 2 ^ 128
rest_fits r d f b below small e h =
    let product : r * f ≤ (2 ^ 100 - 1) * 2 ^ 28 = mul-le r f (2 ^ 100 - 1) (2 ^ 28) (omega arith) (power_le b f 28 e h) in
    omega arith

pub overflow_mul-rest : goal.overflow_mul-rest
overflow_mul-rest g c = omega (
  arith,
  rest_fits (c.args.num % c.args.den) c.args.den _ (g.row.B / 2)
      (mod-lt _ c.requires.positive) c.requires.den c.units_of_one-first.ensures (omega arith),
)

pub overflow_mul-above-2 : goal.overflow_mul-above-2
overflow_mul-above-2 g c = grind (arith, above_fits)

pub overflow_add-above : goal.overflow_add-above
overflow_add-above g c = grind (arith, before_fits)

pub overflow_mul-above : goal.overflow_mul-above
overflow_mul-above g c = grind (arith, before_fits)

pub overflow_mul-left : goal.overflow_mul-left
overflow_mul-left g c = omega (
  arith,
  rest_fits
      (c.args.num % c.args.den * c.units_of_one-first.result % c.args.den) c.args.den _ (g.row.B - g.row.B / 2)
      (mod-lt _ c.requires.positive) c.requires.den c.units_of_one-second.ensures (omega arith),
)

pub overflow_add-result : goal.overflow_add-result
overflow_add-result g c = omega (
  arith,
  ends_ordered _ _ c.requires.positive c.div_ceil-high.ensures,
  high_end g.row.B c.args.num c.args.den _ _ c.requires.positive c.units_of_one-first.ensures
      c.units_of_one-second.ensures c.div_ceil-high.ensures,
)

pub overflow_add-result-2 : goal.overflow_add-result-2
overflow_add-result-2 g c = omega (
  arith,
  high_end g.row.B c.args.num c.args.den _ _ c.requires.positive c.units_of_one-first.ensures
      c.units_of_one-second.ensures c.div_ceil-high.ensures,
)

pub invariant_of-result-clause-ordered : goal.invariant_of-result-clause-ordered
invariant_of-result-clause-ordered g c = omega (arith, ends_ordered _ _ c.requires.positive c.div_ceil-high.ensures)

pub invariant_of-result-clause-in_range : goal.invariant_of-result-clause-in_range
invariant_of-result-clause-in_range g c =
    rw (high_end g.row.B _ _ _ _ c.requires.positive c.units_of_one-first.ensures c.units_of_one-second.ensures
    c.div_ceil-high.ensures) c.requires.fits

pub returns : goal.returns
returns g c =
    let low = low_end g.row.B _ _ _ _ c.requires.positive c.units_of_one-first.ensures c.units_of_one-second.ensures in
    let high = high_end g.row.B _ _ _ _ c.requires.positive c.units_of_one-first.ensures c.units_of_one-second.ensures
    c.div_ceil-high.ensures in
    record {
      low = low;
      high = high;
      holds = record {
        low = rw low (enclose_low _ (pow_pos g.row.B) _ _ c.requires.positive);
        high = rw high (enclose_high _ (pow_pos g.row.B) _ _ c.requires.positive);
      };
    }
