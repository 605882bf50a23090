use Rattle.dl_panjer.proofs.Common.{ℕ, ◌≡◌, ◌*◌, ◌/◌, ◌^◌, ◌≤◌, ◌%◌, arith, refl, mul-le-mul_right, div_ceil, div_ceil_least, pow_pos, one_fits, Fraction, whole, ◌+ℚ◌, ◌*ℚ◌, ◌/ℚ◌, over_le, sum_to, div-mul-le_self, div_ceil_times, one_shl, at_least_wider, at_most_wider, gamma, two_le}
use Rattle.dl_panjer.proofs.Shapes.{cell_near, ratio_of_shape}
use Rattle.dl_panjer.proofs.shape.shape_cell.Goals as goal

-- the quotients, rounded outward
low_is : (a b l S e : ℕ) → a ≡ l → b ≡ S → e ≤ 80 → a * b / (1 * 2 ^ e % 2 ^ 128) ≡ l * S / 2 ^ e
low_is a b l S e p q few = rw (p, q, one_shl e 128 (omega (arith, few))) refl

high_is : (n a b h S e : ℕ) → n ≡ div_ceil (a * b) (1 * 2 ^ e % 2 ^ 128) → a ≡ h → b ≡ S → e ≤ 80 → n ≡ div_ceil (h * S) (2 ^ e)
high_is n a b h S e is p q few = rw (is, p, q, one_shl e 128 (omega (arith, few))) refl

pub returns : goal.returns
returns g c =
    let start = c.shape_start-start in
    let x = start.result in
    let B = g.row.B in
    let S : ℕ = 2 ^ B in
    let E : ℕ = 2 ^ x.exponent in
    let t = c.args.t in
    let beta = c.args.beta in
    let w : ℕ → Fraction = gamma t (t *ℚ beta /ℚ (t +ℚ t *ℚ beta)) in
    let low = low_is c.from.result c.units_of_one.result x.low S x.exponent c.from.ensures c.units_of_one.ensures
    start.ensures.room in
    let high = high_is c.div_ceil.result c.from-2.result c.units_of_one-2.result x.high S x.exponent c.div_ceil.ensures
    c.from-2.ensures c.units_of_one-2.ensures start.ensures.room in
    let holds = rw (← ratio_of_shape t beta c.requires.above) at start.ensures.holds in
    let top : x.high ≤ E =
    omega (arith, x.top, two_le 63 x.exponent x.least) in
    record {
      holds = (
        at_least_wider (λ N. whole 1) (λ N. sum_to N w) _ _ holds.0
            (over_le _ S x.low E (pow_pos B) (pow_pos x.exponent)
            (rw low (omega (arith, div-mul-le_self (x.low * S) E)))),
        at_most_wider (λ N. whole 1) (λ N. sum_to N w) _ _ holds.1
            (over_le x.high E _ S (pow_pos x.exponent) (pow_pos B)
            (rw high (omega (arith, (div_ceil_times (x.high * S) E (pow_pos x.exponent)).0)))),
      );
      near = rw (low, high) (cell_near x.low x.high S E (pow_pos x.exponent) x.order
          (start.ensures.narrow c.requires.few) (one_fits B c.requires.scale_below));
      small = rw high (div_ceil_least (x.high * S) E S (pow_pos x.exponent) (omega (arith, mul-le-mul_right S top)));
    }
