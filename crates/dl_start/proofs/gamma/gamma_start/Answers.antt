use Rattle.dl_start.proofs.Common.{◌≡◌, ◌*◌, ◌/◌, ◌<◌, ◌≤◌, ℕ, arith, subst, inl, inr, mul-le-mul, one_pos, Fraction, whole, ◌over◌, ◌+ℚ◌, ◌/ℚ◌, ◌≤ℚ◌, over_self, over_lt, le_over, gamma, power, ◌%◌, mod-lt, div-le_of_le-mul, le-div, over_num_le, over_den_le, below_one, most_shape, HoldsNoClaim}
use Rattle.dl_start.proofs.Shares.{ratio_is, shape_whole, shape_together}
use Rattle.dl_start.proofs.gamma.gamma_start.Goals as goal

module _ (r : Fraction) (n d : ℕ) (n_is : n ≡ r.num) (d_is : d ≡ r.den) where
  few_times : r ≤ℚ whole most_shape → n / d ≤ most_shape
  few_times h = rw (n_is, d_is) (div-le_of_le-mul r.den
      (omega (arith, le_over r.num r.den most_shape 1 r.positive one_pos (rw (over_self r) h))))

  few_bits : (e : ℕ) → r ≤ℚ whole most_shape → e ≡ 63 → n / d * e ≤ 630000
  few_bits e h is =
      omega (arith, mul-le-mul {n₁ = n / d} {m₁ = e} {n₂ = 10000} {m₂ = 63} (few_times h) (omega (arith, is)))

  some_times : d ≤ n → 0 < r.num / r.den
  some_times h = le-div 1 r.num r.den r.positive (omega (arith, n_is, d_is, h))

pub shape_start-requires : goal.shape_start-requires
shape_start-requires c = record {
  below = below_one c.args.shape (omega (arith, c.num-num.ensures.part, c.den-den.ensures.part, c.if-num-den.true));
}

pub overflow_cast-num : goal.overflow_cast-num
overflow_cast-num c = record {
  fits = omega (arith, few_times c.args.shape _ _ c.num-num.ensures.part c.den-den.ensures.part c.requires.few);
}

pub power_of-power-requires-clause-room : goal.power_of-power-requires-clause-room
power_of-power-requires-clause-room c = omega (
  arith,
  few_bits c.args.shape _ _ c.num-num.ensures.part c.den-den.ensures.part _ c.requires.few
      c.geometric_start.ensures.exponent,
)

pub returns-then-num-den-eq0 : goal.returns-then-num-den-eq0
returns-then-num-den-eq0 c =
    let shape = c.args.shape in
    let num = c.num-num.ensures.part in
    let den = c.den-den.ensures.part in
    let x = c.args.beta /ℚ (whole 1 +ℚ c.args.beta) in
    let one : HoldsNoClaim (gamma (whole 1) x) c.geometric_start.result =
    rw (c.num.ensures.part, c.den.ensures.part, ratio_is c.args.beta) at c.geometric_start.ensures.holds in
    let same = shape_whole shape x (some_times shape _ _ num den c.if-num-den.false)
    (rw (num, den) at c.if-num-den-eq0.true) in
    record {
      holds = subst (λ w. HoldsNoClaim w c.power_of-power.result) same
          (rw (num, den) at (c.power_of-power.ensures.holds (gamma (whole 1) x) one));
    }

pub returns-in_default : goal.returns-in_default
returns-in_default c =
    let n = c.from.result in
    let d = c.den-den.result in
    let p : 0 < d = c.den-den.ensures.positive in
    let below : n < d = omega (arith, c.from.ensures, mod-lt c.num-num.result p) in
    absurd (elim (rw c.from-2.ensures at c.in_default.ensures) [
      | inl h ↦ omega (arith, h, over_num_le n d p, below, c.den-den.ensures.fits)
      | inr h ↦ omega (arith, h, over_den_le n d p, c.den-den.ensures.fits)
    ])

pub shape_start-requires-2 : goal.shape_start-requires-2
shape_start-requires-2 c =
    let p : 0 < c.den-den.result = c.den-den.ensures.positive in
    let below : c.from.result < c.den-den.result = omega (arith, c.from.ensures, mod-lt c.num-num.result p) in
    record { below = rw (c.in-Ok.ensures.0, c.from-2.ensures) (over_lt _ _ 1 1 p one_pos (omega (arith, below))) }

pub times-requires : goal.times-requires
times-requires c =
    let bits = few_bits c.args.shape _ _ c.num-num.ensures.part c.den-den.ensures.part _ c.requires.few
    c.geometric_start.ensures.exponent in
    record { room = omega (arith, c.power_of-power.ensures.room, c.shape_start-2.ensures.room, bits) }

pub returns : goal.returns
returns c =
    let shape = c.args.shape in
    let num = c.num-num.ensures.part in
    let den = c.den-den.ensures.part in
    let x = c.args.beta /ℚ (whole 1 +ℚ c.args.beta) in
    let one : HoldsNoClaim (gamma (whole 1) x) c.geometric_start.result =
    rw (c.num.ensures.part, c.den.ensures.part, ratio_is c.args.beta) at c.geometric_start.ensures.holds in
    let whole_part : HoldsNoClaim (power (gamma (whole 1) x) (shape.num / shape.den)) c.power_of-power.result =
    rw (num, den) at (c.power_of-power.ensures.holds (gamma (whole 1) x) one) in
    let rest : HoldsNoClaim (gamma ((shape.num % shape.den) over shape.den) x) c.shape_start-2.result =
    rw (c.in-Ok.ensures.0, c.from.ensures, c.from-2.ensures, num, den) at c.shape_start-2.ensures.holds in
    record {
      holds = subst (λ w. HoldsNoClaim w c.times.result)
          (shape_together shape x (some_times shape _ _ num den c.if-num-den.false))
          (c.times.ensures.holds _ _ whole_part rest);
    }
