-- The expected claims of a unit times the mean of one positive claim, from its ends times the weight of the positive
-- amounts: what they hold, how large they are, and how far apart they lie.
use Rattle.dl_shares.proofs.Common.{ℕ, ◌≡◌, ◌+◌, ◌-◌, ◌*◌, ◌/◌, ◌^◌, ◌<◌, ◌≤◌, arith, sym, subst, div_ceil, mul-le-mul, mul-le-mul_left, mul-le-mul_right, pow_pos, Fraction, whole, ◌over◌, ◌-ℚ◌, ◌*ℚ◌, div_ceil_least, Series, Holds, at_least_wider, at_most_wider, UnitOfPlan, expected_count, thinned_mean, severity_total, up, over_zero, zero_le, zero-div}
use Rattle.dl_plan.specs.Prelude.{numerator_over, probability_of}
use Rattle.dl_shares.proofs.ClaimWidths.{claim_width, positive_weight, scaled_width}
use Rattle.dl_shares.proofs.CommonJoint.{positive, thinned_over, some_positive}
use Rattle.dl_shares.proofs.JointValues.{end_below, end_above, end_none}

-- the exact end
abbrev pub exact_end : UnitOfPlan → (S sum : ℕ) → Fraction
exact_end u S sum = expected_count u.freq *ℚ sum over (u.sev.total * S)

-- the weight of the positive amounts, where a claim above 0 is expected
pub claim_weight : (u : UnitOfPlan) (h share : Fraction) (n : ℕ) → h ≡ thinned_mean u → (h.num ≡ 0 → ⊥)
    → share ≡ whole 1 -ℚ probability_of u.sev 0 → n ≡ numerator_over u.sev.total share → (n ≡ positive u) × (0 < n)
claim_weight u h share n is some above made =
    let same : n ≡ positive u = positive_weight u.sev share n above made in
    (same, omega (arith, some_positive u h is some))

-- ---- where no claim above 0 is expected

pub none_down : (sum W n d : ℕ) → n ≡ 0 → 0 ≡ sum / W * n / d
none_down sum W n d e = let nothing : sum / W * n ≡ 0 = rw e (omega arith) in rw nothing (sym (zero-div d))

pub none_up : (sum W n d : ℕ) → n ≡ 0 → 0 < d → 0 ≡ div_ceil (div_ceil sum W * n) d
none_up sum W n d e pos =
    let least = div_ceil_least (div_ceil sum W * n) d 0 pos (rw e (omega arith)) in
    omega (arith, least)

-- ---- how large

pub scaled_fit : (high W n d : ℕ) → 0 < W → high ≤ 2 ^ 71 * W → n < 2 ^ 48 → 0 < d
    → (div_ceil high W ≤ 2 ^ 71) × ((div_ceil high W * n < 2 ^ 128) × (div_ceil (div_ceil high W * n) d ≤ 2 ^ 127))
scaled_fit high W n d some fits below pos =
    let first : div_ceil high W ≤ 2 ^ 71 = div_ceil_least high W (2 ^ 71) some fits in
    let second : n ≤ 2 ^ 48 = omega arith in
    let product : div_ceil high W * n ≤ 2 ^ 71 * 2 ^ 48 = mul-le-mul first second in
    let wide : 2 ^ 119 * 1 ≤ 2 ^ 119 * d = mul-le-mul_left (2 ^ 119) pos in
    let up : div_ceil (div_ceil high W * n) d ≤ 2 ^ 119 = div_ceil_least _ d (2 ^ 119) pos (omega arith) in
    (first, (omega arith, omega (arith, up)))

module _ (B : ℕ) (u : UnitOfPlan) (h : Fraction) (is : h ≡ thinned_mean u) (low high lo hi : ℕ) where
  -- ---- how far apart

  pub ends_apart : (k : ℕ) → (h.num ≡ 0 → ⊥) → lo ≡ low / positive u * h.num / h.den
      → hi ≡ div_ceil (div_ceil high (positive u) * h.num) h.den → high ≤ low + k * positive u
      → hi - lo ≤ (k + 1) * up (thinned_mean u) + 1
  unfolding up
  ends_apart k some l r near =
      let pos : 0 < positive u = omega (arith, some_positive u h is some) in
      let one = claim_width 1 k (positive u) low high pos (omega (arith, near)) in
      let all = scaled_width (low / positive u) (div_ceil high (positive u)) (k + 1) h.num h.den h.positive
      (omega (arith, one)) in
      subst (λ (y : Fraction). hi - lo ≤ (k + 1) * div_ceil y.num y.den + 1) is (omega (arith, all))

  -- ---- what they hold

  module _ (Q R : Series) (exact : Holds Q R (exact_end u (2 ^ B) low) (exact_end u (2 ^ B) high)) where
    pub ends_hold : (h.num ≡ 0 → ⊥) → lo ≡ low / positive u * h.num / h.den
        → hi ≡ div_ceil (div_ceil high (positive u) * h.num) h.den → Holds Q R (lo over 2 ^ B) (hi over 2 ^ B)
    ends_hold some l r =
        let pos : 0 < positive u = omega (arith, some_positive u h is some) in
        let t = severity_total u.sev in
        let told = thinned_over u h is in rw (l, r) (
          at_least_wider Q R _ _ exact.0 (end_below low (positive u) u.sev.total (2 ^ B) (expected_count u.freq) h pos t
              (pow_pos B) told),
          at_most_wider Q R _ _ exact.1 (end_above high (positive u) u.sev.total (2 ^ B) (expected_count u.freq) h pos t
              (pow_pos B) told),
        )

    -- where no claim above 0 is expected
    pub none_hold : high ≤ 2 ^ 71 * positive u → h.num ≡ 0 → lo ≡ 0 → hi ≡ 0
        → Holds Q R (lo over 2 ^ B) (hi over 2 ^ B)
    none_hold fits none l r =
        let most = mul-le-mul_right (2 ^ 71 * positive u) (pow_pos B) in rw (l, r) (
          at_least_wider Q R _ _ exact.0 (rw (over_zero (2 ^ B) (pow_pos B)) (zero_le _)),
          at_most_wider Q R _ _ exact.1 (end_none high (positive u) u.sev.total (2 ^ B) (2 ^ 71) (expected_count u.freq) h
              (severity_total u.sev) (pow_pos B) (omega (arith, most, fits)) (thinned_over u h is) none),
        )
