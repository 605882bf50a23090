-- The ends of the mean after the change, and what ends of enclosed values are at most.
use Rattle.dl_outcomes.proofs.Common.{HoldsMean, HoldsNone, ends_in_order, Iv, pow_pos, ◌^◌, ℕ, ◌≡◌, ◌-◌, ◌*◌, ◌/◌, ◌<◌, ◌≤◌, arith, sym, ap, subst, ◌∙◌, [], ◌∷◌, div_ceil, Fraction, whole, ◌over◌, ◌-ℚ◌, ◌*ℚ◌, ◌/ℚ◌, ◌≤ℚ◌, ◌<ℚ◌, sum_to, one_pos, ring, le_refl, le_of_eq, le_of_lt, le_over, over_lt, over_le_over, scale_low, scale_high, div_low, div_high, AtMost, Holds, Loss, One, Mean, partial_sums, IsDeclaredLoss, level_mean, Aggregate, IsDeclared, loss, changed, at_least_wider, at_most_wider, sum_rises_to, loss_proper, unit_loss, changed_mean_values, div_is_times}
use Rattle.dl_outcomes.proofs.Values.{rest_of, rest_units, rest_positive}
use Rattle.dl_outcomes.proofs.Losses.{changed_is_loss, mean_same, mean_held}

module _ (S lo hi nl nh : ℕ) (p : Fraction) (pos : 0 < S) (order : nl ≤ nh) (below : nh < S) (one : p <ℚ whole 1) where
  -- the part first and the quotient after
  turned : (e n : ℕ) → n < S → e over S *ℚ (p.den - p.num) over p.den /ℚ (whole 1 -ℚ n over S)
      ≡ (whole 1 -ℚ p) *ℚ (e over S /ℚ (whole 1 -ℚ n over S))
  turned e n h =
      let r = whole 1 -ℚ n over S in
      let x = e over S in
      div_is_times (x *ℚ (p.den - p.num) over p.den) r (rest_positive S n h)
      ∙ ap (λ t. whole 1 /ℚ r *ℚ (x *ℚ t)) (rest_of p)
      ∙ turn (whole 1 /ℚ r) x (whole 1 -ℚ p)
      ∙ ap (λ t. (whole 1 -ℚ p) *ℚ t) (sym (div_is_times x r (rest_positive S n h)))
    where
      turn : (a b c : Fraction) → a *ℚ (b *ℚ c) ≡ c *ℚ (a *ℚ b)
      turn a b c = simp ring

  pub changed_mean_holds : (u : Aggregate) → IsDeclared u
      → Holds (partial_sums (loss u ∷ []) Mean) (partial_sums (loss u ∷ []) One) (lo over S) (hi over S)
      → Holds (λ N. u.count 0) (λ N. sum_to N u.count) (nl over S) (nh over S)
      → Holds (partial_sums (changed p u ∷ []) Mean) (partial_sums (changed p u ∷ []) One)
      ((lo * (p.den - p.num) / p.den * S / (S - nl)) over S)
      (div_ceil (div_ceil (hi * (p.den - p.num)) p.den * S) (S - nh) over S)
  changed_mean_holds u d mean none =
      let Q = level_mean (changed p u) in
      let R = (changed p u).family.all in
      let exact = changed_mean_values p u d (lo over S) (hi over S) (nl over S) (nh over S)
      ((mean_held (loss u) (lo over S) (hi over S) (unit_loss u d.unit)).0 mean) none (over_le_over nl nh S pos order)
      (over_lt nh S 1 1 pos one_pos (omega arith)) in
      let low = scale_low S pos lo (p.den - p.num) p.den (lo over S) p.positive (le_refl _) in
      let high = scale_high S pos hi (p.den - p.num) p.den (hi over S) p.positive (le_refl _) in
      (mean_held (changed p u) _ _ (changed_is_loss p u d.unit (le_of_lt _ _ one))).1 (
        at_least_wider Q R _ _ exact.0
            (subst (λ t. (lo * (p.den - p.num) / p.den * S / (S - nl)) over S ≤ℚ t) (turned lo nl (omega arith))
            (div_low S pos (lo * (p.den - p.num) / p.den) (S - nl) _ (whole 1 -ℚ nl over S) (omega arith)
            (rest_positive S nl (omega arith)) low (le_of_eq _ _ (sym (rest_units S nl pos))))),
        at_most_wider Q R _ _ exact.1
            (subst (λ t. t ≤ℚ div_ceil (div_ceil (hi * (p.den - p.num)) p.den * S) (S - nh) over S)
            (turned hi nh below)
            (div_high S pos (div_ceil (hi * (p.den - p.num)) p.den) (S - nh) _ (whole 1 -ℚ nh over S) (omega arith)
            high (le_of_eq _ _ (rest_units S nh pos)))),
      )

pub none_low : (B : ℕ) (u : Aggregate) (none : Iv B) → IsDeclared u → HoldsNone u none
    → AtMost (λ N. u.count 0) (λ N. sum_to N u.count) (16 over 17) → 17 * none.lo ≤ 16 * 2 ^ B
none_low B u none d held most =
    let order = ends_in_order (λ N. sum_to N u.count) (sum_rises_to u.count) d.count.bound d.count.level d.count.bounded
    d.count.positive (λ N. u.count 0) (none.lo over 2 ^ B) (16 over 17) held.0 most in
    omega (arith, le_over none.lo (2 ^ B) 16 17 (pow_pos B) (omega arith) order)

pub mean_low : (B : ℕ) (l : Loss) (m : ℕ) (mean : Iv B) → IsDeclaredLoss l → HoldsMean l mean
    → AtMost (partial_sums (l ∷ []) Mean) (partial_sums (l ∷ []) One) (whole m) → mean.lo ≤ m * 2 ^ B
mean_low B l m mean d held most =
    let order = ends_in_order l.family.all (loss_proper l d.loss).all_rises d.bound d.level d.bounded d.positive (level_mean l)
    (mean.lo over 2 ^ B) (whole m) ((mean_held l _ _ d.loss).0 held).0 (((mean_same l d.loss).1 (whole m)).0 most) in
    omega (arith, le_over mean.lo (2 ^ B) m 1 (pow_pos B) one_pos order)
