-- What a unit has where the total is x is at most x, so its joint mean is at most x times the probability of x.
use Rattle.dl_shares.proofs.Common.{ℕ, ◌*◌, ◌<◌, ◌≤◌, le_of_mul-le-mul_right, Series, sym, ap, subst, ◌∙◌, List, length, whole, ◌over◌, ◌*ℚ◌, ◌≤ℚ◌, le_refl, times_assoc, times_le_both, over_times, AtMost, AtLeast, Loss, One, Point, Joint, sum_over_outcomes, partial_sums, le_over, Quantity, ends_in_order, IsDistribution}
use Rattle.dl_exact.proofs.Laws.{le_trans}
use Rattle.dl_model.proofs.Weighings.{losses_weighing, joint_le_point as weighed_joint}

pub joint_le_point : (us : List Loss) (i x N : ℕ)
    → partial_sums us (Joint i x) N ≤ℚ whole x *ℚ partial_sums us (Point x) N
joint_le_point us = weighed_joint (length us) (sum_over_outcomes us) (losses_weighing us)

-- ---- of whatever declares such joint means

module _ (D : Quantity → Series) (within : (i x N : ℕ) → D (Joint i x) N ≤ℚ whole x *ℚ D (Point x) N) where
  pub joint_most : (i x h S : ℕ) → 0 < S → AtMost (D (Point x)) (D One) (h over S)
      → AtMost (D (Joint i x)) (D One) ((x * h) over S)
  joint_most i x h S s at N u bound =
      le_trans _ _ _ (within i x N)
      (subst (λ t. whole x *ℚ D (Point x) N ≤ℚ t)
      (sym (times_assoc (whole x) (h over S) u) ∙ ap (λ t. t *ℚ u) (over_times x h S s))
      (times_le_both _ _ _ _ (le_refl (whole x)) (at N u bound)))

  -- a low end of the joint mean is at most x times a high end of the probability
  pub low_share : IsDistribution D → (i x l h S : ℕ) → 0 < S → AtLeast (D (Joint i x)) (D One) (l over S)
      → AtMost (D (Point x)) (D One) (h over S) → l ≤ x * h
  low_share d i x l h S s low at =
      let bound = d.bounded One tt in
      let order = ends_in_order (D One) d.rises bound.0 d.positive.0 bound.1 d.positive.1 (D (Joint i x)) (l over S)
      ((x * h) over S) low (joint_most i x h S s at) in
      le_of_mul-le-mul_right {k = S} (le_over l S (x * h) S s s order) s
