-- A portfolio under a common factor as one loss: what it declares is bounded, above 0 somewhere, and adds up to 1.
use Rattle.dl_model.proofs.Common.{◌≡◌, ℕ, ◌*◌, ◌<◌, arith, refl, sym, ap, subst, subst₂, ◌∙◌, List, [], ◌∷◌, fun_ext, Fraction, whole, ◌+ℚ◌, ◌*ℚ◌, ◌<ℚ◌, le_trans, sum_to, sum_to_same, IsBound, AtLeast, Holds, Rises, Loss, One, Cdf, Mean, score, sum_over_outcomes, partial_sums, loss, IsDeclared, IsDeclaredLoss, Quantity, IsAsked, AreDeclared, PoissonUnit, expected_claims, common_sums, pooled_severity, pooled_unit, AreSeverities, CountsTotal, total, order}
use Rattle.dl_model.proofs.CountBounds.{gamma_of_count}
use Rattle.dl_model.proofs.CountMeans.{gamma_mean}
use Rattle.dl_model.proofs.Means.{mean_of_unit}
use Rattle.dl_model.proofs.TotalLaws.{unit_plain, outcomes_rise, cdf_grows}
use Rattle.dl_model.proofs.UnitLosses.{unit_declared_loss}
use Rattle.dl_model.proofs.Bounded.{are_units, quantity_bounded, whole_positive, adds_up, IsDistribution}
use Rattle.dl_model.proofs.Pooled.{pooled, pooled_is_severity, total_cdf, total_mean}
use Rattle.dl_model.proofs.SharedBounds.{asked_within}

module _ (r : Fraction) (above : whole 0 <ℚ r) (us : List PoissonUnit) (some : whole 0 <ℚ expected_claims us) (h : AreSeverities us) (M : ℕ)
    (past : (a : ℕ) → M < a → pooled_severity us a ≡ whole 0) where
  unit_declared : IsDeclared (pooled_unit r us M)
  unit_declared = record {
    unit = record { severity = pooled_is_severity us h some M past; clause = λ s. omega arith };
    count = gamma_of_count r (expected_claims us) above;
  }

  abbrev one_loss : List Loss
  one_loss = loss (pooled_unit r us M) ∷ []

  pub one_declared : IsDeclaredLoss (loss (pooled_unit r us M))
  one_declared = unit_declared_loss (pooled_unit r us M) unit_declared

  all_declared : AreDeclared one_loss
  all_declared = (one_declared, tt)

  pub as_one_loss : (quantity : Quantity) → CountsTotal quantity → (N : ℕ)
      → common_sums r us quantity N ≡ partial_sums one_loss quantity N
  unfolding sum_over_outcomes
  as_one_loss quantity total N = pooled r us some h M past quantity total N
      ∙ sum_to_same (N * M) _ _ (λ x c. ap (λ t. t *ℚ score quantity (x ∷ []))
      (sym (unit_plain (pooled_unit r us M) unit_declared.unit (λ s. refl) x N)))

  same : (quantity : Quantity) → CountsTotal quantity → partial_sums one_loss quantity ≡ common_sums r us quantity
  same quantity total = fun_ext (λ N. sym (as_one_loss quantity total N))

  total_bounded : (quantity : Quantity) → CountsTotal quantity → IsAsked quantity
      → (u : Fraction) × IsBound (common_sums r us quantity) u
  total_bounded quantity total asked =
      let b = quantity_bounded one_loss quantity all_declared asked in
      (b.0, subst (λ Q. IsBound Q b.0) (same quantity total) b.1)

  pub common_bounded : (quantity : Quantity) → IsAsked quantity
      → (u : Fraction) × IsBound (common_sums r us quantity) u
  common_bounded quantity asked =
      let k = asked_within r us quantity asked in
      let ones = total_bounded One (λ ys. refl) tt in
      let means = total_bounded Mean total_mean tt in (
        k.0 *ℚ (ones.0 +ℚ means.0),
        λ N. le_trans _ _ _ (k.1 N) (grw (order, ones.1 N, means.1 N)),
      )

  pub common_positive : (N : ℕ) × (whole 0 <ℚ common_sums r us One N)
  common_positive =
      let a = whole_positive one_loss all_declared in
      (a.0, subst (λ Q. whole 0 <ℚ Q a.0) (same One (λ ys. refl)) a.1)

  pub common_whole : (p s : Fraction) → p +ℚ s ≡ whole 1 → whole 0 <ℚ s
      → (x : ℕ) × AtLeast (common_sums r us (Cdf x)) (common_sums r us One) p
  common_whole p s one pos =
      let a = adds_up one_loss p s all_declared one pos in
      (a.0, subst₂ (λ Q R. AtLeast Q R p) (same (Cdf a.0) (total_cdf a.0)) (same One (λ ys. refl)) a.1)

  pub common_rises : Rises (common_sums r us One)
  common_rises =
      subst Rises (same One (λ ys. refl)) (outcomes_rise one_loss (are_units one_loss all_declared) (score One))

  pub common_distribution : IsDistribution (common_sums r us)
  common_distribution = record {
    bounded = common_bounded;
    positive = common_positive;
    adds_up = common_whole;
    grows = λ x y N le. rw (as_one_loss (Cdf x) (total_cdf x) N, as_one_loss (Cdf y) (total_cdf y) N)
        (cdf_grows one_loss x y N le);
    rises = common_rises;
  }

  -- the mean is that of the count times that of one claim
  pub common_mean : Holds (common_sums r us Mean) (common_sums r us One)
      (sum_to M (λ j. whole j *ℚ pooled_severity us j) *ℚ expected_claims us)
      (sum_to M (λ j. whole j *ℚ pooled_severity us j) *ℚ expected_claims us)
  common_mean =
      let E = sum_to M (λ j. whole j *ℚ pooled_severity us j) *ℚ expected_claims us in
      subst₂ (λ Q R. Holds Q R E E) (same Mean total_mean) (same One (λ ys. refl))
      (mean_of_unit (pooled_unit r us M) unit_declared.unit (λ s. refl) (expected_claims us) (expected_claims us)
      (gamma_mean r (expected_claims us) above))
