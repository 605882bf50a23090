-- The loss of a unit that can be declared: its mean, by what the clause makes of each sum, and that it can be declared.
use Rattle.dl_model.proofs.Common.{◌≡◌, ℕ, ◌*◌, nat_eq, arith, sym, ◌∙◌, Fraction, ◌*ℚ◌, ◌≤ℚ◌, whole, sum_to, le_trans, le_of_eq, whole_le, sum_to_same, sum_to_times, sum_to_swap, sum_to_le, cell, Aggregate, IsDeclarable, IsDeclared, IsDeclaredLoss, loss, where_true, level_mean, order, le_refl_n}
use Rattle.dl_model.proofs.TotalLaws.{passed, times_where, unit_loss}
use Rattle.dl_model.proofs.Means.{cells_mean}

module _ (u : Aggregate) (h : IsDeclarable u) where
  pub clause_mean : (N : ℕ) → level_mean (loss u) N ≡ sum_to (N * u.most)
      (λ s. whole (u.clause s) *ℚ cell u.count u.severity s N)
  clause_mean N =
      let c : ℕ → Fraction = λ s. cell u.count u.severity s N in
      let M = N * u.most in
      sum_to_same M _ _ (λ y b. sym (sum_to_times M (whole y) (λ s. where_true (nat_eq (u.clause s) y) (c s)))
      ∙ sum_to_same M _ _ (λ s e. times_where (nat_eq (u.clause s) y) (whole y) (c s)))
      ∙ sum_to_swap M M (λ y s. where_true (nat_eq (u.clause s) y) (whole y *ℚ c s))
      ∙ sum_to_same M _ _ (λ s b. passed M (u.clause s) (λ y. whole y *ℚ c s) (omega (arith, h.clause s)))

  pub unit_mean_le : (N : ℕ) → level_mean (loss u) N ≤ℚ sum_to u.most
      (λ j. whole j *ℚ u.severity j) *ℚ sum_to N (λ n. whole n *ℚ u.count n)
  unit_mean_le N = rw (clause_mean N) (le_trans _ _ _ (sum_to_le (N * u.most) _
      (λ s. whole s *ℚ cell u.count u.severity s N) (λ s b. grw (order, whole_le (u.clause s) s (h.clause s))))
      (le_of_eq _ _ (cells_mean u.severity u.most h.severity u.count N (N * u.most) (le_refl_n _))))

pub unit_declared_loss : (u : Aggregate) → IsDeclared u → IsDeclaredLoss (loss u)
unit_declared_loss u h = record {
  loss = unit_loss u h.unit;
  bound = h.count.bound;
  bounded = h.count.bounded;
  level = h.count.level;
  positive = h.count.positive;
  settles = h.count.settles;
  mean_bound = sum_to u.most (λ j. whole j *ℚ u.severity j) *ℚ h.count.mean_bound;
  mean_bounded = λ N. le_trans _ _ _ (unit_mean_le u h.unit N) (grw (order, h.count.mean_bounded N));
}
