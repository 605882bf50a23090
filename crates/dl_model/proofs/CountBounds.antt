-- The counts that can be declared: finite counts, trials, Poisson and gamma counts.
use Rattle.dl_model.proofs.Common.{ℕ, zero, ◌*◌, ◌<◌, ◌≤◌, arith, subst, Fraction, ◌+ℚ◌, ◌*ℚ◌, ◌/ℚ◌, ◌<ℚ◌, div_pos, plus_comm, whole, sum_to, one_pos, times_one, whole_pos, le_plus, times_zero, power, IsSeverity, fixed, binomial, poisson, gamma_of, AreCountWeights, le_of_eq, order}
use Rattle.dl_model.proofs.TotalLaws.{bounded_by_all, fixed_sum, power_severity, severity_within_one, fixed_past, binomial_power, trial, poisson_zero, poisson_bound, div_plus, pos_plus, gamma_zero}
use Rattle.dl_model.proofs.AnyShape.{gamma_bound}
use Rattle.dl_model.proofs.Settles.{poisson_settles}
use Rattle.dl_model.proofs.SettlesGamma.{gamma_settles}
use Rattle.dl_model.proofs.CountMeans.{poisson_mean, gamma_mean}

-- ---- finitely many claims

pub finite_count : (w : ℕ → Fraction) (far : ℕ) → IsSeverity w far → AreCountWeights w
finite_count w far h = record {
  bound = whole 1;
  bounded = severity_within_one w far h;
  mean_bound = sum_to far (λ n. whole n *ℚ w n);
  mean_bounded = bounded_by_all far (λ n. whole n *ℚ w n) (λ n b. simp (h.past n b, times_zero));
  level = far;
  positive = rw h.add_up (whole_pos 1 one_pos);
  settles = λ p q one qp. (
    far,
    λ N. rw (h.add_up, ← one) (grw (order, le_plus p q, severity_within_one w far h N) (le_of_eq _ _ (times_one _))),
  );
}

pub fixed_count : (m : ℕ) → AreCountWeights (fixed m)
fixed_count m =
    finite_count (fixed m) m (record { add_up = fixed_sum m m (omega arith); past = λ n b. fixed_past m n b })

pub binomial_count : (m a b : ℕ) → 0 < b → a ≤ b → AreCountWeights (binomial m a b)
binomial_count m a b pos h = subst (λ w. AreCountWeights w) (binomial_power a b pos m)
    (finite_count (power (binomial 1 a b) m) (m * 1) (power_severity (binomial 1 a b) 1 (trial a b pos h) m))

-- ---- Poisson counts

pub poisson_count : (v : Fraction) → AreCountWeights (poisson v)
unfolding sum_to
poisson_count v = record {
  bound = _;
  bounded = poisson_bound v;
  mean_bound = _;
  mean_bounded = λ N. (poisson_mean v).1 N _ (poisson_bound v);
  level = zero;
  positive = rw (poisson_zero v) (whole_pos 1 one_pos);
  settles = poisson_settles v;
}

-- ---- gamma counts

pub gamma_of_count : (r v : Fraction) → whole 0 <ℚ r → AreCountWeights (gamma_of r v)
unfolding sum_to
gamma_of_count r v rp =
    let W = r +ℚ v in
    let Wp = pos_plus r v rp in
    let one = div_plus v r W Wp (plus_comm v r) in
    let dp = div_pos r W rp Wp in
    let bound = gamma_bound (v /ℚ W) (r /ℚ W) one dp r in
    record {
      bound = bound.0;
      bounded = bound.1;
      mean_bound = v *ℚ bound.0;
      mean_bounded = λ N. (gamma_mean r v rp).1 N _ bound.1;
      level = zero;
      positive = rw (gamma_zero r (v /ℚ W)) (whole_pos 1 one_pos);
      settles = gamma_settles (v /ℚ W) (r /ℚ W) one dp r;
    }
