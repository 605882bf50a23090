-- The declared probabilities add up to 1.
use Rattle.dl_model.proofs.Common.{◌≡◌, ℕ, suc, zero, ◌+◌, ◌≤◌, arith, sym, ap, ◌∙◌, zero-lt-suc, Fraction, ◌+ℚ◌, ◌*ℚ◌, ◌≤ℚ◌, ◌<ℚ◌, whole, sum_to, IsBound, Settles, poisson, times_comm, plus_times, times_plus, one_times, whole_suc, whole_pos, le_refl, le_trans, le_of_eq, le_of_lt, le_plus, times_le_cancel, times_le_times, archimedes, times_le_both, sum_to_grows, halving_bound, whole_le, order, add-zero}
use Rattle.dl_model.proofs.PoissonWeights.{poisson_halves, poisson_zero}

-- weights that halve from K on come below every fraction
falls_far : (w : ℕ → Fraction) (K : ℕ) → ((n : ℕ) → K ≤ n → w (suc n) +ℚ w (suc n) ≤ℚ w n) → (m : ℕ)
    → whole (suc m) *ℚ w (K + m) ≤ℚ w K
falls_far w K h zero = le_of_eq _ _ (one_times _ ∙ ap w (add-zero K))
falls_far w K h (suc m) =
    let k : K + suc m ≡ suc (K + m) = omega arith in
    let x : Fraction = w (suc (K + m)) in
    let a : whole (suc m) *ℚ (x +ℚ x) ≤ℚ whole (suc m) *ℚ w (K + m) =
    times_le_both _ _ _ _ (le_refl _) (h (K + m) (omega arith)) in
    let b : whole (suc (suc m)) *ℚ x ≤ℚ whole (suc m) *ℚ (x +ℚ x) =
    rw (whole_suc (suc m), plus_times, times_plus) (grw (order, times_le_times _ _ x (whole_le 1 (suc m) (omega arith)))) in
    rw k (le_trans _ _ _ b (le_trans _ _ _ a (falls_far w K h m)))

small : (w : ℕ → Fraction) (K : ℕ) → ((n : ℕ) → K ≤ n → w (suc n) +ℚ w (suc n) ≤ℚ w n) → (q : Fraction) → whole 0 <ℚ q
    → (m : ℕ) × (w (K + m) ≤ℚ q)
small w K h q qp =
    let a = archimedes (w K) q qp in
    let k = a.0 in (
      k,
      times_le_cancel _ _ (whole (suc k)) (whole_pos (suc k) (zero-lt-suc k)) (rw (times_comm, times_comm q)
          (le_trans _ _ _ (falls_far w K h k) (le_trans _ _ _ (le_of_lt _ _ a.1)
          (times_le_times _ _ q (whole_le k (suc k) (omega arith)))))),
    )

-- where sums of halving weights begin with at least 1, they settle
pub halving_settles : (w : ℕ → Fraction) (K : ℕ) → ((n : ℕ) → K ≤ n → w (suc n) +ℚ w (suc n) ≤ℚ w n)
    → whole 1 ≤ℚ w zero → Settles (λ N. sum_to N w)
unfolding sum_to
halving_settles w K h start p q one qp =
    let s = small w K h q qp in
    let M = K + s.0 in
    let R = sum_to M w in
    let bound : IsBound (λ N. sum_to N w) (R +ℚ w M) = halving_bound w M (λ n b. h n (omega arith)) in
    let ge : whole 1 ≤ℚ R = le_trans _ _ _ start (sum_to_grows zero M w (omega arith)) in
    let p_le : p ≤ℚ whole 1 = rw (← one) (le_plus p q) in
    let rest : p *ℚ w M ≤ℚ q *ℚ R =
    rw (times_comm q R) (le_trans _ _ _ (times_le_both p (whole 1) _ _ p_le s.1) (times_le_times _ _ q ge)) in (
      M,
      λ n. grw (order, bound n) (rw times_plus (grw (order, rest)
          (le_of_eq _ _ (sym (plus_times p q R) ∙ ap (λ t. t *ℚ R) one ∙ one_times R)))),
    )

pub poisson_settles : (v : Fraction) → Settles (λ N. sum_to N (poisson v))
poisson_settles v = halving_settles (poisson v) (v.num + v.num) (poisson_halves v) (le_of_eq _ _ (sym (poisson_zero v)))
