-- A Poisson count from equal shares of its mean, with claims of amount 0 left out.
use Rattle.dl_model.proofs.Common.{◌≡◌, ℕ, suc, zero, sym, ap, ◌∙◌, zero-lt-suc, fun_ext, Fraction, ◌+ℚ◌, ◌*ℚ◌, whole, sum_to, SameValue, convolve, at_zero, power, cell, poisson, IsPositivePart, compound, times_itself, zero_times, plus_comm, plus_times, one_times, whole_suc, whole_pos, times_cancel}
use Rattle.dl_model.proofs.TotalLaws.{poisson_zero, poisson_next, poisson_plus, count_power}
use Rattle.dl_model.proofs.PoissonThin.{thin_poisson}
use Rattle.dl_model.proofs.Alike.{value_trans, value_sym}

pub poisson_none : (n : ℕ) → at_zero n ≡ poisson (whole 0) n
unfolding at_zero
poisson_none zero = sym (poisson_zero (whole 0))
poisson_none (suc n) = times_cancel _ _ (whole (suc n)) (whole_pos (suc n) (zero-lt-suc n))
    (zero_times _ ∙ sym (poisson_next (whole 0) n ∙ zero_times _))

pub poisson_power : (u : Fraction) (k : ℕ) → power (poisson u) k ≡ poisson (whole k *ℚ u)
unfolding power
poisson_power u zero = fun_ext poisson_none ∙ ap poisson (sym (zero_times u))
poisson_power u (suc k) = ap (convolve (poisson u)) (poisson_power u k)
    ∙ fun_ext (λ n. sym (poisson_plus u (whole k *ℚ u) n)) ∙ ap poisson (ap (λ t. t +ℚ whole k *ℚ u) (sym (one_times u))
    ∙ sym (plus_times (whole 1) (whole k) u) ∙ ap (λ t. t *ℚ u) (plus_comm (whole 1) (whole k) ∙ sym (whole_suc k)))

-- k shares of mean u over the amounts above 0, against mean v over all amounts
pub poisson_shares : (u v : Fraction) (k : ℕ) (f : ℕ → Fraction) (p : Fraction) (g : ℕ → Fraction)
    → IsPositivePart f p g → whole k *ℚ u ≡ v *ℚ p → (y : ℕ)
    → SameValue ((times_itself (compound (poisson u) g) k).cells y) ((times_itself (compound (poisson u) g) k).all)
    (cell (poisson v) f y) (λ N. sum_to N (poisson v))
poisson_shares u v k f p g h e y =
    value_trans _ _ (cell (poisson (v *ℚ p)) g y) (λ N. sum_to N (poisson (v *ℚ p))) _ _ (count_power (poisson u)
    (poisson (v *ℚ p)) g k (poisson_power u k ∙ ap poisson e) y) (value_sym _ _ _ _ (thin_poisson v f p g h y))
