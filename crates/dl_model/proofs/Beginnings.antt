-- The grids that powers begin from, and counts of no loss.
use Rattle.dl_model.proofs.Common.{◌≡◌, ℕ, suc, zero, ◌-◌, ◌<◌, arith, sym, ap, ap₂, subst₂, ◌∙◌, fun_ext, Fraction, ◌over◌, ◌+ℚ◌, ◌*ℚ◌, ◌/ℚ◌, ◌<ℚ◌, whole, sum_to, zero_times, times_zero, times_cancel, div_times, SameValue, at_zero, power, cell, IsPositivePart, fixed, binomial, poisson, gamma, gamma_of, compound, nothing, times_itself, SameCells, refl}
use Rattle.dl_model.proofs.TotalLaws.{value_sym, sum_at_zero, fixed_cell, power_one, count_power, sum_to_at_zero, fixed_power, binomial_power, one_trial_none, one_trial_one, gamma_zero, gamma_next, over_next, thin_gamma, pos_plus}
use Rattle.dl_model.proofs.PoissonThin.{thin_poisson}
use Rattle.dl_model.proofs.PoissonTimes.{poisson_none}

-- ---- exact claims and trials

pub fixed_claims : (f : ℕ → Fraction) (m : ℕ) → SameCells (times_itself (compound (fixed 1) f) m) (compound (fixed m) f)
fixed_claims f m = count_power (fixed 1) (fixed m) f m (fixed_power m)

pub trials : (f : ℕ → Fraction) (m a b : ℕ) → 0 < b
    → SameCells (times_itself (compound (binomial 1 a b) f) m) (compound (binomial m a b) f)
trials f m a b pos = count_power (binomial 1 a b) (binomial m a b) f m (binomial_power a b pos m)

-- the cells of one claim, and of one trial
pub one_claim_cell : (f : ℕ → Fraction) (y : ℕ) → cell (fixed 1) f y 1 ≡ f y
one_claim_cell f y = fixed_cell 1 f y 1 (omega arith) ∙ ap (λ g. g y) (power_one f)

pub one_trial_cell : (f : ℕ → Fraction) (a b y : ℕ) → 0 < b
    → cell (binomial 1 a b) f y 1 ≡ (b - a) over b *ℚ at_zero y +ℚ a over b *ℚ f y
unfolding sum_to power
one_trial_cell f a b y pos = ap₂ (λ s t. s +ℚ t) (ap (λ p. p *ℚ at_zero y) (one_trial_none a b pos))
    (ap₂ (λ p q. p *ℚ q) (one_trial_one a b pos) (ap (λ g. g y) (power_one f)))

-- ---- no loss

-- the count that is always 0
none_cell : (f : ℕ → Fraction) (y N : ℕ) → cell at_zero f y N ≡ at_zero y
unfolding power
none_cell f y N = sum_to_at_zero N (λ n. power f n y)

none_value : (w v f g : ℕ → Fraction) (y : ℕ) → v ≡ at_zero
    → SameValue (cell w f y) (λ N. sum_to N w) (cell v g y) (λ N. sum_to N v)
    → SameValue (nothing.cells y) nothing.all (cell w f y) (λ N. sum_to N w)
none_value w v f g y e s = value_sym _ _ _ _ (subst₂ (λ Q R. SameValue (cell w f y) (λ N. sum_to N w) Q R)
    (fun_ext (λ N. ap (λ c. cell c g y N) e ∙ none_cell g y N))
    (fun_ext (λ N. ap (λ c. sum_to N c) e ∙ sum_at_zero N)) s)

pub poisson_no_loss : (v p : Fraction) (f g : ℕ → Fraction) → IsPositivePart f p g → v *ℚ p ≡ whole 0
    → SameCells nothing (compound (poisson v) f)
poisson_no_loss v p f g h z y = none_value (poisson v) (poisson (v *ℚ p)) f g y
    (ap poisson z ∙ fun_ext (λ n. sym (poisson_none n))) (thin_poisson v f p g h y)

no_gamma : (r : Fraction) → whole 0 <ℚ r → gamma_of r (whole 0) ≡ at_zero
unfolding at_zero
no_gamma r rp = ap (gamma r) share ∙ fun_ext each
  where
    W : whole 0 <ℚ r +ℚ whole 0
    W = pos_plus r (whole 0) rp

    share : whole 0 /ℚ (r +ℚ whole 0) ≡ whole 0
    share = times_cancel _ _ (r +ℚ whole 0) W (rw (div_times (whole 0) (r +ℚ whole 0) W, zero_times) refl)

    each : (n : ℕ) → gamma r (whole 0) n ≡ at_zero n
    each zero = gamma_zero r (whole 0)
    each (suc n) = over_next n _ _ (gamma_next r (whole 0) n ∙ ap (λ t. (r +ℚ whole n) *ℚ t) (zero_times _)
        ∙ times_zero _ ∙ sym (times_zero _))

pub gamma_no_loss : (r v p : Fraction) (f g : ℕ → Fraction) → whole 0 <ℚ r → IsPositivePart f p g
    → v *ℚ p ≡ whole 0 → SameCells nothing (compound (gamma_of r v) f)
gamma_no_loss r v p f g rp h z y = none_value (gamma_of r v) (gamma_of r (v *ℚ p)) f g y
    (ap (gamma_of r) z ∙ no_gamma r rp) (thin_gamma r v f p g rp h y)
