-- The binomial law of divided powers.
use Rattle.dl_model.proofs.Common.{◌≡◌, ℕ, suc, zero, sym, ap, ap₂, ◌∙◌, zero-lt-suc, fun_ext, Fraction, ◌+ℚ◌, ◌*ℚ◌, whole, sum_pairs, ring, plus_times, times_comm, times_assoc, times_left_comm, times_one, times_cancel, div_times, whole_pos, zero_times, sum_pairs_same, sum_pairs_plus, sum_pairs_times, sum_pairs_times_right, sum_pairs_weighed, convolve, at_zero, power, factorial, whole_times, factorial_pos, sum_pairs_swap, divided_power}
use Rattle.dl_model.proofs.Powers.{convolve_assoc, convolve_times, at_zero_convolve, power_tilt, convolve_scaled, convolve_first}

-- n! divided by itself
pub divided_whole : (f : ℕ → Fraction) (n s : ℕ) → divided_power f n s *ℚ whole (factorial n) ≡ power f n s
divided_whole f n s = div_times _ _ (whole_pos (factorial n) (factorial_pos n))

-- no claim, divided by 0!
pub undivided : (f : ℕ → Fraction) (s : ℕ) → divided_power f zero s ≡ at_zero s
unfolding power factorial
undivided f s = sym (times_one _) ∙ divided_whole f zero s

pub divided_none : (f : ℕ → Fraction) (n s : ℕ) → power f n s ≡ whole 0 → divided_power f n s ≡ whole 0
divided_none f n s e = times_cancel _ _ (whole (factorial n)) (whole_pos (factorial n) (factorial_pos n))
    (divided_whole f n s ∙ e ∙ sym (zero_times _))

pub convolve_divided : (t f : ℕ → Fraction) (n s : ℕ)
    → convolve t (divided_power f n) s *ℚ whole (factorial n) ≡ convolve t (power f n) s
convolve_divided t f n s = sym (sum_pairs_times_right s (whole (factorial n)) (λ i j. t i *ℚ divided_power f n j))
    ∙ sum_pairs_same s _ _ (λ i j e. times_assoc _ _ _ ∙ ap (λ x. t i *ℚ x) (divided_whole f n j))

-- n + 1 times a divided power is the convolution with the one before
pub divided_next : (f : ℕ → Fraction) (n s : ℕ)
    → whole (suc n) *ℚ divided_power f (suc n) s ≡ convolve f (divided_power f n) s
unfolding power factorial
divided_next f n s =
    let w = whole (factorial n) in
    times_cancel _ _ w (whole_pos (factorial n) (factorial_pos n))
    ((simp ring)
    ∙ ap (λ t. divided_power f (suc n) s *ℚ t) (sym (whole_times (suc n) (factorial n)))
    ∙ divided_whole f (suc n) s ∙ sym (convolve_divided f f n s))

-- the sum times a divided power, as the derivative of a power
pub divided_tilt : (f : ℕ → Fraction) (n s : ℕ)
    → whole s *ℚ divided_power f (suc n) s ≡ convolve (λ j. whole j *ℚ f j) (divided_power f n) s
unfolding factorial
divided_tilt f n s =
    let w = whole (factorial (suc n)) in
    let t : ℕ → Fraction = λ j. whole j *ℚ f j in
    times_cancel _ _ w (whole_pos (factorial (suc n)) (factorial_pos (suc n)))
    (times_assoc _ _ _ ∙ ap (λ x. whole s *ℚ x) (divided_whole f (suc n) s) ∙ power_tilt f n s
    ∙ sym (ap (λ x. convolve t (divided_power f n) s *ℚ x) (whole_times (suc n) (factorial n))
    ∙ times_left_comm _ _ _ ∙ ap (λ x. whole (suc n) *ℚ x) (convolve_divided t f n s)))

-- ---- convolutions of sums

pub convolve_plus_left : (f g h : ℕ → Fraction) (s : ℕ)
    → convolve (λ j. f j +ℚ g j) h s ≡ convolve f h s +ℚ convolve g h s
convolve_plus_left f g h s = simp (plus_times, sum_pairs_plus)

pub convolve_pairs : (f : ℕ → Fraction) (n s : ℕ) (h : ℕ → ℕ → ℕ → Fraction)
    → convolve f (λ t. sum_pairs n (λ j k. h j k t)) s ≡ sum_pairs n (λ j k. convolve f (h j k) s)
convolve_pairs f n s h = sum_pairs_same s _ _ (λ a b e. sym (sum_pairs_times n (f a) (λ j k. h j k b)))
    ∙ sum_pairs_swap s n (λ a b j k. f a *ℚ h j k b)

-- ---- the binomial law

module _ (f g : ℕ → Fraction) where
  abbrev both : ℕ → Fraction
  both j = f j +ℚ g j

  abbrev splits : ℕ → ℕ → Fraction
  splits n s = sum_pairs n (λ j k. convolve (divided_power f j) (divided_power g k) s)

  splits_next : (n s : ℕ) → whole (suc n) *ℚ splits (suc n) s ≡ convolve both (splits n) s
  splits_next n s =
      sum_pairs_weighed n (λ j k. convolve (divided_power f j) (divided_power g k) s) ∙ sym (sum_pairs_plus n _ _)
      ∙ sum_pairs_same n _ (λ j k. convolve both (convolve (divided_power f j) (divided_power g k)) s) (λ j k e.
      ap₂ (λ x y. x +ℚ y) (sym (convolve_scaled (whole (suc j)) (divided_power f (suc j)) (divided_power g k) s)
      ∙ ap (λ t. convolve t (divided_power g k) s) (fun_ext (divided_next f j))
      ∙ ap (λ t. t s) (convolve_assoc f (divided_power f j) (divided_power g k)))
      (sym (convolve_times (whole (suc k)) (divided_power f j) (divided_power g (suc k)) s)
      ∙ ap (λ t. convolve (divided_power f j) t s) (fun_ext (divided_next g k))
      ∙ convolve_first g (divided_power f j) (divided_power g k) s)
      ∙ sym (convolve_plus_left f g (convolve (divided_power f j) (divided_power g k)) s))
      ∙ sym (convolve_pairs both n s (λ j k. convolve (divided_power f j) (divided_power g k)))

  none_splits : (s : ℕ) → divided_power both zero s ≡ splits zero s
  unfolding power factorial sum_pairs
  none_splits s = sym (ap (λ h. convolve h (divided_power g zero) s) (fun_ext (undivided f)) ∙ ap (λ t. t s)
      (at_zero_convolve (divided_power g zero)))

  pub divided_plus : (n s : ℕ) → divided_power both n s ≡ splits n s
  divided_plus zero s = none_splits s
  divided_plus (suc n) s = times_cancel _ _ (whole (suc n)) (whole_pos (suc n) (zero-lt-suc n))
      (times_comm _ _ ∙ divided_next both n s ∙ ap (λ h. convolve both h s) (fun_ext (divided_plus n))
      ∙ sym (splits_next n s) ∙ times_comm _ _)
