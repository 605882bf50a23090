-- The terms of the exponential's series: each from the one before, in whole units, and the sum of all that follow.
use Rattle.dl_panjer.proofs.Common.{◌≡◌, ℕ, suc, zero, ◌+◌, ◌*◌, ◌≤◌, arith, sym, ap, subst, subst₂, ◌∙◌, mul-pos, zero-lt-suc, Fraction, ◌over◌, ◌*ℚ◌, ◌≤ℚ◌, ◌<ℚ◌, whole, sum_to, ring, le_trans, times_one, times_le_cancel, whole_pos, whole_plus, whole_times, over_times_whole, whole_le, exponential_term, over_self, le_over, one_pos, plus_times, times_assoc, times_comm, times_le_times, times_cancel, div_times, halving_bound, factorial_pos, times_inward, times_outward}
use Rattle.dl_exact.specs.Prelude.{◌+ℚ◌, ◌/ℚ◌, ◌^ℚ◌, factorial}

pub term_zero : (x : Fraction) → exponential_term x zero ≡ whole 1
unfolding exponential_term factorial ◌^ℚ◌
term_zero x = sym (times_one _) ∙ div_times (whole 1) (whole 1) (whole_pos 1 one_pos)

-- (n + 1) * t(n + 1) = x * t(n)
pub term_next : (x : Fraction) (n : ℕ) → exponential_term x (suc n) *ℚ whole (suc n) ≡ x *ℚ exponential_term x n
unfolding exponential_term factorial ◌^ℚ◌
term_next x n =
    let F = whole (factorial n) in
    let positive : whole 0 <ℚ F = whole_pos (factorial n) (factorial_pos n) in
    times_cancel _ _ F positive
    (times_assoc (x ^ℚ suc n /ℚ whole (factorial (suc n))) (whole (suc n)) F
    ∙ ap (λ t. x ^ℚ suc n /ℚ whole (factorial (suc n)) *ℚ t) (sym (whole_times (suc n) (factorial n)))
    ∙ div_times (x ^ℚ suc n) (whole (factorial (suc n))) (whole_pos (factorial (suc n)) (factorial_pos (suc n)))
    ∙ ap (λ t. x *ℚ t) (sym (div_times (x ^ℚ n) F positive))
    ∙ sym (times_assoc x (x ^ℚ n /ℚ F) F))

-- ---- what follows a term

pub half_parts : (x : Fraction) → x ≤ℚ 1 over 2 → x.num + x.num ≤ x.den
half_parts x h =
    omega (arith, le_over x.num x.den 1 2 x.positive (zero-lt-suc 1) (subst (λ t. t ≤ℚ 1 over 2) (sym (over_self x)) h))

module _ (x : Fraction) where
  times_den : x *ℚ whole x.den ≡ whole x.num
  times_den = ap (λ t. t *ℚ whole x.den) (sym (over_self x)) ∙ over_times_whole x.num x.den x.positive

  twice : x ≤ℚ 1 over 2 → (n : ℕ) → x +ℚ x ≤ℚ whole (suc n)
  twice h n = le_trans _ _ _
      (subst₂ (λ s t. s ≤ℚ t) (doubled x) (over_times_whole 1 2 (zero-lt-suc 1))
      (times_le_times x (1 over 2) (whole 2) h))
      (whole_le 1 (suc n) (omega arith))
    where
      doubled : (a : Fraction) → a *ℚ whole 2 ≡ a +ℚ a
      doubled a = ap (λ t. a *ℚ t) (whole_plus 1 1) ∙ simp ring

  halves : x ≤ℚ 1 over 2 → (n : ℕ) → exponential_term x (suc n) +ℚ exponential_term x (suc n) ≤ℚ exponential_term x n
  halves h n =
      let t = exponential_term x in
      times_le_cancel _ _ (whole (suc n)) (whole_pos (suc n) (zero-lt-suc n))
      (subst₂ (λ a b. a ≤ℚ b) (sym (plus_times _ _ (whole (suc n)) ∙ ap (λ a. a +ℚ a) (term_next x n)
      ∙ sym (plus_times x x (t n)))) (times_comm _ _)
      (times_le_times _ _ (t n) (twice h n)))

  pub rest_bound : x ≤ℚ 1 over 2 → (K N : ℕ)
      → sum_to N (exponential_term x) ≤ℚ sum_to K (exponential_term x) +ℚ exponential_term x K
  rest_bound h K = halving_bound (exponential_term x) K (λ n _. halves h n)

  -- ---- a term in whole units from the one before

  next_term : (C : Fraction) (n : ℕ) → C *ℚ exponential_term x (suc n) *ℚ whole
      (x.den * suc n) ≡ C *ℚ exponential_term x n *ℚ whole x.num
  next_term C n =
      let p = exponential_term x n in
      let q = exponential_term x (suc n) in
      ap (λ t. C *ℚ q *ℚ t) (whole_times x.den (suc n))
      ∙ times_inward C q (whole x.den) (whole (suc n))
      ∙ ap (λ t. C *ℚ t *ℚ whole x.den) (term_next x n)
      ∙ times_outward C x p (whole x.den)
      ∙ ap (λ t. C *ℚ p *ℚ t) times_den

  step_pos : (n : ℕ) → whole 0 <ℚ whole (x.den * suc n)
  step_pos n = whole_pos (x.den * suc n) (mul-pos x.positive (zero-lt-suc n))

  pub low_term : (C : Fraction) (n t s : ℕ) → s * (x.den * suc n) ≤ t * x.num → whole t ≤ℚ C *ℚ exponential_term x n
      → whole s ≤ℚ C *ℚ exponential_term x (suc n)
  low_term C n t s p h =
      times_le_cancel _ _ (whole (x.den * suc n)) (step_pos n)
      (subst₂ (λ a b. a ≤ℚ b) (whole_times s (x.den * suc n)) (sym (next_term C n))
      (le_trans _ _ _ (whole_le _ _ p) (subst (λ a. a ≤ℚ C *ℚ exponential_term x n *ℚ whole x.num)
      (sym (whole_times t x.num)) (times_le_times _ _ (whole x.num) h))))

  pub high_term : (C : Fraction) (n t s : ℕ) → t * x.num ≤ s * (x.den * suc n) → C *ℚ exponential_term x n ≤ℚ whole t
      → C *ℚ exponential_term x (suc n) ≤ℚ whole s
  high_term C n t s p h =
      times_le_cancel _ _ (whole (x.den * suc n)) (step_pos n)
      (subst₂ (λ a b. a ≤ℚ b) (sym (next_term C n)) (whole_times s (x.den * suc n))
      (le_trans _ _ _ (subst (λ a. C *ℚ exponential_term x n *ℚ whole x.num ≤ℚ a) (sym (whole_times t x.num))
      (times_le_times _ _ (whole x.num) h)) (whole_le _ _ p)))
