-- Gamma counts: their weights, sums and powers.
use Rattle.dl_model.proofs.Common.{◌≡◌, ℕ, suc, zero, ◌+◌, arith, sym, ap, ap₂, subst, subst₂, ◌∙◌, zero-lt-suc, fun_ext, Fraction, ◌+ℚ◌, ◌*ℚ◌, ◌≤ℚ◌, ◌<ℚ◌, whole, sum_to, sum_pairs, IsLeastBound, convolve, at_zero, power, gamma, product_below, ◌^ℚ◌, ◌/ℚ◌, div_times, plus_assoc, plus_zero, whole_suc, ring, plus_comm, times_comm, times_assoc, plus_times, one_times, times_one, whole_plus, whole_pos, times_cancel, le_refl, le_plus, times_le_cancel, times_le_both, sum_to_same, sum_to_first, sum_to_times}
use Rattle.dl_model.proofs.ValueLaws.{at_zero_convolve, convolve_comm, convolve_next, sum_rises_to, at_most_rest, cauchy_level}
use Rattle.dl_model.proofs.Least.{least_times, least_from}

-- ---- weights

pub gamma_zero : (r x : Fraction) → gamma r x zero ≡ whole 1
unfolding gamma product_below ◌^ℚ◌
gamma_zero r x = times_one _

pub gamma_next : (r x : Fraction) (n : ℕ)
    → whole (suc n) *ℚ gamma r x (suc n) ≡ (r +ℚ whole n) *ℚ (x *ℚ gamma r x n)
unfolding gamma product_below ◌^ℚ◌
gamma_next r x n =
    let N = whole (suc n) in
    next_of N ((r +ℚ whole n) /ℚ N) (product_below n (λ i. (r +ℚ whole i) /ℚ whole (suc i))) x (x ^ℚ n)
    ∙ ap (λ t. t *ℚ (x *ℚ (product_below n (λ i. (r +ℚ whole i) /ℚ whole (suc i)) *ℚ x ^ℚ n)))
    (div_times (r +ℚ whole n) N (whole_pos (suc n) (zero-lt-suc n)))
  where
    next_of : (N d P x y : Fraction) → N *ℚ (P *ℚ d *ℚ (x *ℚ y)) ≡ d *ℚ N *ℚ (x *ℚ (P *ℚ y))
    next_of N d P x y = simp ring

-- two weights of n + 1 claims are the same where they are n + 1 times
pub over_next : (n : ℕ) (y z : Fraction) → whole (suc n) *ℚ y ≡ whole (suc n) *ℚ z → y ≡ z
over_next n y z e =
    times_cancel y z (whole (suc n)) (whole_pos (suc n) (zero-lt-suc n)) (times_comm _ _ ∙ e ∙ times_comm _ _)

-- one more in the shape, times the shape, is the shape and the number of claims times the weight
pub gamma_shift : (r x : Fraction) (i : ℕ) → r *ℚ gamma (r +ℚ whole 1) x i ≡ (r +ℚ whole i) *ℚ gamma r x i
gamma_shift r x zero = ap₂ (λ s t. s *ℚ t) (sym (plus_zero r)) (gamma_zero _ x ∙ sym (gamma_zero r x))
gamma_shift r x (suc i) =
    let G = gamma (r +ℚ whole 1) x in
    let s = r +ℚ whole i in
    let more : r +ℚ whole 1 +ℚ whole i ≡ r +ℚ whole (suc i) =
    plus_assoc r _ _ ∙ ap (λ t. r +ℚ t) (plus_comm _ _ ∙ sym (whole_suc i)) in
    over_next i _ _ (left (whole (suc i)) r (G (suc i))
    ∙ ap (λ t. r *ℚ t) (gamma_next (r +ℚ whole 1) x i ∙ ap (λ t. t *ℚ (x *ℚ G i)) more)
    ∙ turn r (r +ℚ whole (suc i)) x (G i)
    ∙ ap (λ t. (r +ℚ whole (suc i)) *ℚ (x *ℚ t)) (gamma_shift r x i)
    ∙ ap (λ t. (r +ℚ whole (suc i)) *ℚ t) (left x s (gamma r x i) ∙ sym (gamma_next r x i))
    ∙ left (r +ℚ whole (suc i)) (whole (suc i)) (gamma r x (suc i)))
  where
    left : (a b c : Fraction) → a *ℚ (b *ℚ c) ≡ b *ℚ (a *ℚ c)
    left a b c = simp ring

    turn : (a b c d : Fraction) → a *ℚ (b *ℚ (c *ℚ d)) ≡ b *ℚ (c *ℚ (a *ℚ d))
    turn a b c d = simp ring

-- the counts of two shapes added up are that of the sum of the shapes
pub gamma_plus : (r t x : Fraction) (n : ℕ) → gamma (r +ℚ t) x n ≡ convolve (gamma r x) (gamma t x) n
unfolding sum_pairs
gamma_plus r t x zero =
    gamma_zero (r +ℚ t) x ∙ sym (ap₂ (λ a b. a *ℚ b) (gamma_zero r x) (gamma_zero t x) ∙ times_one _)
gamma_plus r t x (suc n) =
    over_next n _ _
    (gamma_next (r +ℚ t) x n ∙ sym (times_assoc _ _ _)
    ∙ ap (λ s. (r +ℚ t +ℚ whole n) *ℚ x *ℚ s) (gamma_plus r t x n)
    ∙ sym (convolve_next n (gamma r x) (gamma t x) (λ i. (r +ℚ whole i) *ℚ x) (λ j. (t +ℚ whole j) *ℚ x) _
    (λ i. gamma_next r x i ∙ sym (times_assoc _ _ _)) (λ j. gamma_next t x j ∙ sym (times_assoc _ _ _)) (λ i j e.
    both (r +ℚ whole i) (t +ℚ whole j) x ∙ ap (λ s. s *ℚ x) (four r (whole i) t (whole j)
    ∙ ap (λ s. r +ℚ t +ℚ s) (sym (whole_plus i j) ∙ ap whole e)))))
  where
    both : (a b x : Fraction) → a *ℚ x +ℚ b *ℚ x ≡ (a +ℚ b) *ℚ x
    both a b x = sym (plus_times a b x)

    four : (a b c d : Fraction) → a +ℚ b +ℚ (c +ℚ d) ≡ a +ℚ c +ℚ (b +ℚ d)
    four a b c d = simp ring

-- one more in the shape is a convolution with the geometric weights
pub gamma_one_more : (s : ℕ) (x : Fraction) (n : ℕ)
    → gamma (whole (suc (suc s))) x n ≡ convolve (gamma (whole 1) x) (gamma (whole (suc s)) x) n
gamma_one_more s x n =
    let e : suc (suc s) ≡ 1 + suc s = omega arith in
    ap (λ r. gamma r x n) (ap whole e ∙ whole_plus 1 (suc s)) ∙ gamma_plus (whole 1) (whole (suc s)) x n

pub gamma_power : (s : ℕ) (x : Fraction) → power (gamma (whole 1) x) (suc s) ≡ gamma (whole (suc s)) x
unfolding power
gamma_power zero x = convolve_comm (gamma (whole 1) x) at_zero ∙ at_zero_convolve (gamma (whole 1) x)
gamma_power (suc s) x = ap (convolve (gamma (whole 1) x)) (gamma_power s x) ∙ fun_ext (λ n. sym (gamma_one_more s x n))

-- ---- least bounds

pub geometric_next : (x : Fraction) (n : ℕ) → gamma (whole 1) x (suc n) ≡ x *ℚ gamma (whole 1) x n
geometric_next x n = over_next n _ _
    (gamma_next (whole 1) x n ∙ ap (λ t. t *ℚ (x *ℚ gamma (whole 1) x n)) (plus_comm _ _ ∙ sym (whole_suc n)))

geometric_sum : (x : Fraction) (N : ℕ)
    → sum_to (suc N) (gamma (whole 1) x) ≡ x *ℚ sum_to N (gamma (whole 1) x) +ℚ whole 1
geometric_sum x N = sum_to_first N (gamma (whole 1) x) ∙ ap₂ (λ a b. a +ℚ b)
    (gamma_zero (whole 1) x) (sum_to_same N _ _ (λ n e. geometric_next x n) ∙ sum_to_times N x (gamma (whole 1) x))
    ∙ plus_comm _ _

module _ (x d : Fraction) (one : x +ℚ d ≡ whole 1) where
  pub geometric_identity : (N : ℕ) → d *ℚ sum_to N (gamma (whole 1) x) +ℚ gamma (whole 1) x (suc N) ≡ whole 1
  unfolding sum_to
  geometric_identity zero = ap₂ (λ s t. d *ℚ s +ℚ t) (gamma_zero (whole 1) x) (geometric_next x zero
      ∙ ap (λ t. x *ℚ t) (gamma_zero (whole 1) x)) ∙ ap₂ (λ s t. s +ℚ t) (times_one d) (times_one x)
      ∙ plus_comm d x ∙ one
  geometric_identity (suc N) =
      let g = gamma (whole 1) x (suc N) in
      ap (λ t. d *ℚ (sum_to N (gamma (whole 1) x) +ℚ g) +ℚ t) (geometric_next x (suc N))
      ∙ (simp ring) ∙ ap (λ t. d *ℚ sum_to N (gamma (whole 1) x) +ℚ t *ℚ g) one
      ∙ ap (λ t. d *ℚ sum_to N (gamma (whole 1) x) +ℚ t) (one_times g) ∙ geometric_identity N

  pub geometric_low : (N : ℕ) → d *ℚ sum_to N (gamma (whole 1) x) ≤ℚ whole 1
  geometric_low N = subst (λ t. d *ℚ sum_to N (gamma (whole 1) x) ≤ℚ t) (geometric_identity N) (le_plus _ _)

  -- the sums of x^n have the least bound 1 / (1 - x)
  pub geometric_least : (L : Fraction) → whole 0 <ℚ d → L *ℚ d ≡ whole 1
      → IsLeastBound (λ N. sum_to N (gamma (whole 1) x)) L
  geometric_least L dp e = (
    (λ N. times_le_cancel _ _ d dp (subst₂ (λ s t. s ≤ℚ t) (times_comm _ _) (sym e) (geometric_low N))),
    (λ u b. times_le_cancel _ _ d dp (subst₂ (λ s t. s ≤ℚ t) (sym e) (times_comm d u)
        (at_most_rest (λ N. x *ℚ sum_to N (gamma (whole 1) x)) (λ N. whole 1)
        (λ N. sum_to (suc N) (gamma (whole 1) x)) x d
        (λ n. times_le_both x x _ _ (le_refl x) (sum_rises_to (gamma (whole 1) x) n)) (λ n. le_refl _)
        (λ n. sym (geometric_sum x n)) one (λ n u b. b (suc n)) zero u (λ m. b (suc m))))),
  )

  -- and those of the gamma weights of shape r that to the power r
  pub gamma_least : (L : Fraction) → whole 0 <ℚ d → L *ℚ d ≡ whole 1 → (s : ℕ)
      → IsLeastBound (λ N. sum_to N (gamma (whole (suc s)) x)) (L ^ℚ suc s)
  unfolding ◌^ℚ◌
  gamma_least L dp e zero =
      subst (IsLeastBound (λ N. sum_to N (gamma (whole 1) x))) (sym (times_one L)) (geometric_least L dp e)
  gamma_least L dp e (suc s) =
      subst (λ Q. IsLeastBound Q (L *ℚ L ^ℚ suc s))
      (fun_ext (λ N. sum_to_same N _ _ (λ n b. sym (gamma_one_more s x n))))
      (least_from _ _ (L *ℚ L ^ℚ suc s) (cauchy_level (gamma (whole 1) x) (gamma (whole (suc s)) x))
      (least_times _ _ L (L ^ℚ suc s) (sum_rises_to (gamma (whole 1) x)) (sum_rises_to (gamma (whole (suc s)) x))
      (geometric_least L dp e) (gamma_least L dp e s)))
