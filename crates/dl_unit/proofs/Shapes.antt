-- A gamma count by the whole part of its shape and the rest.
use Rattle.dl_unit.proofs.Common.{ℕ, ◌≡◌, ◌%◌, ◌<◌, ◌≤◌, List, length, arith, sym, ap, ap₂, subst, ◌∙◌, Fraction, whole, ◌over◌, ◌+ℚ◌, ◌*ℚ◌, ◌/ℚ◌, Iv, gamma_of, compound, GridEncloses, compound_proper, IsWithinOne, pw_rises, gamma_budget, times_comm, over_zero, over_pos, div_times, plus_zero, whole_pos, ◌<ℚ◌, cv_rises, IsConvolution, convolution_spread, power_spread, times_itself, ones_added, shapes_added, convolution_encloses, shape_parts, budget_below, budget_both, budget_whole}
use Rattle.dl_budget.specs.Claims.{geometric_spread, rest_part, shape_spread, whole_part, whole_spread}
use Rattle.dl_unit.proofs.Families.{grid_same}

-- a shape times the mean over it is the mean
pub mean_of : (shape mean beta : Fraction) → whole 0 <ℚ shape → beta ≡ mean /ℚ shape → shape *ℚ beta ≡ mean
mean_of shape mean beta above is =
    ap (λ b. shape *ℚ b) is ∙ times_comm shape (mean /ℚ shape) ∙ div_times mean shape above

module _ (shape mean beta : Fraction) (above : whole 0 <ℚ shape) (is : beta ≡ mean /ℚ shape) (f : ℕ → Fraction)
    (k : ℕ) (some : 0 < k) (k_is : k ≡ whole_part shape) where
  parts : whole k +ℚ rest_part shape ≡ shape
  parts = ap (λ n. whole n +ℚ rest_part shape) k_is ∙ shape_parts shape (whole 0)

  -- the gamma weights of the shape that a sum comes to
  weights : (r : Fraction) → r ≡ shape → gamma_of r (r *ℚ beta) ≡ gamma_of shape mean
  weights r e = ap₂ gamma_of e (ap (λ s. s *ℚ beta) e ∙ mean_of shape mean beta above is)

  -- so many geometric counts, of a whole shape
  pub whole_encloses : {B : ℕ} (g : List (Iv B)) → shape.num % shape.den ≡ 0
      → GridEncloses g (times_itself (compound (gamma_of (whole 1) beta) f) k)
      → GridEncloses g (compound (gamma_of shape mean) f)
  whole_encloses g none copies =
      let rest : rest_part shape ≡ whole 0 = ap (λ n. n over shape.den) none ∙ over_zero shape.den shape.positive in
      let e : whole k ≡ shape = sym (ap (λ t. whole k +ℚ t) rest ∙ plus_zero (whole k)) ∙ parts in
      subst (λ w. GridEncloses g (compound w f)) (weights (whole k) e) (grid_same g _ _ (ones_added k beta f some) copies)

  -- and the rest of the shape beside them
  pub both_enclose : {B : ℕ} (a b g : List (Iv B)) (n : ℕ) → IsWithinOne f → 0 < shape.num % shape.den → n ≤ length a
      → n ≤ length b → length g ≡ n → IsConvolution n a b g
      → GridEncloses a (times_itself (compound (gamma_of (whole 1) beta) f) k)
      → GridEncloses b (compound (gamma_of (rest_part shape) (rest_part shape *ℚ beta)) f)
      → GridEncloses g (compound (gamma_of shape mean) f)
  both_enclose a b g n within rest in_a in_b cells convolution copies of_rest =
      let K = whole k in
      let t = rest_part shape in
      let all = convolution_encloses a b g n _ _ (compound_proper (gamma_of K (K *ℚ beta)) f within)
      (compound_proper (gamma_of t (t *ℚ beta)) f within) in_a in_b cells convolution
      (grid_same a _ _ (ones_added k beta f some) copies) of_rest in
      subst (λ w. GridEncloses g (compound w f)) (weights (K +ℚ t) parts)
      (grid_same g _ _ (shapes_added K t beta f (whole_pos k some) (over_pos _ shape.den rest shape.positive)) all)

-- ---- spreads

module _ (S K : ℕ) (shape mean beta : Fraction) (pos : 0 < S) (is : beta ≡ mean /ℚ shape) where
  pub below_within : (x : ℕ) → whole 0 <ℚ shape → shape.num < shape.den → x ≤ shape_spread K beta
      → x ≤ gamma_budget S K shape mean
  below_within x above below narrow =
      subst (λ y. x ≤ y) (ap (shape_spread K) is ∙ sym (budget_below S K shape mean above below)) narrow

  power_within : (b k x : ℕ) → b ≤ geometric_spread K beta → k ≡ whole_part shape → x ≤ power_spread S K b k
      → x ≤ whole_spread S K shape (mean /ℚ shape)
  power_within b k x narrow k_is within =
      let grown = pw_rises S K K b (geometric_spread K beta) k pos (omega arith) narrow in
      let same : power_spread S K (geometric_spread K beta) k ≡ whole_spread S K shape (mean /ℚ shape) =
      ap₂ (λ b n. power_spread S K b n) (ap (geometric_spread K) is) k_is in
      omega (arith, within, grown, same)

  pub whole_within : (b k x : ℕ) → shape.num % shape.den ≡ 0 → b ≤ geometric_spread K beta → k ≡ whole_part shape
      → x ≤ power_spread S K b k → x ≤ gamma_budget S K shape mean
  whole_within b k x none narrow k_is within =
      subst (λ y. x ≤ y) (sym (budget_whole S K shape mean none)) (power_within b k x narrow k_is within)

  pub both_within : (b k x y z : ℕ) → 0 < shape.num % shape.den → 1 ≤ whole_part shape → b ≤ geometric_spread K beta
      → k ≡ whole_part shape → x ≤ power_spread S K b k → y ≤ shape_spread K beta → z ≤ convolution_spread S K x y
      → z ≤ gamma_budget S K shape mean
  both_within b k x y z rest some narrow k_is within narrow_rest both =
      let second : y ≤ shape_spread K (mean /ℚ shape) = subst (λ v. y ≤ shape_spread K v) is narrow_rest in
      let grown = cv_rises S K K x _ y _ pos (omega arith) (power_within b k x narrow k_is within) second in
      subst (λ v. z ≤ v) (sym (budget_both S K shape mean rest some)) (omega (arith, both, grown))
