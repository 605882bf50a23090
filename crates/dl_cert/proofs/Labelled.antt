-- Labels: of no unit, of one unit, and of two labels together.
use Rattle.dl_cert.proofs.Common.{nat_tests, ℕ, zero, suc, ◌≡◌, ◌<◌, ◌∙◌, refl, sym, ap, ap₂, arith, List, [], ◌∷◌, length, get_or, Fraction, whole, ◌*ℚ◌, ◌^ℚ◌, ring, one_times, times_one, convolve, at_zero, power, Family, product, nothing, Encloses, encloses_same, itself_one, fun_ext, labelled, Label, no_unit, once, together, pow_plus, convolve_comm, convolve_assoc, at_zero_convolve, power_plus}

-- two convolutions of two each, exchanged
exchange : (a b x y : ℕ → Fraction)
    → convolve (convolve a x) (convolve b y) ≡ convolve (convolve a b) (convolve x y)
exchange a b x y =
    convolve_assoc a x (convolve b y)
    ∙ ap (convolve a) (sym (convolve_assoc x b y) ∙ ap (λ t. convolve t y) (convolve_comm x b) ∙ convolve_assoc b x y)
    ∙ sym (convolve_assoc a b (convolve x y))

-- the cells of a label at one level
cells_at : List Family → Label → ℕ → ℕ → Fraction
cells_at Fs label N y = (labelled Fs label).cells y N

together_cells : (Fs : List Family) (a b : Label) (N : ℕ)
    → convolve (cells_at Fs a N) (cells_at Fs b N) ≡ cells_at Fs (together a b) N
unfolding cells_at labelled
together_cells [] a b N = at_zero_convolve at_zero
together_cells (F ∷ Fs) a b N =
    let own : ℕ → ℕ → Fraction = λ n. power (λ j. F.cells j N) n in
    let a' : Label = λ i. a (suc i) in
    let b' : Label = λ i. b (suc i) in
    exchange (own (a zero)) (own (b zero)) (cells_at Fs a' N) (cells_at Fs b' N)
    ∙ ap₂ convolve (sym (power_plus (λ j. F.cells j N) (a zero) (b zero))) (together_cells Fs a' b' N)

together_all : (Fs : List Family) (a b : Label) (N : ℕ)
    → (labelled Fs a).all N *ℚ (labelled Fs b).all N ≡ (labelled Fs (together a b)).all N
unfolding labelled
together_all [] a b N = one_times _
together_all (F ∷ Fs) a b N =
    let a' : Label = λ i. a (suc i) in
    let b' : Label = λ i. b (suc i) in
    turn (F.all N ^ℚ a zero) (F.all N ^ℚ b zero) ((labelled Fs a').all N) ((labelled Fs b').all N)
    ∙ ap₂ (λ s t. s *ℚ t) (sym (pow_plus (F.all N) (a zero) (b zero))) (together_all Fs a' b' N)
  where
    turn : (a b x y : Fraction) → a *ℚ x *ℚ (b *ℚ y) ≡ a *ℚ b *ℚ (x *ℚ y)
    turn a b x y = simp ring

none_cells : (Fs : List Family) (N : ℕ) → at_zero ≡ cells_at Fs no_unit N
unfolding cells_at labelled power
none_cells [] N = refl
none_cells (F ∷ Fs) N = none_cells Fs N ∙ sym (at_zero_convolve (cells_at Fs no_unit N))

none_all : (Fs : List Family) (N : ℕ) → whole 1 ≡ (labelled Fs no_unit).all N
unfolding labelled ◌^ℚ◌
none_all [] N = refl
none_all (F ∷ Fs) N = none_all Fs N ∙ sym (one_times _)

-- the label of one unit, without the first one
once_first : (λ i. once 0 (suc i)) ≡ no_unit
once_first = fun_ext (λ i. grind (arith, nat_tests))

once_later : (u : ℕ) → (λ i. once (suc u) (suc i)) ≡ once u
once_later u = fun_ext (λ i. grind (arith, nat_tests))

once_none : (u : ℕ) → once (suc u) 0 ≡ 0
once_none u = grind (arith, nat_tests)

once_cells : (Fs : List Family) (u N : ℕ) → u < length Fs
    → (λ y. (get_or Fs u nothing).cells y N) ≡ cells_at Fs (once u) N
unfolding cells_at labelled power
once_cells [] u N h = absurd (omega (arith, h))
once_cells (F ∷ Fs) zero N h =
    let own : ℕ → Fraction = power (λ j. F.cells j N) 1 in
    fun_ext (λ y. sym (itself_one F y N))
    ∙ sym (ap (convolve own) (ap (λ l. cells_at Fs l N) once_first ∙ sym (none_cells Fs N))
    ∙ convolve_comm own at_zero ∙ at_zero_convolve own)
once_cells (F ∷ Fs) (suc u) N h =
    let own : ℕ → ℕ → Fraction = λ n. power (λ j. F.cells j N) n in
    once_cells Fs u N (omega (arith, h)) ∙ sym (ap₂ (λ n l. convolve (own n) (cells_at Fs l N)) (once_none u)
    (once_later u) ∙ at_zero_convolve (cells_at Fs (once u) N))

once_all : (Fs : List Family) (u N : ℕ) → u < length Fs
    → (get_or Fs u nothing).all N ≡ (labelled Fs (once u)).all N
unfolding labelled ◌^ℚ◌
once_all [] u N h = absurd (omega (arith, h))
once_all (F ∷ Fs) zero N h =
    sym (ap (λ t. F.all N *ℚ whole 1 *ℚ t) (ap (λ l. (labelled Fs l).all N) once_first ∙ sym (none_all Fs N))
    ∙ times_one _ ∙ times_one _)
once_all (F ∷ Fs) (suc u) N h =
    once_all Fs u N (omega (arith, h)) ∙ sym (ap₂ (λ n l. F.all N ^ℚ n *ℚ (labelled Fs l).all N) (once_none u)
    (once_later u) ∙ one_times _)

module _ (S K : ℕ) (lo hi : ℕ → ℕ) (Fs : List Family) where
  pub encloses_none : Encloses S K lo hi nothing → Encloses S K lo hi (labelled Fs no_unit)
  unfolding cells_at
  encloses_none = encloses_same S K lo hi _ _ (λ y N. ap (λ g. g y) (none_cells Fs N)) (none_all Fs)

  pub encloses_once : (u : ℕ) → u < length Fs → Encloses S K lo hi (get_or Fs u nothing)
      → Encloses S K lo hi (labelled Fs (once u))
  unfolding cells_at
  encloses_once u h =
      encloses_same S K lo hi _ _ (λ y N. ap (λ g. g y) (once_cells Fs u N h)) (λ N. once_all Fs u N h)

  pub encloses_together : (a b : Label) → Encloses S K lo hi (product (labelled Fs a) (labelled Fs b))
      → Encloses S K lo hi (labelled Fs (together a b))
  unfolding cells_at
  encloses_together a b =
      encloses_same S K lo hi _ _ (λ y N. ap (λ g. g y) (together_cells Fs a b N)) (together_all Fs a b)
