-- The laws of convolution and of powers.
use Rattle.dl_model.proofs.Common.{◌≡◌, ℕ, suc, zero, ◌+◌, sym, ap, ap₂, ◌∙◌, suc-add, zero-add, fun_ext, Fraction, ◌+ℚ◌, ◌*ℚ◌, whole, sum_pairs, convolve, at_zero, power, ring, times_comm, times_assoc, times_left_comm, plus_zero, times_zero, zero_times, one_times, whole_suc, whole_plus, sum_pairs_same, sum_pairs_plus, sum_pairs_times, sum_pairs_times_right, sum_pairs_turn, sum_pairs_assoc, sum_pairs_none, sum_pairs_weighed}

pub convolve_comm : (f g : ℕ → Fraction) → convolve f g ≡ convolve g f
convolve_comm f g =
    fun_ext (λ s. sym (sum_pairs_turn s (λ i j. f i *ℚ g j)) ∙ sum_pairs_same s _ _ (λ i j e. times_comm _ _))

pub convolve_assoc : (f g h : ℕ → Fraction) → convolve (convolve f g) h ≡ convolve f (convolve g h)
convolve_assoc f g h =
    fun_ext (λ s. sum_pairs_same s _ _ (λ i j e. sym (sum_pairs_times_right i (h j) (λ k l. f k *ℚ g l))
    ∙ sum_pairs_same i _ _ (λ k l e. times_assoc _ _ _)) ∙ sum_pairs_assoc s (λ k l j. f k *ℚ (g l *ℚ h j))
    ∙ sum_pairs_same s _ _ (λ k m e. sum_pairs_times m (f k) (λ l j. g l *ℚ h j)))

pub convolve_first : (f g h : ℕ → Fraction) (s : ℕ) → convolve g (convolve f h) s ≡ convolve f (convolve g h) s
convolve_first f g h s = ap (λ t. t s) (sym (convolve_assoc g f h) ∙ ap (λ t. convolve t h) (convolve_comm g f)
    ∙ convolve_assoc f g h)

pub at_zero_convolve : (g : ℕ → Fraction) → convolve at_zero g ≡ g
unfolding at_zero sum_pairs
at_zero_convolve g = fun_ext go
  where
    go : (s : ℕ) → convolve at_zero g s ≡ g s
    go zero = one_times _
    go (suc s) = ap₂ (λ x y. x +ℚ y) (one_times _) (sum_pairs_same s _ _ (λ i j e. zero_times _) ∙ sum_pairs_none s)
        ∙ plus_zero _

pub power_plus : (f : ℕ → Fraction) (n k : ℕ) → power f (n + k) ≡ convolve (power f n) (power f k)
unfolding power
power_plus f zero k = ap (power f) (zero-add k) ∙ sym (at_zero_convolve (power f k))
power_plus f (suc n) k =
    ap (power f) (suc-add n k) ∙ ap (convolve f) (power_plus f n k) ∙ sym (convolve_assoc f (power f n) (power f k))

-- a step of a convolution from the steps of both parts
pub convolve_next : (n : ℕ) (f g a b : ℕ → Fraction) (c : Fraction)
    → ((i : ℕ) → whole (suc i) *ℚ f (suc i) ≡ a i *ℚ f i) → ((j : ℕ) → whole (suc j) *ℚ g (suc j) ≡ b j *ℚ g j)
    → ((i j : ℕ) → i + j ≡ n → a i +ℚ b j ≡ c) → whole (suc n) *ℚ convolve f g (suc n) ≡ c *ℚ convolve f g n
convolve_next n f g a b c left right both = sum_pairs_weighed n (λ i j. f i *ℚ g j)
    ∙ sym (sum_pairs_plus n _ _) ∙ sum_pairs_same n _ (λ i j. c *ℚ (f i *ℚ g j)) (λ i j e. ap₂ (λ s t. s +ℚ t)
    (sym (times_assoc _ _ _) ∙ ap (λ t. t *ℚ g j) (left i)) (times_left_comm _ _ _ ∙ ap (λ t. f i *ℚ t) (right j))
    ∙ (simp ring) ∙ ap (λ t. t *ℚ (f i *ℚ g j)) (both i j e)) ∙ sum_pairs_times n c (λ i j. f i *ℚ g j)

-- ---- s * f s, which goes over a convolution as a derivative does

abbrev tilt : (ℕ → Fraction) → ℕ → Fraction
tilt f s = whole s *ℚ f s

tilt_convolve : (f g : ℕ → Fraction) (s : ℕ) → tilt (convolve f g) s ≡ convolve (tilt f) g s +ℚ convolve f (tilt g) s
tilt_convolve f g s = sym (sum_pairs_times s (whole s) (λ i j. f i *ℚ g j))
    ∙ sum_pairs_same s _ _ (λ i j e. ap (λ t. whole t *ℚ (f i *ℚ g j)) (sym e) ∙ ap (λ t. t *ℚ (f i *ℚ g j))
    (whole_plus i j) ∙ simp ring) ∙ sum_pairs_plus s (λ i j. tilt f i *ℚ g j) (λ i j. f i *ℚ tilt g j)

pub convolve_times : (k : Fraction) (f g : ℕ → Fraction) (s : ℕ) → convolve f (λ i. k *ℚ g i) s ≡ k *ℚ convolve f g s
convolve_times k f g s =
    sum_pairs_same s _ _ (λ i j e. times_left_comm (f i) k (g j)) ∙ sum_pairs_times s k (λ i j. f i *ℚ g j)

pub convolve_scaled : (k : Fraction) (f g : ℕ → Fraction) (s : ℕ) → convolve (λ i. k *ℚ f i) g s ≡ k *ℚ convolve f g s
convolve_scaled k f g s = simp (times_assoc k, sum_pairs_times)

pub tilt_at_zero : (s : ℕ) → whole s *ℚ at_zero s ≡ whole 0
unfolding at_zero
tilt_at_zero zero = zero_times _
tilt_at_zero (suc s) = times_zero _

-- s * c(n + 1, s) = (n + 1) * the sum of j * f j * c(n, k) over j + k = s
pub power_tilt : (f : ℕ → Fraction) (n s : ℕ)
    → whole s *ℚ power f (suc n) s ≡ whole (suc n) *ℚ convolve (λ j. whole j *ℚ f j) (power f n) s
unfolding power
power_tilt f zero s = tilt_convolve f at_zero s ∙ ap₂ (λ x y. x +ℚ y) (sym (one_times _)) (ap (λ g. convolve f g s)
    (fun_ext tilt_at_zero) ∙ sum_pairs_same s _ _ (λ i j e. times_zero _) ∙ sum_pairs_none s) ∙ plus_zero _
power_tilt f (suc n) s =
    let c = power f n in
    let t : ℕ → Fraction = λ j. whole j *ℚ f j in
    tilt_convolve f (power f (suc n)) s
    ∙ ap (λ x. convolve t (convolve f c) s +ℚ x)
    (ap (λ g. convolve f g s) (fun_ext (power_tilt f n))
    ∙ convolve_times (whole (suc n)) f (convolve t c) s
    ∙ ap (λ z. whole (suc n) *ℚ z) (convolve_first t f c s))
    ∙ rw (whole_suc (suc n)) (simp ring)
