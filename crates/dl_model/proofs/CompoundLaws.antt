-- Sums of a number of claims: what they can come to, and that their probabilities add up to 1.
use Rattle.dl_model.proofs.Common.{ℕ, ◌≡◌, ◌+◌, ◌*◌, ◌<◌, ◌≤◌, zero, suc, arith, refl, ap, ap₂, ◌∙◌, inl, inr, le_ind, cases_lt, Fraction, whole, ◌+ℚ◌, ◌*ℚ◌, sum_to, sum_pairs, plus_zero, zero_times, times_zero, times_one, le_trans, le_of_eq, sum_to_same, sum_to_times, sum_to_swap, sum_to_grows, sum_pairs_same, sum_to_zero, sum_to_longer, sum_pairs_none, at_zero, power, cell, IsWithinOne, IsSeverity, order, convolve, mul-le-mul_right}
use Rattle.dl_model.proofs.Cauchy.{cauchy_low, sum_convolve}

pub sum_at_zero : (y : ℕ) → sum_to y at_zero ≡ whole 1
unfolding sum_to at_zero
sum_at_zero zero = refl
sum_at_zero (suc y) = ap (λ t. t +ℚ whole 0) (sum_at_zero y) ∙ plus_zero _

pub power_within_one : (f : ℕ → Fraction) → IsWithinOne f → (n : ℕ) → IsWithinOne (power f n)
unfolding power
power_within_one f h zero y = le_of_eq _ _ (sum_at_zero y)
power_within_one f h (suc n) y = le_trans _ _ _ (cauchy_low y f (power f n))
    (grw (order, h y, power_within_one f h n y) (le_of_eq _ _ (times_one _)))

-- ---- severities whose probabilities add up to 1

pub severity_all : (f : ℕ → Fraction) (m k : ℕ) → IsSeverity f m → m ≤ k → sum_to k f ≡ whole 1
severity_all f m k s h = sum_to_longer m k f h s.past ∙ s.add_up

pub severity_within_one : (f : ℕ → Fraction) (m : ℕ) → IsSeverity f m → IsWithinOne f
severity_within_one f m s n = elim (cases_lt m n) [
  | inl far ↦ le_of_eq _ _ (severity_all f m n s (omega arith))
  | inr near ↦ le_trans _ _ _ (sum_to_grows n m f near) (le_of_eq _ _ s.add_up)
]

-- a convolution of two that have nothing past p and past q
pub convolve_past : (f g : ℕ → Fraction) (p q s : ℕ) → ((i : ℕ) → p < i → f i ≡ whole 0)
    → ((j : ℕ) → q < j → g j ≡ whole 0) → p + q < s → convolve f g s ≡ whole 0
convolve_past f g p q s pf pg h = sum_pairs_same s _ (λ i j. whole 0) (λ i j e. elim (cases_lt p i) [
  | inl far ↦ simp (pf i far, zero_times)
  | inr near ↦ simp (pg j (omega arith), times_zero)
]) ∙ sum_pairs_none s

pub power_past : (f : ℕ → Fraction) (m : ℕ) → ((j : ℕ) → m < j → f j ≡ whole 0) → (n s : ℕ) → n * m < s
    → power f n s ≡ whole 0
unfolding power at_zero
power_past f m past zero zero h = absurd (omega (arith, h))
power_past f m past zero (suc s) h = refl
power_past f m past (suc n) s h = convolve_past f (power f n) m (n * m) s past (power_past f m past n) (omega arith)

-- n claims of such a severity have such a severity again
pub power_severity : (f : ℕ → Fraction) (m : ℕ) → IsSeverity f m → (n : ℕ) → IsSeverity (power f n) (n * m)
unfolding power
power_severity f m s zero = record { add_up = sum_at_zero _; past = power_past f m s.past zero }
power_severity f m s (suc n) =
    let rest = power_severity f m s n in record {
      add_up = sum_convolve f (power f n) m (n * m) (suc n * m) s.past rest.past (omega arith)
          ∙ rw (s.add_up, rest.add_up) (times_one _);
      past = power_past f m s.past (suc n);
    }

-- ---- cells

-- at most N claims come to at most N * m
pub cell_past : (w f : ℕ → Fraction) (m : ℕ) → ((j : ℕ) → m < j → f j ≡ whole 0) → (s N : ℕ) → N * m < s
    → cell w f s N ≡ whole 0
cell_past w f m past s N h = sum_to_zero N _ (λ n b.
    let most : n * m ≤ N * m = mul-le-mul_right m b in
    ap (λ t. w n *ℚ t) (power_past f m past n s (omega arith)) ∙ times_zero _)

-- all cells together are the weights together
pub cells_all : (w f : ℕ → Fraction) (m : ℕ) → IsSeverity f m → (N k : ℕ) → N * m ≤ k
    → sum_to k (λ s. cell w f s N) ≡ sum_to N w
cells_all w f m s N k h =
    sum_to_swap k N (λ s n. w n *ℚ power f n s)
    ∙ sum_to_same N _ _ (λ n b.
    let most : n * m ≤ N * m = mul-le-mul_right m b in
    sum_to_times k (w n) (power f n) ∙ ap (λ t. w n *ℚ t)
    (severity_all (power f n) (n * m) k (power_severity f m s n) (omega arith)) ∙ times_one _)

-- ---- no amount 0

-- with no amount 0, n claims come to at least n
pub no_power : (f : ℕ → Fraction) → f zero ≡ whole 0 → (n s : ℕ) → s < n → power f n s ≡ whole 0
unfolding power sum_pairs
no_power f z zero s h = absurd (omega arith)
no_power f z (suc n) zero h = ap (λ t. t *ℚ power f n zero) z ∙ zero_times _
no_power f z (suc n) (suc s) h = ap₂ (λ x y. x +ℚ y) (simp (z, zero_times)) (sum_pairs_same s _ (λ i j. whole 0)
    (λ i j e. simp (no_power f z n j (omega arith), times_zero)) ∙ sum_pairs_none s) ∙ plus_zero _

-- from N = y on the cell at y does not change
pub cell_stays : (w f : ℕ → Fraction) → f zero ≡ whole 0 → (y N : ℕ) → y ≤ N → cell w f y N ≡ cell w f y y
unfolding sum_to
cell_stays w f z y N h = le_ind (λ k. cell w f y k ≡ cell w f y y) refl
    (λ k b e. ap₂ (λ s t. s +ℚ t) e (ap (λ t. w (suc k) *ℚ t) (no_power f z (suc k) y (omega arith)) ∙ times_zero _)
    ∙ plus_zero _) N h
