-- The weights of claim counts. Those of Poisson and gamma counts are the probabilities without
-- their constant factor (Klugman, Panjer and Willmot, Loss Models, "The (a, b, 0) class"); the
-- others are probabilities.
use Rattle.std.specs.Prelude.{ℕ, zero, suc, ◌≡◌, ◌-◌, ◌*◌, ◌^◌, nat_eq}
use Rattle.dl_exact.specs.Prelude.{Fraction, whole, ◌over◌, ◌+ℚ◌, ◌*ℚ◌, ◌/ℚ◌, ◌<ℚ◌, ◌^ℚ◌, factorial, choose, sum_to}
use Rattle.dl_model.specs.Series.{IsBound, Settles}
use Rattle.dl_model.specs.Program.{where_true}

-- a fixed count: exactly m claims
abbrev pub fixed : ℕ → ℕ → Fraction
fixed m n = where_true (nat_eq n m) (whole 1)

-- the binomial count: m trials, each a claim with probability a / b; C(m, n) * a^n * (b - a)^(m -
-- n) / b^m, and 0 above m
abbrev pub binomial : ℕ → ℕ → ℕ → ℕ → Fraction
binomial m a b n = (choose m n * a ^ n * (b - a) ^ (m - n)) over (b ^ m)

-- the Poisson count of mean v = a / b: a^n / (b^n * n!)
unfoldable pub poisson : Fraction → ℕ → Fraction
poisson v n = (v.num ^ n) over (v.den ^ n * factorial n)

-- f 0 * f 1 * .. * f (n - 1), and 1 for n = 0
unfoldable pub product_below : ℕ → (ℕ → Fraction) → Fraction
product_below zero f = whole 1
product_below (suc n) f = product_below n f *ℚ f n

-- the gamma count of shape r (a negative binomial count, a Poisson count whose mean is mixed by a
-- gamma), where x is v / (r + v) for the mean v: the product of (r + i) / (i + 1) over the i below
-- n, times x^n
unfoldable pub gamma : Fraction → Fraction → ℕ → Fraction
gamma r x n = product_below n (λ i. (r +ℚ whole i) /ℚ whole (suc i)) *ℚ x ^ℚ n

-- the same by shape r and mean v
abbrev pub gamma_of : Fraction → Fraction → ℕ → Fraction
gamma_of r v = gamma r (v /ℚ (r +ℚ v))

-- w are the weights of a count of the class (a, b, 0), by a and c = a + b, which is not negative
-- where b is: 1 at 0, and (n + 1) * w (n + 1) = (a * n + c) * w n
pub record IsPanjer (a c : Fraction) (w : ℕ → Fraction) : Type 0 where
  pub start : w zero ≡ whole 1
  pub next : (n : ℕ) → whole (suc n) *ℚ w (suc n) ≡ (a *ℚ whole n +ℚ c) *ℚ w n

-- Count weights that can be declared: their sums, and those of each number times its weight, are
-- bounded; some sum is above 0; and the sums come near their least upper bound.
pub record AreCountWeights (w : ℕ → Fraction) : Type 0 where
  pub bound : Fraction
  pub bounded : IsBound (λ N. sum_to N w) bound
  pub mean_bound : Fraction
  pub mean_bounded : IsBound (λ N. sum_to N (λ n. whole n *ℚ w n)) mean_bound
  pub level : ℕ
  pub positive : whole 0 <ℚ sum_to level w
  pub settles : Settles (λ N. sum_to N w)
