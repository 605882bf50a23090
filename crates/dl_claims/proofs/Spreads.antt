-- How the width rule bounds the spread of each step.
use Rattle.dl_claims.proofs.Common.{ℕ, suc, ◌≡◌, ◌+◌, ◌*◌, ◌<◌, ◌≤◌, arith, ap, mixed_spread, convolution_spread, power_spread, cv_rises, pw_even, pw_odd, List, Iv, spread, IfOk-weaker, Result, IfOk}

-- a square, and a square with one more
pub squared_width : (S k b m n x y : ℕ) → 0 < S → 1 ≤ m → m + m ≡ n → x ≤ convolution_spread S k y y → y ≤ power_spread S k b m → x ≤ power_spread S k b n
squared_width S k b m n x y pos some e h half =
    omega (
      arith,
      h,
      cv_rises S k k y (power_spread S k b m) y (power_spread S k b m) pos (omega arith) half half,
      pw_even S k b m some,
      ap (λ t. power_spread S k b t) (double m n e),
    )
  where
    double : (m n : ℕ) → m + m ≡ n → 2 * m ≡ n
    double m n e = omega arith

pub one_more_width : (S k b m n x y : ℕ) → 0 < S → 1 ≤ m → m + m + 1 ≡ n → x ≤ convolution_spread S k y b → y ≤ power_spread S k b (m + m)
    → x ≤ power_spread S k b n
one_more_width S k b m n x y pos some e h even =
    omega (
      arith,
      h,
      cv_rises S k k y (power_spread S k b (m + m)) b b pos (omega arith) even (omega arith),
      pw_odd S k b m some,
      ap (λ t. power_spread S k b t) (same m n e),
      ap (λ t. convolution_spread S k (power_spread S k b t) b) (double m),
    )
  where
    same : (m n : ℕ) → m + m + 1 ≡ n → 2 * m + 1 ≡ n
    same m n e = omega arith

    double : (m : ℕ) → 2 * m ≡ m + m
    double m = omega arith

pub mixed_more : (S k b c x y more : ℕ) → 0 < S → x ≤ convolution_spread S k b y + more → more ≤ 1 → y ≤ mixed_spread S k b c
    → x ≤ mixed_spread S k b (suc c)
unfolding mixed_spread
mixed_more S k b c x y more pos h small before =
    omega (arith, h, cv_rises S k k b b y (mixed_spread S k b c) pos (omega arith) (omega arith) before)
