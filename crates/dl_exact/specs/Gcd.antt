-- The greatest common divisor of two numbers, by Euclid's steps.
use Rattle.std.specs.Prelude.{ℕ, zero, suc, ◌%◌}

-- Euclid's steps, at most k of them
unfoldable pub euclid : ℕ → ℕ → ℕ → ℕ
euclid zero a b = a
euclid (suc k) a zero = a
euclid (suc k) a (suc b) = euclid k (suc b) (a % suc b)

-- the greatest common divisor: the second number falls at each step
unfoldable pub gcd : ℕ → ℕ → ℕ
gcd a b = euclid (suc b) a b
