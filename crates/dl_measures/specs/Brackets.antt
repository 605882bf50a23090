-- Where a distribution first reaches a probability.
use Rattle.std.specs.Prelude.{ℕ, ◌<◌, ◌≤◌, Option}
use Rattle.std.specs.Option.{MatchOption}
use Rattle.dl_exact.specs.Fraction.{Fraction, ◌≤ℚ◌, ◌<ℚ◌}

-- x is the first number below n at which f is at least p, and n where there is none
pub record IsFirstAtLeast (f : ℕ → Fraction) (p : Fraction) (n x : ℕ) : Type 0 where
  pub within : x ≤ n
  pub before : (y : ℕ) → y < x → f y <ℚ p
  pub reached : x < n → p ≤ℚ f x

-- the number that was found is the first, and none was found exactly where there is none
abbrev pub IsFirstFound : (ℕ → Fraction) → Fraction → ℕ → Option ℕ → Type 0
IsFirstFound f p n found = MatchOption found (IsFirstAtLeast f p n n)
    (λ x. (x < n) × IsFirstAtLeast f p n x)
