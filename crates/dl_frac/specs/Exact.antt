-- Which fractions a `Frac` holds, and the result of a call on one.
use Rattle.std.specs.Prelude.{◌≡◌, ◌⊎◌, ◌<◌, ◌≤◌, Result, MatchResult}
use Rattle.dl_limits.specs.Limits.{frac_bound}
use Rattle.dl_exact.specs.Fraction.{Fraction}

-- both parts are below 2^62
pub record FitsFrac (x : Fraction) : Type 0 where
  pub num : x.num < frac_bound
  pub den : x.den < frac_bound

-- a part is 2^62 or more
abbrev pub IsTooFine : Fraction → Type 0
IsTooFine x = (frac_bound ≤ x.num) ⊎ (frac_bound ≤ x.den)

-- the result is x itself where it fits, and an error where x is too fine
abbrev pub Gives : {E : Type 0} → Result Fraction E → Fraction → Type 0
Gives result x = MatchResult result (λ answer. (answer ≡ x) × FitsFrac x) (λ _. IsTooFine x)
