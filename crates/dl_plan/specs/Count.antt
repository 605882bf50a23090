-- Claim counts.
use Rattle.std.specs.Prelude.{◌≤◌, ⊤, All}
use Rattle.dl_limits.specs.Limits.{most_beta, most_claims, most_count, most_shape}
use Rattle.dl_exact.specs.Fraction.{Fraction, whole, ◌over◌, ◌*ℚ◌, ◌/ℚ◌, ◌≤ℚ◌, ◌<ℚ◌}
use Rattle.dl_frac.specs.Exact.{FitsFrac}
use Rattle.dl_plan.specs.declared.plan.Freq.{Freq}
use Rattle.dl_plan.specs.declared.plan.Freq.TheVariants.{Fixed, Table, Bernoulli, Binomial, Poisson, Gamma}
use Rattle.dl_plan.specs.Fine.{HasPartsOf48Bits}
use Rattle.dl_plan.specs.Weighted.{IsWeighted, weighted_sum}

-- the expected number of claims
abbrev pub expected_count : Freq → Fraction
expected_count (Fixed m) = whole m
expected_count (Table counts total) = weighted_sum counts over total
expected_count (Bernoulli q) = q
expected_count (Binomial trials q) = whole trials *ℚ q
expected_count (Poisson mean) = mean
expected_count (Gamma shape mean) = mean

-- a Poisson or a gamma count: there is no greatest number of claims
abbrev pub IsUnbounded : Freq → Type 0
IsUnbounded (Poisson mean) = ⊤
IsUnbounded (Gamma shape mean) = ⊤
IsUnbounded freq = ⊥

-- not a listed count: its expected number of claims was exposed
abbrev pub IsExposed : Freq → Type 0
IsExposed (Table counts total) = ⊥
IsExposed freq = ⊤

-- at most 1, with both parts below 2^48
pub record IsProbability (q : Fraction) : Type 0 where
  pub within : q ≤ℚ whole 1
  pub admitted : HasPartsOf48Bits q

-- the shape of a gamma factor: above 0 and at most 10,000, with both parts below 2^48
pub record IsShape (r : Fraction) : Type 0 where
  pub above : whole 0 <ℚ r
  pub few : r ≤ℚ whole most_shape
  pub admitted : HasPartsOf48Bits r

-- a gamma count of shape r and mean v, which adds up r geometric counts of mean v / r where r is
-- whole: that is held
pub record IsGammaCount (r v : Fraction) : Type 0 where
  pub shape : IsShape r
  pub beta : FitsFrac (v /ℚ r)

-- the same of v expected claims above 0, where v / r is at most 32,768
pub record IsThinnedGamma (r v : Fraction) : Type 0 where
  pub beta : FitsFrac (v /ℚ r)
  pub few : v /ℚ r ≤ℚ whole most_beta

-- v claims above 0 are expected of this count
abbrev pub IsThinnedTo : Freq → Fraction → Type 0
IsThinnedTo (Gamma shape mean) v = IsThinnedGamma shape v
IsThinnedTo freq v = ⊤

-- a listed count is like a severity, with numbers of at most 256; fixed counts and trials are
-- at most 65,536; a shape is above 0 and at most 10,000
abbrev pub IsClaimCount : Freq → Type 0
IsClaimCount (Fixed m) = m ≤ most_claims
IsClaimCount (Table counts total) = IsWeighted counts total
    × All (λ item. item.amount ≤ most_count) counts
IsClaimCount (Bernoulli q) = IsProbability q
IsClaimCount (Binomial trials q) = (trials ≤ most_claims) × IsProbability q
IsClaimCount (Poisson mean) = ⊤
IsClaimCount (Gamma shape mean) = IsGammaCount shape mean
