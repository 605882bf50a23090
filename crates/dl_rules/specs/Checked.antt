-- The properties of a unit that keeps the rules so far: later steps rest on them.
use Rattle.std.specs.Prelude.{◌≡◌, ◌≤◌, ⊤, Option, true, false, IsSomeAnd}
use Rattle.dl_limits.specs.Limits.{most_claims, most_log2}
use Rattle.dl_exact.specs.Fraction.{Fraction, whole, ◌/ℚ◌, ◌<ℚ◌}
use Rattle.dl_plan.specs.declared.settings.Settings.{Settings}
use Rattle.dl_plan.specs.Prelude.{HasPartsOf48Bits, IsBucket, IsGammaCount}
use Rattle.dl_reading.specs.declared.grid.GridFreq.{GridFreq}
use Rattle.dl_reading.specs.declared.grid.GridFreq.TheVariants.{Fixed, Poisson, Bernoulli, Binomial, Gamma}
use Rattle.dl_reading.specs.declared.grid.GridCount.{GridCount}
use Rattle.dl_reading.specs.declared.grid.GridCount.TheVariants.{Exposed, Listed}
use Rattle.dl_reading.specs.Prelude.{IsGridFreq, is_admitted, is_whole, is_zero, is_above}
use Rattle.dl_rules.specs.Exposures.{shape_of}
use Rattle.dl_rules.specs.Listed.{AreCounts}
use Rattle.dl_rules.specs.Rules.{passes}

-- the settings as the command line gives them: a bucket size, and from 2 to 65,536 cells
pub record IsSet (settings : Settings) : Type 0 where
  pub bucket : IsBucket settings.bs
  pub some : 1 ≤ settings.log2
  pub few : settings.log2 ≤ most_log2

-- n claims are expected of trials with the probability p
pub record AreTrials (p n : Fraction) : Type 0 where
  pub above : whole 0 <ℚ p
  pub within : is_above p (whole 1) ≡ false
  pub whole : is_whole (n /ℚ p) ≡ true

-- a gamma factor with this coefficient of variation has a shape, which is whole where it is not
-- admitted
pub record IsShaped (c : Fraction) : Type 0 where
  pub above : is_zero c ≡ false
  pub whole : is_admitted (shape_of c) ≡ false → is_whole (shape_of c) ≡ true

-- with n claims expected, what has to be whole is, a probability is at most 1, and a shape is there
abbrev pub IsWholeFreq : GridFreq → Fraction → Type 0
IsWholeFreq (Fixed _) n = is_whole n ≡ true
IsWholeFreq (Poisson _) n = ⊤
IsWholeFreq (Bernoulli _) n = is_above n (whole 1) ≡ false
IsWholeFreq (Binomial p _) n = AreTrials p n
IsWholeFreq (Gamma c _) n = IsShaped c

-- and what has to be small is
abbrev pub IsSmallFreq : GridFreq → Fraction → Type 0
IsSmallFreq (Fixed _) n = passes n most_claims ≡ false
IsSmallFreq (Poisson _) n = ⊤
IsSmallFreq (Bernoulli _) n = ⊤
IsSmallFreq (Binomial p _) n = passes (n /ℚ p) most_claims ≡ false
IsSmallFreq (Gamma c _) n = IsGammaCount (shape_of c) n

-- a distribution that breaks no rule, with n claims expected
pub record IsFreqChecked (freq : GridFreq) (n : Fraction) : Type 0 where
  pub read : IsGridFreq freq
  pub whole : IsWholeFreq freq n
  pub few : IsSmallFreq freq n
  pub admitted : HasPartsOf48Bits n

-- a count whose number is there, and of which as much is whole as has to be
abbrev pub IsWholeCount : GridCount → Option Fraction → Type 0
IsWholeCount (Exposed exposure freq) n = IsSomeAnd n (IsWholeFreq freq)
IsWholeCount (Listed counts probs) n = ⊤

-- a count that breaks no rule
abbrev pub IsCountChecked : GridCount → Option Fraction → Type 0
IsCountChecked (Exposed exposure freq) n = IsSomeAnd n (IsFreqChecked freq)
IsCountChecked (Listed counts probs) n = AreCounts counts probs
