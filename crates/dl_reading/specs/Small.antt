-- The bounds of a unit's numbers: small parts, and lists of some values, but not too many.
use Rattle.std.specs.Prelude.{◌≡◌, ◌<◌, ◌≤◌, ⊤, length, All, IfSome}
use Rattle.dl_limits.specs.Limits.{most_values, numeral_bound}
use Rattle.dl_exact.specs.Fraction.{Fraction}
use Rattle.dl_severity.specs.Buckets.{HasPartsOf18Digits}
use Rattle.dl_reading.specs.declared.grid.ValueList.{ValueList}
use Rattle.dl_reading.specs.declared.grid.Shares.{Shares}
use Rattle.dl_reading.specs.Lists.{weights_over}
use Rattle.dl_reading.specs.declared.grid.GridExposure.{GridExposure}
use Rattle.dl_reading.specs.declared.grid.GridExposure.TheVariants.{Claims, Loss, Premium}
use Rattle.dl_reading.specs.declared.grid.GridFreq.{GridFreq}
use Rattle.dl_reading.specs.declared.grid.GridFreq.TheVariants.{Fixed, Poisson, Bernoulli, Binomial, Gamma}
use Rattle.dl_reading.specs.declared.grid.GridCount.{GridCount}
use Rattle.dl_reading.specs.declared.grid.GridCount.TheVariants.{Exposed, Listed}

-- both parts have at most as much as 11 digits write
pub record IsSmall (x : Fraction) : Type 0 where
  pub num : x.num < numeral_bound
  pub den : x.den ≤ numeral_bound

-- 1 to 65,536 values
pub record IsValueList (l : ValueList) : Type 0 where
  pub some : 0 < length l.values
  pub few : length l.values ≤ most_values
  pub modest : All HasPartsOf18Digits l.values

-- it has its weights
pub record IsShares (l : Shares) : Type 0 where
  pub weights : l.weights ≡ weights_over l.values

abbrev pub IsGridExposure : GridExposure → Type 0
IsGridExposure (Claims x _) = IsSmall x
IsGridExposure (Loss x _) = IsSmall x
IsGridExposure (Premium p r _) = IsSmall p × IsSmall r

abbrev pub IsGridFreq : GridFreq → Type 0
IsGridFreq (Fixed _) = ⊤
IsGridFreq (Poisson _) = ⊤
IsGridFreq (Bernoulli _) = ⊤
IsGridFreq (Binomial x _) = IsSmall x
IsGridFreq (Gamma x _) = IsSmall x

abbrev pub IsGridCount : GridCount → Type 0
IsGridCount (Exposed exposure freq) = IsGridExposure exposure × IsGridFreq freq
IsGridCount (Listed counts probs) = IsValueList counts × IfSome probs IsShares
