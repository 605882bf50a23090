-- Expected claim counts. Amounts of money are over the bucket size bs.
use Rattle.std.specs.Prelude.{◌&&◌, nat_lt, Bool, true, false, if◌then◌else◌, Option, Some, None}
use Rattle.dl_exact.specs.Fraction.{Fraction, whole, ◌-ℚ◌, ◌*ℚ◌, ◌/ℚ◌}
use Rattle.dl_limits.specs.Limits.{frac_bound}
use Rattle.dl_limits.specs.declared.rules.Bounds.{Bounds}
use Rattle.dl_plan.specs.Severity.{Pairs, probability, mean_amount}
use Rattle.dl_plan.specs.Ranges.{IsBucket}
use Rattle.dl_reading.specs.declared.grid.GridExposure.{GridExposure}
use Rattle.dl_reading.specs.declared.grid.GridExposure.TheVariants.{Claims, Loss, Premium}
use Rattle.dl_reading.specs.declared.grid.GridFreq.{GridFreq}
use Rattle.dl_reading.specs.declared.grid.GridFreq.TheVariants.{Poisson, Gamma}
use Rattle.dl_reading.specs.declared.grid.GridCount.{GridCount}
use Rattle.dl_reading.specs.declared.grid.GridCount.TheVariants.{Exposed, Listed}
use Rattle.dl_reading.specs.Prelude.{IsGridUnit, is_admitted, severity_in_layer, has_severity}
use Rattle.dl_reading.specs.declared.grid.GridUnit.{GridUnit}

-- a unit on a grid with this bucket
pub record IsUnitOn (bs : Fraction) (u : GridUnit) : Type 0 where
  pub bucket : IsBucket bs
  pub grid : IsGridUnit u

-- the expected severity in money, after the layer and before the occurrence clause
abbrev pub mean_in_money : Fraction → GridUnit → Fraction
mean_in_money bs u = mean_amount (severity_in_layer u) *ℚ bs

-- the expected loss, where the exposure is one
abbrev pub expected_loss : GridExposure → Option Fraction
expected_loss (Claims n _) = None
expected_loss (Loss n _) = Some n
expected_loss (Premium p r _) = Some (p *ℚ r)

-- the expected count: the claims, or the expected loss over the expected severity
abbrev pub expected_count : Fraction → GridUnit → GridExposure → Fraction
expected_count bs u (Claims n _) = n
expected_count bs u (Loss n _) = n /ℚ mean_in_money bs u
expected_count bs u (Premium p r _) = p *ℚ r /ℚ mean_in_money bs u

-- the expected count is there: a loss or a premium needs the severity
abbrev pub has_count : Bounds → GridUnit → GridExposure → Bool
has_count bounds u (Claims n _) = true
has_count bounds u (Loss n _) = has_severity bounds u.sev
has_count bounds u (Premium p r _) = has_severity bounds u.sev

-- a number, where it is there and both parts of it are below 2^48
abbrev pub admitted : Bool → Fraction → Option Fraction
admitted has x = if has && is_admitted x then Some x else None

-- the expected count of an exposure, where it is there and admitted
abbrev pub exposed_claims : Bounds → Fraction → GridUnit → GridExposure → Option Fraction
exposed_claims bounds bs u exposure =
    admitted (has_count bounds u exposure) (expected_count bs u exposure)

-- and that of the unit, where it lists no counts
abbrev pub claims_of : Bounds → Fraction → GridUnit → GridCount → Option Fraction
claims_of bounds bs u (Exposed exposure freq) = exposed_claims bounds bs u exposure
claims_of bounds bs u (Listed counts probs) = None

unfoldable pub expected_claims : Bounds → Fraction → GridUnit → Option Fraction
expected_claims bounds bs u = claims_of bounds bs u u.count

-- a Poisson or a gamma count: there is no greatest number of claims
abbrev pub is_unbounded : GridFreq → Bool
is_unbounded (Poisson _) = true
is_unbounded (Gamma c _) = true
is_unbounded _ = false

-- the expected number of claims above 0: the expected claims times the probability that one is
-- above 0
abbrev pub thinned : Pairs → Fraction → Fraction
thinned severity n = n *ℚ (whole 1 -ℚ probability severity 0)

-- where both are there and admitted
abbrev pub claims_above_zero : Pairs → Option Fraction → Option Fraction
claims_above_zero severity None = None
claims_above_zero severity (Some n) = admitted true (thinned severity n)

-- a number that is there passes a test
abbrev pub is_there_and : (Fraction → Bool) → Option Fraction → Bool
is_there_and test None = false
is_there_and test (Some n) = test n

-- both parts of a number are below 2^62
abbrev pub is_held : Fraction → Bool
is_held x = nat_lt x.num frac_bound && nat_lt x.den frac_bound

-- the shape of a gamma factor with this coefficient of variation
abbrev pub shape_of : Fraction → Fraction
shape_of c = whole 1 /ℚ (c *ℚ c)
