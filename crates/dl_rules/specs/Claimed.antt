-- The claims of a unit: its final severity, and how many claims are expected.
use Rattle.std.specs.Prelude.{ℕ, ◌≡◌, ◌≤◌, ⊤, true, false, length, All, Option, Some, None}
use Rattle.std.specs.Option.{MatchOption}
use Rattle.dl_limits.specs.Limits.{most_items}
use Rattle.dl_limits.specs.declared.rules.Bounds.{Bounds}
use Rattle.dl_plan.specs.declared.severity.Sev.{Sev}
use Rattle.dl_plan.specs.Severity.{HasDistribution}
use Rattle.dl_exact.specs.Fraction.{Fraction}
use Rattle.dl_reading.specs.declared.grid.GridCount.{GridCount}
use Rattle.dl_reading.specs.declared.grid.GridCount.TheVariants.{Exposed, Listed}
use Rattle.dl_reading.specs.declared.grid.GridUnit.{GridUnit}
use Rattle.dl_reading.specs.Prelude.{IsSevWithin, final_severity, fractions_too_fine}
use Rattle.dl_rules.specs.declared.claims.Claims.{Claims}
use Rattle.dl_rules.specs.declared.claims.UnitCount.{UnitCount}
use Rattle.dl_rules.specs.declared.claims.UnitCount.TheVariants as counts
use Rattle.dl_rules.specs.Exposures.{claims_above_zero}

-- the final severity of a unit: at most 65,536 amounts, none above what bounds those of the atoms
pub record IsFinal (u : GridUnit) (sev : Sev) : Type 0 where
  pub means : HasDistribution sev (final_severity u)
  pub near : (most : ℕ) → IsSevWithin most u.sev → All (λ item. item.amount ≤ most) sev.items
  pub few : length sev.items ≤ most_items

-- it is that severity, where the fractions of the unit are fine, apart from those of its
-- exposure
abbrev pub IsFineSeverity : Bounds → GridUnit → Option Sev → Type 0
IsFineSeverity bounds u made = MatchOption made (fractions_too_fine bounds u ≡ true)
    (λ sev. (fractions_too_fine bounds u ≡ false) × IsFinal u sev)

-- a count, and the number of claims that are expected where it does not list them
abbrev pub count_of : UnitCount → GridCount
count_of (counts.Listed values probs) = Listed values.now probs.now
count_of (counts.Exposed exposure freq n) = Exposed exposure freq

abbrev pub number_of : UnitCount → Option Fraction
number_of (counts.Listed values probs) = None
number_of (counts.Exposed exposure freq n) = Some n

-- the expected number of claims of the count; none of listed counts
abbrev pub IsNumberOf : GridCount → Option Fraction → Type 0
IsNumberOf (Exposed exposure freq) n = ⊤
IsNumberOf (Listed values probs) n = n ≡ None

-- this count, with n claims expected
pub record IsUnitCount (count : GridCount) (n : Option Fraction) (made : UnitCount) : Type 0
  where
    pub same : count_of made ≡ count
    pub number : number_of made ≡ n

-- the final severity, and of the expected claims those above 0
pub record AreClaims (u : GridUnit) (claims : Claims) : Type 0 where
  pub severity : IsFinal u claims.severity
  pub above : claims.above ≡ claims_above_zero (final_severity u) (number_of claims.count)
