-- One unit in the place of all units of a plan under a common factor (Loss Models, "Mixed frequency
-- distributions": Poisson counts with one gamma mean are a negative binomial count), and in the
-- place of independent Poisson units.
use Rattle.std.specs.Prelude.{ℕ, ◌≡◌, ◌≤◌, None, List, [], ◌∷◌, length, map, take, flat_map, get_or}
use Rattle.std.specs.Borrow.{Bor}
use Rattle.dl_limits.specs.Limits.{most_expected}
use Rattle.dl_exact.specs.Prelude.{Fraction, whole, ◌+ℚ◌, ◌≤ℚ◌, ◌<ℚ◌}
use Rattle.dl_plan.specs.declared.plan.Freq.{Freq}
use Rattle.dl_plan.specs.declared.plan.Freq.TheVariants.{Gamma}
use Rattle.dl_plan.specs.declared.plan.Unit.{Unit as UnitOfPlan}
use Rattle.dl_plan.specs.declared.plan.Plan.{Plan}
use Rattle.dl_plan.specs.Prelude.{IsFineTo30Bits, HasPartsOf48Bits, probability_of, expected_of, raised, shared_probabilities, thinned_of, unit_share}
use Rattle.dl_model.specs.Prelude.{pooled_severity, poisson_units}

-- the units that are lent
abbrev pub lent : List (Bor UnitOfPlan) → List UnitOfPlan
lent units = map (λ unit. unit.now) units

-- a unit with this claim count, whose severity mixes those of the units by their expected counts; it has
-- the first unit's name, and neither an aggregate clause nor a changed probability of no claim
pub record IsMixedOf (units : List UnitOfPlan) (freq : Freq) (made : UnitOfPlan) : Type 0 where
  pub name : (default : UnitOfPlan) → made.name ≡ (get_or units 0 default).name
  pub count : made.freq ≡ freq
  pub severity : (x : ℕ) → probability_of made.sev x ≡ pooled_severity (poisson_units units) x
  pub clause : made.cede ≡ None
  pub zero : made.zero ≡ None

-- what units keep whose sum is that of one valid Poisson unit: the claims of all have a mean above
-- 0; the expected counts of the first k units add up to admitted sums, and so do the thinned means of
-- all, to at most 4,096; and the shares of the units, and these times the probabilities of amounts,
-- are fine to 30 bits
pub record HavePoissonSum (units : List UnitOfPlan) : Type 0 where
  pub some : whole 0 <ℚ expected_of units
  pub expected : (k : ℕ) → 1 ≤ k → k ≤ length units
      → HasPartsOf48Bits (expected_of (take k units))
  pub thinned : HasPartsOf48Bits (thinned_of units)
  pub few : thinned_of units ≤ℚ whole most_expected
  pub shares : IsFineTo30Bits (map (unit_share (expected_of units)) units)
  pub products : IsFineTo30Bits (flat_map (shared_probabilities (expected_of units)) units)

-- the one unit for units under a factor of shape r: its mean is the expected number of all claims
abbrev pub IsPooled : Fraction → List UnitOfPlan → UnitOfPlan → Type 0
IsPooled r units made = IsMixedOf units (Gamma r (expected_of units)) made

-- the same with one more in the shape and the mean v * (r + 1) / r
abbrev pub IsRaised : Fraction → List UnitOfPlan → UnitOfPlan → Type 0
IsRaised r units made = IsMixedOf units (Gamma (r +ℚ whole 1) (raised r (expected_of units))) made

-- the plan of one unit, on the grid of another plan
abbrev pub alone : Plan → UnitOfPlan → Plan
alone plan unit = record {
  bs = plan.bs;
  cells = plan.cells;
  units = unit ∷ [];
  common = None;
}
