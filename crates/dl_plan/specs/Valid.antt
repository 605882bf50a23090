-- What a valid plan is.
use Rattle.std.specs.Prelude.{ℕ, ⊤, ◌≡◌, ◌≢◌, ◌*◌, ◌<◌, ◌≤◌, ◌^◌, None, IfSome, [], length, All, AllPairs}
use Rattle.dl_limits.specs.Limits.{most_amount_at, most_expected, most_horizon, most_items, most_changed, most_log2, most_total_at, most_units, rarest_claims, zero_bound}
use Rattle.dl_exact.specs.Fraction.{Fraction, whole, ◌over◌, ◌+ℚ◌, ◌*ℚ◌, ◌/ℚ◌, ◌≤ℚ◌, ◌<ℚ◌}
use Rattle.dl_plan.specs.declared.cede.CedeLayer.{CedeLayer}
use Rattle.dl_plan.specs.declared.severity.Sev.{Sev}
use Rattle.dl_plan.specs.declared.plan.Freq.{Freq}
use Rattle.dl_plan.specs.declared.plan.Freq.TheVariants.{Gamma}
use Rattle.dl_plan.specs.declared.plan.Unit.{Unit as UnitOfPlan}
use Rattle.dl_plan.specs.declared.plan.Plan.{Plan}
use Rattle.dl_plan.specs.Fine.{HasPartsOf48Bits, IsWhole}
use Rattle.dl_plan.specs.Weighted.{common_amount}
use Rattle.dl_plan.specs.Clause.{Clause, kept, IsClause}
use Rattle.dl_plan.specs.Horizon.{IsHorizon}
use Rattle.dl_plan.specs.Count.{expected_count, IsUnbounded, IsExposed, IsClaimCount, IsThinnedTo}
use Rattle.dl_plan.specs.Means.{thinned_mean}
use Rattle.dl_plan.specs.Common.{HasCommonFactor}
use Rattle.dl_plan.specs.Size.{changed_units, whole_means}

-- a unit of this count and severity alone: no clause, and no change of its probability of no claim
abbrev pub claims_alone : Freq → Sev → UnitOfPlan
claims_alone freq sev =
    record { name = []; sev = sev; freq = freq; cede = None; zero = None }

-- of a gamma count of a shape r below 1 and mean v, the weight of one claim, r * v / (r + v) where
-- that of none is 1, is at least 1/16
abbrev pub IsSomeClaim : Freq → Type 0
IsSomeClaim (Gamma r v) = r <ℚ whole 1 → 1 over rarest_claims ≤ℚ r *ℚ (v /ℚ (r +ℚ v))
IsSomeClaim freq = ⊤

-- p can be the probability of no claim in place of that of the count: it is below 1, with both
-- parts below 2^37; and before the change from 1/16 to 4,096 claims are expected, by a count that
-- is not listed and does not weigh one claim too little
pub record IsNewZero (freq : Freq) (p : Fraction) : Type 0 where
  pub below : p <ℚ whole 1
  pub num : p.num < zero_bound
  pub den : p.den < zero_bound
  pub least : 1 over rarest_claims ≤ℚ expected_count freq
  pub most : expected_count freq ≤ℚ whole most_expected
  pub exposed : IsExposed freq
  pub some : IsSomeClaim freq

-- limit and attachment are at most 2^20 buckets where the grid has up to 4,096 cells, else 2^22
pub record IsWithinMostAmount (cells : ℕ) (l : CedeLayer) : Type 0 where
  pub limit : IfSome l.limit (λ limit. limit ≤ most_amount_at cells)
  pub attach : l.attach ≤ most_amount_at cells

-- an aggregate clause over sums of this severity: it maps each multiple of the greatest common
-- divisor of the amounts to a whole number, and its horizon is at most 16,384 where the grid has up
-- to 4,096 cells, else 65,536
pub record IsAggregate (cells : ℕ) (sev : Sev) (clause : Clause) : Type 0 where
  pub accepted : IsClause clause
  pub near : All (IsWithinMostAmount cells) clause.1
  pub whole : (n : ℕ) → IsWhole (kept clause (n * common_amount sev.items))
  pub horizon : (k : ℕ) × IsHorizon clause cells k × (k ≤ most_horizon cells)

-- a unit of a valid plan with a grid of so many cells
pub record IsValidUnit (cells : ℕ) (u : UnitOfPlan) : Type 0 where
  pub amounts : All (λ item. item.amount ≤ most_amount_at cells) u.sev.items
  pub items : ¬ IsUnbounded u.freq → length u.sev.items ≤ most_items
  pub count : IsClaimCount u.freq
  pub expected : HasPartsOf48Bits (expected_count u.freq)
  pub thinned : IsUnbounded u.freq → HasPartsOf48Bits (thinned_mean u)
      × (thinned_mean u ≤ℚ whole most_expected)
  pub thinned_count : IsThinnedTo u.freq (thinned_mean u)
  pub clause : IfSome u.cede (IsAggregate cells u.sev)
  pub zero : IfSome u.zero (IsNewZero u.freq)

-- a bucket size above 0, a power of two from 2 to 65,536 cells, and 1 to 256 valid units with
-- different names, at most 16 of them with a changed probability of no claim, and with means of at
-- most 17 * 2^36 buckets together where the grid has up to 4,096 cells, else 17 * 2^38; and where
-- they share a gamma factor, what its shape and they keep together
pub record IsValid (plan : Plan) : Type 0 where
  pub bucket : whole 0 <ℚ plan.bs
  pub cells : (k : ℕ) × (1 ≤ k) × (k ≤ most_log2) × (plan.cells ≡ 2 ^ k)
  pub some : 1 ≤ length plan.units
  pub few : length plan.units ≤ most_units
  pub changed : changed_units plan.units ≤ most_changed
  pub means : whole_means plan.units ≤ most_total_at plan.cells
  pub names : AllPairs (λ u v. u.name ≢ v.name) plan.units
  pub units : All (IsValidUnit plan.cells) plan.units
  pub common : IfSome plan.common (λ r. HasCommonFactor r plan.units)
