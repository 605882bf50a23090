-- The mean of what a clause keeps of the sum of a unit's claims: what an interval is to hold, and
-- how wide it may be.
use Rattle.std.specs.Prelude.{ℕ, ◌*◌, ◌^◌, ◌≤◌, IfSome, List, [], ◌∷◌}
use Rattle.dl_limits.specs.Limits.{most_claims, most_amount, most_amount_at, most_layers}
use Rattle.dl_exact.specs.Prelude.{whole, ◌over◌, ◌*ℚ◌, IsFloor, IsCeiling}
use Rattle.dl_iv.specs.declared.interval.Iv.{Iv}
use Rattle.dl_plan.specs.declared.cede.CedeLayer.{CedeLayer}
use Rattle.dl_plan.specs.declared.plan.Unit.{Unit as UnitOfPlan}
use Rattle.dl_plan.specs.Means.{declared_mean}
use Rattle.dl_model.specs.Prelude.{Holds, One, Mean, partial_sums, loss, aggregate_of, claims_of, mean_ceded}

-- the interval holds the mean of the sum of the claims, before the clause
abbrev pub HoldsClaims : {B : ℕ} → UnitOfPlan → Iv B → Type 0
HoldsClaims {B} u mean =
    Holds (partial_sums (loss (claims_of u) ∷ []) Mean) (partial_sums (loss (claims_of u) ∷ []) One)
    (mean.lo over 2 ^ B) (mean.hi over 2 ^ B)

-- the ends are the floor and the ceiling of that mean in the units of the scale: no interval that
-- holds it is narrower
pub record AreNearestEnds {B : ℕ} (u : UnitOfPlan) (mean : Iv B) : Type 0 where
  pub floor : IsFloor (whole (2 ^ B) *ℚ declared_mean u) mean.lo
  pub ceiling : IsCeiling (whole (2 ^ B) *ℚ declared_mean u) mean.hi

-- the interval holds the mean of what layers take of that sum, each by its share
abbrev pub HoldsCeded : {B : ℕ} → UnitOfPlan → List CedeLayer → Iv B → Type 0
HoldsCeded {B} u layers mean =
    Holds (mean_ceded u layers) (partial_sums (loss (claims_of u) ∷ []) One) (mean.lo over 2 ^ B)
    (mean.hi over 2 ^ B)

-- the interval holds the mean of the unit after its clause, before its probability of no claim is
-- changed
abbrev pub HoldsKept : {B : ℕ} → UnitOfPlan → Iv B → Type 0
HoldsKept {B} u mean =
    Holds (partial_sums (loss (aggregate_of u) ∷ []) Mean)
    (partial_sums (loss (aggregate_of u) ∷ []) One)
    (mean.lo over 2 ^ B) (mean.hi over 2 ^ B)

-- ---- how large they can be, where `one` units make a bucket

-- the mean of a unit's claims, in a plan with a grid of so many cells: 65,536 claims of the
-- greatest amount
abbrev pub most_claims_mean : (cells one : ℕ) → ℕ
most_claims_mean cells one = most_claims * most_amount_at cells * one

-- a layer has no limit, or one of at most 2^22 buckets
abbrev pub IsNear : CedeLayer → Type 0
IsNear l = IfSome l.limit (λ limit. limit ≤ most_amount)

-- the most that the layers of a clause with a limit take together
abbrev pub most_limited : (one : ℕ) → ℕ
most_limited one = most_layers * most_amount * one
