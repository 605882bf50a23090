-- The joint means of a unit, and what they are drawn from.
use Rattle.std.specs.Prelude.{ℕ, ◌*◌, ◌/◌, ◌^◌, ◌<◌, min, List, length}
use Rattle.std.specs.Int.{div_ceil}
use Rattle.dl_exact.specs.Fraction.{Fraction, ◌over◌}
use Rattle.dl_iv.specs.declared.interval.Iv.{Iv}
use Rattle.dl_grid.specs.Cells.{low_at, high_at, spread}
use Rattle.dl_grid.specs.Width.{convolution_spread}
use Rattle.dl_plan.specs.declared.plan.Plan.{Plan}
use Rattle.dl_plan.specs.Prelude.{thinned_mean}
use Rattle.dl_budget.specs.Shared.{shared_joint_budget}
use Rattle.dl_model.specs.Prelude.{Series, Holds, Quantity, One, Point, Joint, Outcome, declared}
use Rattle.dl_shares.specs.Amounts.{amounts_to, claims_mean}
use Rattle.dl_shares.specs.Weighted.{low_weighted, high_weighted}
use Rattle.dl_shares.specs.declared.source.ShareSource.{ShareSource}
use Rattle.dl_shares.specs.declared.source.ShareSource.TheVariants.{Beside, OverClaims}
use Rattle.dl_shares.specs.Claims.{claims_down, claims_up}

-- how many totals a source reaches: those below the number of cells of its grid
abbrev pub reach : {B : ℕ} → ShareSource B → ℕ
reach (Beside b) = length b.unit.now
reach (OverClaims c) = length c.grid.now

-- The joint mean at x, from the low ends of the cells: over all y + z = x, the sum of y times the
-- probabilities of y for the unit and of z for the others; or the expected claims times the sum, over the
-- amounts y of one claim, of y times its probability and that of z beside that claim.
abbrev pub exact_low : {B : ℕ} → ShareSource B → ℕ → Fraction
exact_low {B} (Beside b) x = low_weighted b.unit.now b.others.now x over (2 ^ B * 2 ^ B)
exact_low {B} (OverClaims c) x = claims_mean c.unit.now (2 ^ B) x (low_at c.grid.now)

-- the same from the high ends
abbrev pub exact_high : {B : ℕ} → ShareSource B → ℕ → Fraction
exact_high {B} (Beside b) x = high_weighted b.unit.now b.others.now x over (2 ^ B * 2 ^ B)
exact_high {B} (OverClaims c) x = claims_mean c.unit.now (2 ^ B) x (high_at c.grid.now)

-- the low end in units of 1/S, as it is rounded; from claims, no more than x
abbrev pub rounded_low : {B : ℕ} → ShareSource B → ℕ → ℕ
rounded_low {B} (Beside b) x = low_weighted b.unit.now b.others.now x / 2 ^ B
rounded_low {B} (OverClaims c) x =
    min (claims_down c.unit.now (amounts_to x (low_at c.grid.now) c.unit.now.sev.items)) (x * 2 ^ B)

-- the high end
abbrev pub rounded_high : {B : ℕ} → ShareSource B → ℕ → ℕ
rounded_high {B} (Beside b) x = div_ceil (high_weighted b.unit.now b.others.now x) (2 ^ B)
rounded_high {B} (OverClaims c) x =
    min (claims_up c.unit.now (amounts_to x (high_at c.grid.now) c.unit.now.sev.items)) (x * 2 ^ B)

-- how far apart the ends of a joint mean lie at most, and those of the sum of them up to a total
abbrev pub joint_width : {B : ℕ} → ShareSource B → ℕ
joint_width {B} (Beside b) = length b.unit.now
    * convolution_spread (2 ^ B) (length b.unit.now) (spread b.unit.now) (spread b.others.now)
joint_width (OverClaims c) =
    shared_joint_budget (length c.grid.now) (spread c.grid.now) (thinned_mean c.unit.now)

-- the exact ends hold the declared joint means of unit i
abbrev pub GivesJoints : {B : ℕ} → ShareSource B → (Quantity → Series) → ℕ → Type 0
GivesJoints source declares i = (x : ℕ) → x < reach source
    → Holds (declares (Joint i x)) (declares One) (exact_low source x) (exact_high source x)

-- What the share of unit i of a plan is drawn from: its joint means, the grid of the total, and its
-- mean.
pub record IsSharedBy {B : ℕ} (plan : Plan) (i : ℕ) (source : ShareSource B) (grid : List (Iv B))
    (ends : Iv B) : Type 0 where
  pub joints : GivesJoints source (declared plan) i
  pub total : (x : ℕ) → x < length grid → Holds (declared plan (Point x)) (declared plan One)
      (low_at grid x over 2 ^ B) (high_at grid x over 2 ^ B)
  pub mean : Holds (declared plan (Outcome i)) (declared plan One) (ends.lo over 2 ^ B)
      (ends.hi over 2 ^ B)
