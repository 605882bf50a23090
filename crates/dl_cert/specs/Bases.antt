-- The base of each unit of a plan, to test starts by: a trial, or a share of the claims above 0.
use Rattle.std.specs.Prelude.{ℕ, zero, suc, Bool, ◌≡◌, ◌⊎◌, ◌+◌, ◌-◌, ◌*◌, ◌/◌, ◌<◌, ◌≤◌, true, false, List, length, get_or, map}
use Rattle.std.specs.Int.{div_ceil}
use Rattle.dl_exact.specs.Fraction.{Fraction}
use Rattle.dl_iv.specs.declared.interval.Iv.{Iv}
use Rattle.dl_grid.specs.Cells.{low_at, high_at}
use Rattle.dl_panjer.specs.Cells.{low_next, high_next}
use Rattle.dl_plan.specs.declared.plan.Unit.{Unit as UnitOfPlan}
use Rattle.dl_plan.specs.declared.plan.Plan.{Plan}
use Rattle.dl_plan.specs.declared.severity.Sev.{Sev}
use Rattle.dl_plan.specs.Prelude.{thinned_mean, weight_at}
use Rattle.dl_cert.specs.declared.base.Base.{Base}
use Rattle.dl_cert.specs.declared.base.Share.{Share}
use Rattle.dl_cert.specs.declared.base.Base.TheVariants.{Nothing, Trial, Poisson, Geometric}
use Rattle.dl_cert.specs.Targets.{unit_parts}
use Rattle.dl_cert.specs.Numbers.{one, low_start, high_start}

-- the probability of y in one trial of probability q, in units of 1 over q's second part times the
-- total of the severity
abbrev pub trial_parts : Fraction → Sev → ℕ → ℕ
trial_parts q sev zero = (q.den - q.num) * sev.total + q.num * weight_at sev.items zero
trial_parts q sev (suc y) = q.num * weight_at sev.items (suc y)

-- cell y of the recursion of a share, from the ends before it
abbrev pub low_share : Bool → Share → (ℕ → ℕ) → ℕ → ℕ
low_share by_amount share ends zero = share.first.lo
low_share by_amount share ends (suc s) =
    low_next by_amount share.positive.items share.positive.total share.rate ends s

abbrev pub high_share : Bool → Share → (ℕ → ℕ) → ℕ → ℕ
high_share by_amount share ends zero = share.first.hi
high_share by_amount share ends (suc s) =
    high_next one by_amount share.positive.items share.positive.total share.rate ends s

-- the numbers of cell y of a start
abbrev pub low_base : Base → Sev → (ℕ → ℕ) → ℕ → ℕ
low_base Nothing sev ends y = 0
low_base (Trial chance) sev ends y =
    one * trial_parts chance.q sev y / (chance.q.den * sev.total)
low_base (Poisson share) sev ends y = low_share true share ends y
low_base (Geometric share) sev ends y = low_share false share ends y

abbrev pub high_base : Base → Sev → (ℕ → ℕ) → ℕ → ℕ
high_base Nothing sev ends y = 0
high_base (Trial chance) sev ends y =
    div_ceil (one * trial_parts chance.q sev y) (chance.q.den * sev.total)
high_base (Poisson share) sev ends y = high_share true share ends y
high_base (Geometric share) sev ends y = high_share false share ends y

-- where the unit has parts, they are the numbers of its start
pub record IsBaseOf (unit : UnitOfPlan) (base : Base) : Type 0 where
  pub low : 1 ≤ unit_parts unit → (ends : ℕ → ℕ) (y : ℕ)
      → low_base base unit.sev ends y ≡ low_start unit.freq unit.sev (thinned_mean unit) ends y
  pub high : 1 ≤ unit_parts unit → (ends : ℕ → ℕ) (y : ℕ)
      → high_base base unit.sev ends y ≡ high_start unit.freq unit.sev (thinned_mean unit) ends y

-- of the first n cells no low end is above its number, and no high end below its own, but where it
-- is 1
pub record PassesTo (n : ℕ) (cells : List (Iv 56)) (low high : ℕ → ℕ) : Type 0 where
  pub low_ends : (y : ℕ) → y < n → low_at cells y ≤ low y
  pub high_ends : (y : ℕ) → y < n → (high y ≤ high_at cells y) ⊎ (one ≤ high_at cells y)

-- the bases and the targets of the units of a plan
pub record AreStarts (plan : Plan) (bases : List Base) (targets : List ℕ) : Type 0 where
  pub many : length bases ≡ length plan.units
  pub each : (u : ℕ) (unit : UnitOfPlan) (base : Base) → u < length plan.units
      → IsBaseOf (get_or plan.units u unit) (get_or bases u base)
  pub counts : targets ≡ map unit_parts plan.units
