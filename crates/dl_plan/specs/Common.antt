-- Units that share one gamma factor of mean 1, which scales all of their expected counts.
use Rattle.std.specs.Prelude.{ℕ, suc, ◌≡◌, ◌≤◌, ◌&&◌, Bool, true, false, ⊤, None, is_none, List, length, map, take, flat_map, All}
use Rattle.dl_limits.specs.Limits.{most_expected}
use Rattle.dl_exact.specs.Prelude.{Fraction, whole, ◌over◌, ◌+ℚ◌, ◌*ℚ◌, ◌/ℚ◌, ◌≤ℚ◌, ◌<ℚ◌, sum_over}
use Rattle.dl_frac.specs.Exact.{FitsFrac}
use Rattle.dl_plan.specs.declared.plan.Freq.{Freq}
use Rattle.dl_plan.specs.declared.plan.Freq.TheVariants.{Poisson, Gamma}
use Rattle.dl_plan.specs.declared.plan.Unit.{Unit as UnitOfPlan}
use Rattle.dl_plan.specs.Fine.{IsFineTo40Bits, HasPartsOf48Bits}
use Rattle.dl_plan.specs.Count.{IsShape, expected_count}
use Rattle.dl_plan.specs.Means.{thinned_mean}

-- a Poisson count
abbrev pub IsPoisson : Freq → Type 0
IsPoisson (Poisson mean) = ⊤
IsPoisson freq = ⊥

abbrev pub is_poisson : Freq → Bool
is_poisson (Poisson mean) = true
is_poisson freq = false

-- a gamma count
abbrev pub IsGamma : Freq → Type 0
IsGamma (Gamma shape mean) = ⊤
IsGamma freq = ⊥

-- a unit that can share a factor: its count is Poisson, without an aggregate clause and without a
-- changed probability of no claim
pub record CanShare (u : UnitOfPlan) : Type 0 where
  pub count : IsPoisson u.freq
  pub clause : u.cede ≡ None
  pub zero : u.zero ≡ None

abbrev pub can_share : UnitOfPlan → Bool
can_share u = is_poisson u.freq && (is_none u.cede && is_none u.zero)

-- a unit that can have extra claims: its count is gamma, without an aggregate clause and without a
-- changed probability of no claim
pub record CanRaise (u : UnitOfPlan) : Type 0 where
  pub count : IsGamma u.freq
  pub clause : u.cede ≡ None
  pub zero : u.zero ≡ None

-- the expected number of claims of all units
abbrev pub expected_of : List UnitOfPlan → Fraction
expected_of units = sum_over units (λ u. expected_count u.freq)

-- the expected claims above 0 of all units
abbrev pub thinned_of : List UnitOfPlan → Fraction
thinned_of units = sum_over units thinned_mean

-- x * (r + 1) / r: the part of a gamma count of shape r that x is, for the shape r + 1
abbrev pub raised : Fraction → Fraction → Fraction
raised r x = x *ℚ (r +ℚ whole 1) /ℚ r

-- the probability that a claim of whatever unit is one of u, where v are the expected claims of all
abbrev pub unit_share : Fraction → UnitOfPlan → Fraction
unit_share v u = expected_count u.freq /ℚ v

-- the probability of each amount of u, times that
abbrev pub shared_probabilities : Fraction → UnitOfPlan → List Fraction
shared_probabilities v u =
    map (λ item. unit_share v u *ℚ item.weight over u.sev.total) u.sev.items

-- What units under a factor of shape r keep: r and r + 1 are shapes; each unit can share it; the
-- claims of all have a mean above 0; the expected counts and the thinned means of the first k
-- units add up to admitted sums; the sums of all over the shape are held; they are admitted for
-- the shape r + 1 too, and then the thinned one is at most 4,096; and the shares of the units, and
-- these times the probabilities of amounts, are fine to 40 bits.
pub record HasCommonFactor (r : Fraction) (units : List UnitOfPlan) : Type 0 where
  pub shape : IsShape r
  pub next_shape : IsShape (r +ℚ whole 1)
  pub can_share : All CanShare units
  pub some : whole 0 <ℚ expected_of units
  pub expected : (k : ℕ) → 1 ≤ k → k ≤ length units
      → HasPartsOf48Bits (expected_of (take k units))
  pub thinned : (k : ℕ) → 1 ≤ k → k ≤ length units
      → HasPartsOf48Bits (thinned_of (take k units))
  pub expected_beta : FitsFrac (expected_of units /ℚ r)
  pub thinned_beta : FitsFrac (thinned_of units /ℚ r)
  pub raised_expected : HasPartsOf48Bits (raised r (expected_of units))
  pub raised_thinned : HasPartsOf48Bits (raised r (thinned_of units))
  pub few : raised r (thinned_of units) ≤ℚ whole most_expected
  pub shares : IsFineTo40Bits (map (unit_share (expected_of units)) units)
  pub products : IsFineTo40Bits (flat_map (shared_probabilities (expected_of units)) units)
