-- What a gamma unit adds to a total, by a unit of extra claims (Loss Models, "The (a, b, 0) class": the
-- negative binomial counts of shape r and of shape 1 and of one ratio add up to that of shape r + 1).
use Rattle.std.specs.Prelude.{ℕ, ◌≡◌, None}
use Rattle.dl_exact.specs.Prelude.{whole, ◌/ℚ◌}
use Rattle.dl_plan.specs.declared.plan.Freq.{Freq}
use Rattle.dl_plan.specs.declared.plan.Freq.TheVariants.{Gamma}
use Rattle.dl_plan.specs.declared.plan.Unit.{Unit as UnitOfPlan}
use Rattle.dl_plan.specs.Prelude.{probability_of}
pub use Rattle.dl_plan.specs.Prelude.{CanRaise}

-- of a gamma count of shape r and mean m the count of shape 1 and mean m / r
abbrev pub extra_count : Freq → Freq
extra_count (Gamma shape mean) = Gamma (whole 1) (mean /ℚ shape)
extra_count freq = freq

-- the unit of this count with u's name and u's severity, and neither an aggregate clause nor a
-- changed probability of no claim
pub record IsExtra (u made : UnitOfPlan) : Type 0 where
  pub name : made.name ≡ u.name
  pub count : made.freq ≡ extra_count u.freq
  pub severity : (x : ℕ) → probability_of made.sev x ≡ probability_of u.sev x
  pub clause : made.cede ≡ None
  pub zero : made.zero ≡ None
