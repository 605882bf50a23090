-- How large the units of a portfolio are all together.
use Rattle.std.specs.Prelude.{ℕ, Bool, ◌||◌, nat_lt, count_by, is_some, List, sum_by, Option, Some, None}
use Rattle.dl_limits.specs.Limits.{most_changed, most_total_at}
use Rattle.dl_exact.specs.Prelude.{Fraction, whole, ◌*ℚ◌, up}
use Rattle.dl_ast.specs.declared.ast.MixAst.{MixAst}
use Rattle.dl_ast.specs.declared.ast.SevDef.{SevDef}
use Rattle.dl_ast.specs.declared.ast.UnitAst.{UnitAst}
use Rattle.dl_plan.specs.declared.plan.Unit.{Unit as UnitOfPlan}
use Rattle.dl_plan.specs.Prelude.{declared_mean, growth, mean_amount}
use Rattle.dl_reading.specs.declared.grid.GridCount.{GridCount}
use Rattle.dl_reading.specs.declared.grid.GridCount.TheVariants.{Exposed, Listed}
use Rattle.dl_reading.specs.declared.grid.GridUnit.{GridUnit}
use Rattle.dl_reading.specs.Prelude.{grid_of, final_severity}
use Rattle.dl_rules.specs.Exposures.{expected_count}
use Rattle.dl_rules.specs.Listed.{pairs_of_counts}
use Rattle.dl_rules.specs.Severities.{mixture_of}

-- the mean of the sum of a unit's claims, in buckets, and the probability of no claim that its
-- count is changed to, if it is
pub record Size : Type 0 where
  pub mean : Fraction
  pub zero : Option Fraction

-- a number of buckets that the mean of the unit's outcomes does not pass: a change of the
-- probability of no claim makes it at most 17 times as large, and an aggregate clause only less
abbrev pub whole_size : Size → ℕ
whole_size size = up (whole (growth size.zero) *ℚ size.mean)

-- more than 16 units have a changed probability of no claim; or their means pass 17 * 2^36 buckets
-- together where the grid has up to 4,096 cells, else 17 * 2^38
abbrev pub is_total_large : (cells : ℕ) → List Size → Bool
is_total_large cells sizes =
    nat_lt most_changed (count_by (λ size. is_some size.zero) sizes)
    || nat_lt (most_total_at cells) (sum_by whole_size sizes)

-- ---- of a program

-- the expected claims of a unit; listed ones by their probabilities
abbrev pub claims_in : Fraction → GridUnit → GridCount → Fraction
claims_in bs u (Exposed exposure freq) = expected_count bs u exposure
claims_in bs u (Listed counts probs) = mean_amount (pairs_of_counts counts probs)

abbrev pub size_on : Fraction → GridUnit → Size
size_on bs u = record {
  mean = claims_in bs u u.count *ℚ mean_amount (final_severity u);
  zero = u.zero;
}

abbrev pub size_of_mixture : Fraction → UnitAst → Option MixAst → Size
size_of_mixture bs u None = record { mean = whole 0; zero = None }
size_of_mixture bs u (Some m) = size_on bs (grid_of bs u m)

abbrev pub size_in : Fraction → List SevDef → UnitAst → Size
size_in bs sevs u = size_of_mixture bs u (mixture_of sevs u.sev.body)

-- ---- of a plan

abbrev pub size_of : UnitOfPlan → Size
size_of u = record { mean = declared_mean u; zero = u.zero }
