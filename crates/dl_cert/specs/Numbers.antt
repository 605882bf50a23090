-- The numbers that the cells of a step are compared with, in units of 1 / 2^56: a low end may be
-- lower, and a high end higher.
use Rattle.std.specs.Prelude.{ℕ, zero, suc, ◌*◌, ◌/◌, ◌^◌, List, min, map, get_or}
use Rattle.std.specs.Int.{div_ceil}
use Rattle.dl_limits.specs.Limits.{short_bits}
use Rattle.dl_exact.specs.Prelude.{Fraction, whole, ◌+ℚ◌, ◌*ℚ◌, ◌/ℚ◌, count_pairs, sum_pairs}
use Rattle.dl_iv.specs.declared.interval.Iv.{Iv}
use Rattle.dl_grid.specs.Cells.{low_at, high_at, all_at_zero}
use Rattle.dl_plan.specs.declared.plan.Freq.{Freq}
use Rattle.dl_plan.specs.declared.plan.Freq.TheVariants.{Fixed, Table, Bernoulli, Binomial, Poisson, Gamma}
use Rattle.dl_plan.specs.declared.plan.Unit.{Unit as UnitOfPlan}
use Rattle.dl_plan.specs.declared.severity.Sev.{Sev}
use Rattle.dl_plan.specs.Prelude.{probability_of, thinned_mean}
use Rattle.dl_budget.specs.Halvings.{halvings}
use Rattle.dl_model.specs.Prelude.{fixed, binomial, cell}
use Rattle.dl_panjer.specs.Ends.{exp_low, exp_high}
use Rattle.dl_cert.specs.declared.step.Kind.{Kind}
use Rattle.dl_cert.specs.declared.step.Kind.TheVariants.{One, Start, Times}
use Rattle.dl_cert.specs.Targets.{above_zero}
use Rattle.dl_cert.specs.Steps.{Made, made_at}

-- how many units make 1
abbrev pub one : ℕ
one = 2 ^ short_bits

-- a fraction rounded down, and up, to a whole number
abbrev pub floor_of : Fraction → ℕ
floor_of x = x.num / x.den

abbrev pub ceiling_of : Fraction → ℕ
ceiling_of x = div_ceil x.num x.den

-- ---- the recursion of a base

-- the sum over the amounts from 1 to s + 1, each by its probability g, of the end of the cell that
-- it leaves of cell s + 1; and the same, each amount counted as often as it says
abbrev pub sum_plain : (ℕ → Fraction) → (ℕ → ℕ) → ℕ → Fraction
sum_plain g ends s = sum_pairs s (λ i k. g (suc i) *ℚ whole (ends k))

abbrev pub sum_by_amount : (ℕ → Fraction) → (ℕ → ℕ) → ℕ → Fraction
sum_by_amount g ends s = sum_pairs s (λ i k. whole (suc i) *ℚ g (suc i) *ℚ whole (ends k))

-- cell 0, and each later cell by two roundings: of the sum, and of its product with a factor
abbrev pub low_recursion : ℕ → (ℕ → Fraction) → (ℕ → Fraction) → ℕ → ℕ
low_recursion start factor sum zero = start
low_recursion start factor sum (suc s) = floor_of (factor s *ℚ whole (floor_of (sum s)))

abbrev pub high_recursion : ℕ → (ℕ → Fraction) → (ℕ → Fraction) → ℕ → ℕ
high_recursion start factor sum zero = start
high_recursion start factor sum (suc s) =
    min one (ceiling_of (factor s *ℚ whole (ceiling_of (sum s))))

-- ---- a start, by its own cells' ends before each cell

-- one end, by how fractions are rounded, the end of a listed count, the recursion, and the end of
-- e^(-x). One claim or one trial: the probability of each amount; a share of v claims above 0: by
-- the recursion of its count
abbrev pub start_by : (Fraction → ℕ) → ℕ → (ℕ → (ℕ → Fraction) → (ℕ → Fraction) → ℕ → ℕ)
    → (Fraction → ℕ) → Freq → Sev → Fraction → (ℕ → ℕ) → ℕ → ℕ
start_by rounded listed recursion exp (Fixed m) sev v ends y =
    rounded (whole one *ℚ cell (fixed 1) (probability_of sev) y 1)
start_by rounded listed recursion exp (Table counts total) sev v ends y = listed
start_by rounded listed recursion exp (Bernoulli q) sev v ends y =
    rounded (whole one *ℚ cell (binomial 1 q.num q.den) (probability_of sev) y 1)
start_by rounded listed recursion exp (Binomial trials q) sev v ends y =
    rounded (whole one *ℚ cell (binomial 1 q.num q.den) (probability_of sev) y 1)
start_by rounded listed recursion exp (Poisson mean) sev v ends y =
    recursion (exp (v /ℚ whole (2 ^ halvings v)))
    (λ s. v /ℚ whole (2 ^ halvings v) /ℚ whole (suc s)) (sum_by_amount (above_zero sev) ends) y
start_by rounded listed recursion exp (Gamma shape mean) sev v ends y =
    recursion (rounded (whole one *ℚ (whole 1 /ℚ (whole 1 +ℚ v /ℚ shape))))
    (λ s. v /ℚ shape /ℚ (whole 1 +ℚ v /ℚ shape)) (sum_plain (above_zero sev) ends) y

abbrev pub low_start : Freq → Sev → Fraction → (ℕ → ℕ) → ℕ → ℕ
low_start = start_by floor_of 0 low_recursion (exp_low 56)

abbrev pub high_start : Freq → Sev → Fraction → (ℕ → ℕ) → ℕ → ℕ
high_start = start_by ceiling_of one high_recursion (exp_high 56)

-- ---- a step of a plan

-- one end, by that of a start, that of a cell, and how a sum of products is rounded: all mass at 0;
-- the start of the unit; the convolution of two earlier steps
abbrev pub number_by : (Freq → Sev → Fraction → (ℕ → ℕ) → ℕ → ℕ) → (List (Iv 56) → ℕ → ℕ) → (ℕ → ℕ)
    → List UnitOfPlan → List Made → Kind → (ℕ → ℕ) → ℕ → ℕ
number_by start at rounded units before One ends y = all_at_zero one y
number_by start at rounded units before (Start u) ends y =
    get_or (map (λ (unit : UnitOfPlan). start unit.freq unit.sev (thinned_mean unit) ends y) units) u 0
number_by start at rounded units before (Times a b) ends y =
    rounded (count_pairs y (λ i j. at (made_at before a).cells i * at (made_at before b).cells j))

abbrev pub low_number : List UnitOfPlan → List Made → Kind → (ℕ → ℕ) → ℕ → ℕ
low_number = number_by low_start low_at (λ sum. sum / one)

abbrev pub high_number : List UnitOfPlan → List Made → Kind → (ℕ → ℕ) → ℕ → ℕ
high_number = number_by high_start high_at (λ sum. min one (div_ceil sum one))
