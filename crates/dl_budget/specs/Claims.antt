-- The budget of a unit before its aggregate clause: how far apart the ends of its grid's cells may
-- lie in all, in units of 1/S, on a grid of so many cells.
use Rattle.std.specs.Prelude.{ℕ, ◌+◌, ◌*◌, ◌/◌, ◌%◌, ◌^◌, ◌==◌, if◌then◌else◌, length}
use Rattle.dl_exact.specs.Fraction.{Fraction, whole, ◌over◌, ◌+ℚ◌, ◌*ℚ◌, ◌/ℚ◌}
use Rattle.dl_grid.specs.Width.{up, convolution_spread, power_spread, mixed_spread}
use Rattle.dl_plan.specs.declared.plan.Freq.{Freq}
use Rattle.dl_plan.specs.declared.plan.Freq.TheVariants.{Fixed, Table, Bernoulli, Binomial, Poisson, Gamma}
use Rattle.dl_plan.specs.declared.plan.Unit.{Unit as UnitOfPlan}
use Rattle.dl_plan.specs.Prelude.{expected_count, thinned_mean, greatest}
use Rattle.dl_budget.specs.Halvings.{halvings}

-- a Poisson count of a mean above 0: the base, and its power, a factor 2 for each halving
unfoldable pub poisson_budget : (S cells : ℕ) → Fraction → ℕ
poisson_budget S cells mean = power_spread S cells (8 * cells + 128) (2 ^ halvings mean)

-- the base of shape 1, a geometric count of mean beta
abbrev pub geometric_spread : (cells : ℕ) → Fraction → ℕ
geometric_spread cells beta = up (whole (4 * cells + 1) *ℚ (whole 1 +ℚ beta))

-- the base of a shape below 1, where beta is the mean over the shape
abbrev pub shape_spread : (cells : ℕ) → Fraction → ℕ
shape_spread cells beta = up (whole (6 * cells + 2) *ℚ (whole 1 +ℚ beta))

-- the whole part of a shape, and the rest, which is below 1
abbrev pub whole_part : Fraction → ℕ
whole_part r = r.num / r.den

abbrev pub rest_part : Fraction → Fraction
rest_part r = (r.num % r.den) over r.den

-- the power of the base of shape 1 by the whole part of a shape
abbrev pub whole_spread : (S cells : ℕ) → (shape beta : Fraction) → ℕ
whole_spread S cells shape beta =
    power_spread S cells (geometric_spread cells beta) (whole_part shape)

-- a gamma count of a mean above 0: that power and the base of the rest of the shape, of which one
-- is left out where its part of the shape is 0
unfoldable pub gamma_budget : (S cells : ℕ) → (shape mean : Fraction) → ℕ
gamma_budget S cells shape mean =
    if shape.num % shape.den == 0 then whole_spread S cells shape (mean /ℚ shape)
    else if whole_part shape == 0 then shape_spread cells (mean /ℚ shape)
    else convolution_spread S cells (whole_spread S cells shape (mean /ℚ shape))
    (shape_spread cells (mean /ℚ shape))

-- by the kind of count, of a severity with so many items and of this thinned mean
unfoldable pub count_budget : (S cells items : ℕ) → Fraction → Freq → ℕ
count_budget S cells items thinned (Fixed claims) = power_spread S cells items claims
count_budget S cells items thinned (Table counts total) =
    mixed_spread S cells items (greatest counts)
count_budget S cells items thinned (Bernoulli q) = 3 * (items + 1)
count_budget S cells items thinned (Binomial trials q) = power_spread S cells (3 * (items + 1)) trials
count_budget S cells items thinned (Poisson mean) =
    if thinned.num == 0 then 0 else poisson_budget S cells thinned
count_budget S cells items thinned (Gamma shape mean) =
    if thinned.num == 0 then 0 else gamma_budget S cells shape thinned

-- that of the probability of no claim: of cell 0 of claims of amount 1 alone, on one cell
abbrev pub none_budget : (S : ℕ) → Freq → ℕ
none_budget S freq = count_budget S 1 1 (expected_count freq) freq

-- that of a unit
abbrev pub claims_budget : (S cells : ℕ) → UnitOfPlan → ℕ
claims_budget S cells u = count_budget S cells (length u.sev.items) (thinned_mean u) u.freq
