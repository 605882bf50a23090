-- A portfolio under a common factor: given one gamma factor of mean 1 and shape r, which scales the
-- means of all units, their claim counts are independent Poisson counts (Loss Models, "Mixed
-- frequency distributions").
use Rattle.std.specs.Prelude.{ℕ, zero, suc, ◌≡◌, ◌*◌, List, [], ◌∷◌, map, sum}
use Rattle.dl_exact.specs.Prelude.{Fraction, whole, ◌+ℚ◌, ◌*ℚ◌, ◌/ℚ◌, ◌^ℚ◌, factorial, sum_to, sum_pairs, sum_over}
use Rattle.dl_model.specs.Series.{Series}
use Rattle.dl_model.specs.Compound.{power}
use Rattle.dl_model.specs.Severity.{IsSeverity}
use Rattle.dl_model.specs.Counts.{gamma_of, product_below}
use Rattle.dl_model.specs.Program.{Quantity, score}
use Rattle.dl_model.specs.Units.{Aggregate, plain}

-- a unit: the expected number of its claims, the probability of each amount of one claim, and the
-- greatest amount
pub record PoissonUnit : Type 0 where
  pub mean : Fraction
  pub severity : ℕ → Fraction
  pub most : ℕ

-- the claims of one unit: how many, and what they add up to
pub record Claims : Type 0 where
  pub unit : PoissonUnit
  pub count : ℕ
  pub amount : ℕ

-- f x times f y times .. over the items of a list, and 1 for no item
unfoldable pub product_over : {A : Type 0} → List A → (A → Fraction) → Fraction
product_over [] f = whole 1
product_over (x ∷ xs) f = f x *ℚ product_over xs f

-- the sum of the value over all claims lists of n claims in all: each unit has a count and an
-- amount from 0 to the count times its greatest amount, and the counts add up to n
unfoldable pub sum_over_claims : List PoissonUnit → ℕ → (List Claims → Fraction) → Fraction
sum_over_claims [] zero value = value []
sum_over_claims [] (suc n) value = whole 0
sum_over_claims (u ∷ us) n value = sum_pairs n (λ j k. sum_to (j * u.most) (λ s. sum_over_claims us
    k (λ claims. value (record { unit = u; count = j; amount = s } ∷ claims))))

-- the expected number of claims of all units
abbrev pub expected_claims : List PoissonUnit → Fraction
expected_claims us = sum_over us (λ u. u.mean)

-- the amounts of a claims list, unit by unit
abbrev pub amounts : List Claims → List ℕ
amounts claims = map (λ c. c.amount) claims

-- that the claims of each unit add up to its amount, given their numbers
abbrev pub amounts_given_counts : List Claims → Fraction
amounts_given_counts claims = product_over claims (λ c. power c.unit.severity c.count c.amount)

-- the product of the r + i over the i below n, divided by the product of the factorials of the
-- counts
abbrev pub ways_to_share : Fraction → ℕ → List Claims → Fraction
ways_to_share r n claims = product_below n (λ i. r +ℚ whole i) /ℚ
    product_over claims (λ c. whole (factorial c.count))

-- the product of (v_i / (r + v)) ^ n_i, where v is the expected number of claims of all units
abbrev pub chances : Fraction → Fraction → List Claims → Fraction
chances r v claims = product_over claims (λ c. (c.unit.mean /ℚ (r +ℚ v)) ^ℚ c.count)

-- The quantity over the claims lists of at most N claims in all; without the probability of no
-- claim, a constant factor that the sums of every quantity have.
abbrev pub common_sums : Fraction → List PoissonUnit → Quantity → Series
common_sums r us quantity N = sum_to N (λ n. sum_over_claims us n (λ claims.
    score quantity (amounts claims) *ℚ amounts_given_counts claims *ℚ ways_to_share r n claims *ℚ
    chances r (expected_claims us) claims))

-- the severity of a claim of whatever unit: the mixture of the severities by v_i / v
abbrev pub pooled_severity : List PoissonUnit → ℕ → Fraction
pooled_severity us a = sum_over us (λ u. u.mean /ℚ expected_claims us *ℚ u.severity a)

-- the one unit for all of them: a gamma count of shape r and of all their expected claims, with the
-- pooled severity, whose greatest amount is given
abbrev pub pooled_unit : Fraction → List PoissonUnit → ℕ → Aggregate
pooled_unit r us most = plain (gamma_of r (expected_claims us)) (pooled_severity us) most

-- the probabilities of the amounts of each unit add up to 1
abbrev pub AreSeverities : List PoissonUnit → Type 0
AreSeverities [] = Unit {0}
AreSeverities (u ∷ us) = IsSeverity u.severity u.most × AreSeverities us

-- the quantity counts a list of outcomes by its total alone
abbrev pub CountsTotal : Quantity → Type 0
CountsTotal quantity = (ys : List ℕ) → score quantity ys ≡ score quantity (sum ys ∷ [])

-- u is unit i of the list
abbrev pub IsUnit : List PoissonUnit → ℕ → PoissonUnit → Type 0
IsUnit [] i u = ⊥
IsUnit (w ∷ us) zero u = w ≡ u
IsUnit (w ∷ us) (suc i) u = IsUnit us i u
