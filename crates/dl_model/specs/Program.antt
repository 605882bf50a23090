-- The quantities that independent losses declare of their total.
use Rattle.std.specs.Prelude.{ℕ, suc, ◌≡◌, ◌-◌, ◌<◌, ◌≤◌, Bool, true, false, nat_eq, nat_le, nat_lt, Option, List, [], ◌∷◌, sum, get_or}
use Rattle.dl_exact.specs.Prelude.{Fraction, whole, ◌+ℚ◌, ◌-ℚ◌, ◌*ℚ◌, ◌/ℚ◌, sum_to, sum_over}
use Rattle.dl_plan.specs.Clause.{layer}
use Rattle.dl_model.specs.Series.{Series, Rises}
use Rattle.dl_model.specs.Family.{Family}

-- x where the test holds, else 0
abbrev pub where_true : Bool → Fraction → Fraction
where_true true x = x
where_true false x = whole 0

-- The loss of a unit, which is all that a total knows of the unit: the family of its outcomes, and
-- the greatest outcome at each level.
pub record Loss : Type 0 where
  pub family : Family
  pub last_outcome : ℕ → ℕ

-- At each level the outcomes of a loss go up to the last and make up the whole weight there, and
-- nothing falls as claims are added.
pub record IsLoss (u : Loss) : Type 0 where
  pub cells_rise : (y : ℕ) → Rises (u.family.cells y)
  pub last_rises : (N : ℕ) → u.last_outcome N ≤ u.last_outcome (suc N)
  pub past : (y N : ℕ) → u.last_outcome N < y → u.family.cells y N ≡ whole 0
  pub full : (N : ℕ) → sum_to (u.last_outcome N) (λ y. u.family.cells y N) ≡ u.family.all N

-- each of them is one
abbrev pub AreDeclarable : List Loss → Type 0
AreDeclarable [] = Unit {0}
AreDeclarable (u ∷ us) = IsLoss u × AreDeclarable us

-- a term of a price: its weight, the probability of its tail, and a whole number for the quantile
pub record PricedTerm : Type 0 where
  pub weight : Fraction
  pub p : Fraction
  pub quantile : ℕ

-- What is asked of the total: that it is there at all, that it is x, that it is at most x, its
-- mean, its part in the layer of a limit above an attachment, its tail mean at p where q is the
-- quantile, the outcome of unit i, that outcome where the total is x, a weighted sum of tail means,
-- that it is below q or with the part u at q, and the outcome of unit i over 1 - p in the tail above
-- that.
pub data Quantity : Type 0 where
  One : Quantity
  Point : ℕ → Quantity
  Cdf : ℕ → Quantity
  Mean : Quantity
  Layer : Option ℕ → ℕ → Quantity
  Tail : Fraction → ℕ → Quantity
  Outcome : ℕ → Quantity
  Joint : ℕ → ℕ → Quantity
  Price : List PricedTerm → Quantity
  Part : ℕ → Fraction → Quantity
  Share : ℕ → Fraction → ℕ → Fraction → Quantity

-- q, and what of x lies above it over 1 - p
abbrev pub above_quantile : Fraction → ℕ → ℕ → Fraction
above_quantile p q x = whole q +ℚ whole (x - q) /ℚ (whole 1 -ℚ p)

-- what a list of outcomes, one of each unit, counts for
abbrev pub score : Quantity → List ℕ → Fraction
score One ys = whole 1
score (Point x) ys = where_true (nat_eq (sum ys) x) (whole 1)
score (Cdf x) ys = where_true (nat_le (sum ys) x) (whole 1)
score Mean ys = whole (sum ys)
score (Layer limit attachment) ys = whole (layer limit attachment (sum ys))
score (Tail p q) ys = above_quantile p q (sum ys)
score (Outcome i) ys = whole (get_or ys i 0)
score (Joint i x) ys = where_true (nat_eq (sum ys) x) (whole (get_or ys i 0))
score (Price terms) ys = sum_over terms (λ t. t.weight *ℚ above_quantile t.p t.quantile (sum ys))
score (Part q u) ys =
    where_true (nat_lt (sum ys) q) (whole 1) +ℚ where_true (nat_eq (sum ys) q) u
score (Share i p q u) ys = where_true (nat_lt q (sum ys)) (whole (get_or ys i 0) /ℚ (whole 1 -ℚ p))
    +ℚ where_true (nat_eq (sum ys) q)
    ((whole 1 -ℚ u) *ℚ whole (get_or ys i 0) /ℚ (whole 1 -ℚ p))

-- the sum, over all lists of one outcome from 0 to the last of each unit, of the value times the
-- product of the outcomes' cells
unfoldable pub sum_over_outcomes : List Loss → (List ℕ → Fraction) → Series
sum_over_outcomes [] value N = value []
sum_over_outcomes (u ∷ us) value N =
    sum_to (u.last_outcome N)
    (λ y. u.family.cells y N *ℚ sum_over_outcomes us (λ ys. value (y ∷ ys)) N)

-- the quantity over at most N claims of each unit; its declared value is the least upper bound of
-- these, divided by that of One
abbrev pub partial_sums : List Loss → Quantity → Series
partial_sums us quantity = sum_over_outcomes us (score quantity)

-- the totals of independent units
abbrev pub total : List Loss → Family
total us = record { cells = λ x. partial_sums us (Point x); all = partial_sums us One }
