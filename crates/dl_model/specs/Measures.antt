-- Quantiles and their brackets, what is above a sum, one unit beside the others, and what can be
-- declared and asked.
use Rattle.std.specs.Prelude.{ℕ, zero, suc, ◌≡◌, nat_lt, Option, Some, List, [], ◌∷◌, sum}
use Rattle.dl_exact.specs.Prelude.{Fraction, whole, ◌*ℚ◌, ◌<ℚ◌, sum_to}
use Rattle.dl_model.specs.Series.{Series, IsBound, AtLeast, Below, Settles}
use Rattle.dl_model.specs.Program.{Loss, IsLoss, Quantity, One, Point, Cdf, Mean, Layer, Tail, Outcome, Joint, Price, Part, Share, PricedTerm, where_true, sum_over_outcomes}
use Rattle.dl_model.specs.Family.{Family, nothing}

-- 1 where the total is above x
abbrev pub above : ℕ → List ℕ → Fraction
above x ys = where_true (nat_lt x (sum ys)) (whole 1)

-- the whole less the distribution at x
abbrev pub survival : List Loss → ℕ → Series
survival us x = sum_over_outcomes us (above x)

-- q is the quantile at p of what declares these quantities: its distribution is at least p at q,
-- and below p before
pub record IsQuantile (declares : Quantity → Series) (q : ℕ) (p : Fraction) : Type 0 where
  pub reached : AtLeast (declares (Cdf q)) (declares One) p
  pub before : (x : ℕ) → q ≡ suc x → Below (declares (Cdf x)) (declares One) p

-- from lo to hi is a bracket at p: the distribution is below p before lo, and at least p at hi
-- where there is one
pub record IsBracketed (declares : Quantity → Series) (lo : ℕ) (hi : Option ℕ)
    (p : Fraction) : Type 0 where
  pub before : (x : ℕ) → lo ≡ suc x → Below (declares (Cdf x)) (declares One) p
  pub reached : (x : ℕ) → hi ≡ Some x → AtLeast (declares (Cdf x)) (declares One) p

-- the family of unit i, and the outcome 0 where there is none
abbrev pub unit_of : List Loss → ℕ → Family
unit_of [] i = nothing
unit_of (u ∷ us) zero = u.family
unit_of (u ∷ us) (suc i) = unit_of us i

-- the units without unit i
abbrev pub without : List Loss → ℕ → List Loss
without [] i = []
without (u ∷ us) zero = us
without (u ∷ us) (suc i) = u ∷ without us i

-- The mean of a loss from at most N claims: the sum of each outcome times its cell.
abbrev pub level_mean : Loss → Series
level_mean u N = sum_to (u.last_outcome N) (λ y. whole y *ℚ u.family.cells y N)

-- A loss that can be declared: its whole weight is bounded, above 0 at some level, and comes near
-- its least upper bound; and its mean is bounded.
pub record IsDeclaredLoss (u : Loss) : Type 0 where
  pub loss : IsLoss u
  pub bound : Fraction
  pub bounded : IsBound u.family.all bound
  pub level : ℕ
  pub positive : whole 0 <ℚ u.family.all level
  pub settles : Settles u.family.all
  pub mean_bound : Fraction
  pub mean_bounded : IsBound (level_mean u) mean_bound

-- each of them can be
abbrev pub AreDeclared : List Loss → Type 0
AreDeclared [] = Unit {0}
AreDeclared (u ∷ us) = IsDeclaredLoss u × AreDeclared us

-- each term of a price is a tail mean at p below 1
abbrev pub ArePriced : List PricedTerm → Type 0
ArePriced [] = Unit {0}
ArePriced (t ∷ terms) = (t.p <ℚ whole 1) × ArePriced terms

-- tail means are asked for at p below 1
abbrev pub IsAsked : Quantity → Type 0
IsAsked One = Unit {0}
IsAsked (Point x) = Unit {0}
IsAsked (Cdf x) = Unit {0}
IsAsked Mean = Unit {0}
IsAsked (Layer limit attachment) = Unit {0}
IsAsked (Tail p q) = p <ℚ whole 1
IsAsked (Outcome i) = Unit {0}
IsAsked (Joint i x) = Unit {0}
IsAsked (Price terms) = ArePriced terms
IsAsked (Part q u) = Unit {0}
IsAsked (Share i p q u) = p <ℚ whole 1
