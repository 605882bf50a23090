-- The total of a valid plan as a sum of losses: those of its units, or one loss for units that share a factor.
use Rattle.dl_answers.proofs.Common.{ℕ, zero, suc, ◌≡◌, ◌^◌, List, [], ◌∷◌, map, arith, refl, sym, subst₂, Option, None, Some, IfSome, Fraction, ◌over◌, ◌+ℚ◌, Iv, low_at, high_at, AreDeclarable, AreDeclared, Loss, One, Point, partial_sums, total, GridEncloses, loss, loss_of, plan_declared, IsValid, Plan, IsTotalOf, fun_ext, ◌-ℚ◌, UnitOfPlan, HasCommonFactor, Series, Holds, AtLeast, AtMost, Below, Quantity, PricedTerm, Cdf, IsQuantile, IsBracketed, declared, declared_by, pooled_unit, CountsTotal, are_units, total_cdf, total_point, IsTight, AreQuantiles, poisson_units, are_severities, greatest_of, pooled_past, some, as_one_loss, one_declared}

abbrev pub losses_by : Option Fraction → List UnitOfPlan → List Loss
losses_by None units = map loss_of units
losses_by (Some r) units = loss (pooled_unit r (poisson_units units) (greatest_of units)) ∷ []

abbrev pub losses_of : Plan → List Loss
losses_of plan = losses_by plan.common plan.units

declared_losses : (common : Option Fraction) (units : List UnitOfPlan) → IfSome common (λ r. HasCommonFactor r units)
    → AreDeclared (map loss_of units) → AreDeclared (losses_by common units)
declared_losses None units factor each = each
declared_losses (Some r) units factor each = (
  one_declared r factor.shape.above (poisson_units units) (some units r factor) (are_severities units) (greatest_of units)
      (pooled_past units),
  tt,
)

told_by : (common : Option Fraction) (units : List UnitOfPlan) → IfSome common (λ r. HasCommonFactor r units)
    → (quantity : Quantity) → CountsTotal quantity
    → partial_sums (losses_by common units) quantity ≡ declared_by common units quantity
told_by None units factor quantity total = refl
told_by (Some r) units factor quantity total =
    fun_ext (λ N. sym (as_one_loss r factor.shape.above (poisson_units units) (some units r factor) (are_severities units)
    (greatest_of units) (pooled_past units) quantity total N))

module _ {plan : Plan} (valid : IsValid plan) where
  pub losses_declared : AreDeclared (losses_of plan)
  losses_declared = declared_losses plan.common plan.units valid.common (plan_declared plan valid)

  pub losses_units : AreDeclarable (losses_of plan)
  losses_units = are_units (losses_of plan) losses_declared

  abbrev D : Quantity → Series
  D = declared plan

  abbrev E : Quantity → Series
  E = partial_sums (losses_of plan)

  -- what the losses declare of their total, the plan does
  told : (quantity : Quantity) → CountsTotal quantity → E quantity ≡ D quantity
  told = told_by plan.common plan.units valid.common

  all_told : E One ≡ D One
  all_told = told One (λ ys. refl)

  pub told_of : (P : Series → Series → Type 0) (quantity : Quantity) → CountsTotal quantity
      → P (E quantity) (E One) → P (D quantity) (D One)
  told_of P quantity total h = subst₂ P (told quantity total) all_told h

  told_back : (P : Series → Series → Type 0) (quantity : Quantity) → CountsTotal quantity
      → P (D quantity) (D One) → P (E quantity) (E One)
  told_back P quantity total h = subst₂ P (sym (told quantity total)) (sym all_told) h

  pub holds_told : (quantity : Quantity) → CountsTotal quantity → (l h : Fraction) → Holds (E quantity) (E One) l h
      → Holds (D quantity) (D One) l h
  holds_told quantity total l h = told_of (λ Q O. Holds Q O l h) quantity total

  pub holds_back : (quantity : Quantity) → CountsTotal quantity → (l h : Fraction) → Holds (D quantity) (D One) l h
      → Holds (E quantity) (E One) l h
  holds_back quantity total l h = told_back (λ Q O. Holds Q O l h) quantity total

  pub quantile_back : (x : ℕ) (p : Fraction) → IsQuantile D x p → IsQuantile E x p
  quantile_back x p h = record {
    reached = told_back (λ Q O. AtLeast Q O p) (Cdf x) (total_cdf x) h.reached;
    before = λ y is. told_back (λ Q O. Below Q O p) (Cdf y) (total_cdf y) (h.before y is);
  }

  pub quantiles_back : (priced : List PricedTerm) → AreQuantiles D priced → AreQuantiles E priced
  quantiles_back priced h = λ i t inside. quantile_back _ _ (h i t inside)

  pub bracket_told : (lo : ℕ) (hi : Option ℕ) (p : Fraction) → IsBracketed E lo hi p → IsBracketed D lo hi p
  bracket_told lo hi p h = record {
    before = λ y is. told_of (λ Q O. Below Q O p) (Cdf y) (total_cdf y) (h.before y is);
    reached = λ y is. told_of (λ Q O. AtLeast Q O p) (Cdf y) (total_cdf y) (h.reached y is);
  }

  pub tight_told : (cells lo : ℕ) (hi : Option ℕ) (p d : Fraction) → IsTight E cells lo hi p d
      → IsTight D cells lo hi p d
  tight_told cells lo hi p d h = λ x from inside before.
      let both = h x from inside before in (
        told_of (λ Q O. AtMost Q O (p +ℚ d)) (Cdf x) (total_cdf x) both.0,
        told_of (λ Q O. AtLeast Q O (p -ℚ d)) (Cdf x) (total_cdf x) both.1,
      )

  pub encloses_losses : {B : ℕ} {g : List (Iv B)} → IsTotalOf plan g → GridEncloses g (total (losses_of plan))
  encloses_losses {B} {g = g} t y inside =
      holds_back (Point y) (total_point y) (low_at g y over 2 ^ B) (high_at g y over 2 ^ B) (t.encloses y inside)
