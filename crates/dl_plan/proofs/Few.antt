-- Sums over the units of a plan, of which few have a changed probability of no claim.
use Rattle.dl_plan.proofs.Common.{ℕ, ◌≡◌, ◌+◌, ◌*◌, ◌≤◌, List, [], ◌∷◌, length, cond, ap, arith, All, All-head, All-tail, Option, None, Some, sum_by, sum_by-cons, mul-le-mul_right, count_by-le-length, is_some, standard_units, AreFew, changed_units, IsValid, Plan}
use Rattle.dl_plan.specs.declared.plan.Unit.{Unit as UnitOfPlan}

-- at most a for each unit, and e more for each changed one
pub sum_of_kinds : (f : UnitOfPlan → ℕ) (a e : ℕ) (us : List UnitOfPlan)
    → All (λ u. f u ≤ a + cond (is_some u.zero) e 0) us → sum_by f us ≤ length us * a + changed_units us * e
sum_of_kinds f a e [] each = omega arith
sum_of_kinds f a e (u ∷ us) each =
    omega (
      arith,
      sum_by-cons f u us,
      ap (λ t. t * e) (sum_by-cons (λ (u : UnitOfPlan). cond (is_some u.zero) 1 0) u us),
      All-head (λ (u : UnitOfPlan). f u ≤ a + cond (is_some u.zero) e 0) u us each,
      sum_of_kinds f a e us (All-tail (λ (u : UnitOfPlan). f u ≤ a + cond (is_some u.zero) e 0) u us each),
      one_more u.zero,
    )
  where
    one_more : {A : Type 0} (z : Option A) → cond (is_some z) e 0 ≡ cond (is_some z) 1 0 * e
    one_more None = omega arith
    one_more (Some p) = omega arith

-- of at most 256 units, 16 of them changed
pub sum_of_few : (f : UnitOfPlan → ℕ) (a e : ℕ) (us : List UnitOfPlan) → AreFew us
    → All (λ u. f u ≤ a + cond (is_some u.zero) e 0) us → sum_by f us ≤ 256 * a + 16 * e
sum_of_few f a e us few each =
    omega (
      arith,
      sum_of_kinds f a e us each,
      mul-le-mul_right a (length_few us few),
      mul-le-mul_right e (changed_few us few),
    )
  where
    length_few : (us : List UnitOfPlan) → AreFew us → length us ≤ 256
    length_few us few = omega (arith, few.few)

    changed_few : (us : List UnitOfPlan) → AreFew us → changed_units us ≤ 16
    changed_few us few = omega (arith, few.changed)

-- of at most 16 units, each of them changed
pub sum_of_standard : (f : UnitOfPlan → ℕ) (a e : ℕ) (us : List UnitOfPlan) → length us ≤ standard_units
    → All (λ u. f u ≤ a + cond (is_some u.zero) e 0) us → sum_by f us ≤ 16 * a + 16 * e
sum_of_standard f a e us few each =
    let changed : changed_units us ≤ 16 =
    omega (arith, few, count_by-le-length (λ (u : UnitOfPlan). is_some u.zero) us) in
    omega (arith, sum_of_kinds f a e us each, mul-le-mul_right a few, mul-le-mul_right e changed)

-- those of a valid plan
pub are_few : (plan : Plan) → IsValid plan → AreFew plan.units
are_few plan valid = record { few = valid.few; changed = valid.changed }

-- at most 16 units, by the standard rules
pub standard_few : (us : List UnitOfPlan) → length us ≤ standard_units → AreFew us
standard_few us few = record {
  few = omega (arith, few);
  changed = omega (arith, few, count_by-le-length (λ (u : UnitOfPlan). is_some u.zero) us);
}
