-- A unit whose probability of no claim is changed: its grid and its mean from those before the change.
use Rattle.dl_sources.proofs.Common.{ℕ, ◌≡◌, ◌+◌, ◌-◌, ◌*◌, ◌^◌, ◌≤◌, List, length, arith, ap, subst, ◌∙◌, None, Some, Option, IfSome, mul-le-mul_left, Fraction, whole, ◌≤ℚ◌, Iv, spread, GridEncloses, Aggregate, loss, unit_declared, aggregate_of, IsValidUnit, horizon, mean_width, claims_budget, after_clause, IsUnitGrid, IsUnitMean, IsPlanScale, bits_of, most_amount_at, most_expected, over_self, ceiling_div, up, UnitOfPlan, declared_mean, IsNewZero, mean_most, new_zero, IsDeclared, at_most_wider, mean_at_most, unit_declared_loss, none_budget, budget_after_zero, mean_after_zero, most_claims_mean, most_limited, most_clause_mean, IsClauseGrid, IsClauseMean, changed, count_new_zero, none_small, HoldsNone, HoldsMean, IsBefore, changed_spread, changed_mean_width}
use Rattle.dl_outcomes.proofs.Means.{none_low as low_of_none, mean_low as low_of_mean}
use Rattle.dl_sources.proofs.Scales.{changed_fits, mean_fits, scale_least}

-- ---- a unit without a change

pub same_grid : {B : ℕ} {cells : ℕ} {u : UnitOfPlan} {g : List (Iv B)} → u.zero ≡ None → IsClauseGrid cells u g
    → IsUnitGrid cells u g
same_grid {B} {cells = cells} {u = u} {g = g} none h = record {
  cells = h.cells;
  encloses = rw none h.encloses;
  narrow = omega (
    arith,
    ap (λ z. budget_after_zero z cells (none_budget (2 ^ B) u.freq)
        (after_clause u.cede (claims_budget (2 ^ B) (horizon u.cede cells) u))) none,
  );
}

pub same_mean : {B : ℕ} {cells : ℕ} {u : UnitOfPlan} {mean : Iv B} → u.zero ≡ None → IsClauseMean cells u mean
    → IsUnitMean cells u mean
same_mean {B} {cells = cells} {u = u} {mean = mean} none h = record {
  holds = rw none h.holds;
  narrow = omega (
    arith,
    ap (λ z. mean_after_zero z (up (declared_mean u)) (none_budget (2 ^ B) u.freq)
        (mean_width u.cede (claims_budget (2 ^ B) (horizon u.cede cells) u))) none,
  );
}

-- ---- a unit with a change

module _ {B : ℕ} {cells : ℕ} {u : UnitOfPlan} {p : Fraction} (none : Iv B) (scale : IsPlanScale B)
    (valid : IsValidUnit cells u) (is : u.zero ≡ Some p) (holds : HoldsNone (aggregate_of u) none)
    (width : none.hi - none.lo ≤ none_budget (2 ^ B) u.freq) where
  zero_of : IsNewZero u.freq p
  zero_of = new_zero cells u p valid is

  declared : IsDeclared (aggregate_of u)
  declared = unit_declared cells u valid

  -- the probability of no claim is at most 16 / 17 before the change
  pub none_low : 17 * none.lo ≤ 16 * 2 ^ B
  none_low = low_of_none B (aggregate_of u) none declared holds (count_new_zero u.freq p valid.count zero_of)

  pub none_high : 18 * none.hi ≤ 17 * 2 ^ B
  none_high = omega (arith, none_low, none_small B u.freq p scale valid.count zero_of, scale_least B scale)

  pub before : {g : List (Iv B)} → IsClauseGrid cells u g → IsBefore (aggregate_of u) g none
  before h = record { declared = declared; grid = h.encloses; none = holds }

  pub changed_grid : {g made : List (Iv B)} → IsClauseGrid cells u g → length made ≡ length g
      → ((a : Aggregate) → IsBefore a g none → GridEncloses made (changed p a).family)
      → spread made ≤ changed_spread (spread g) (none.hi - none.lo) (length g) → IsUnitGrid cells u made
  changed_grid {made = made} h many encloses narrow = record {
    cells = many ∙ h.cells;
    encloses = rw is (encloses (aggregate_of u) (before h));
    narrow = omega (
      arith,
      ap (λ z. budget_after_zero z cells (none_budget (2 ^ B) u.freq)
          (after_clause u.cede (claims_budget (2 ^ B) (horizon u.cede cells) u))) is,
    );
  }

  -- a whole number that the mean before is at most
  most : ℕ
  most = up (declared_mean u)

  mean_within : declared_mean u ≤ℚ whole most
  unfolding most up
  mean_within =
      let mean = declared_mean u in
      subst (λ x. x ≤ℚ whole (up mean)) (over_self mean) (ceiling_div mean.num mean.den mean.positive).above

  mean_low : (mean : Iv B) → IsClauseMean cells u mean → mean.lo ≤ most * 2 ^ B
  mean_low mean h =
      low_of_mean B (loss (aggregate_of u)) most mean (unit_declared_loss (aggregate_of u) declared) h.holds
      (at_most_wider _ _ _ _ (mean_at_most cells u valid) mean_within)

  pub changed_mean : {mean made : Iv B} → IsClauseMean cells u mean
      → ((a : Aggregate) → IsDeclared a → HoldsMean (loss a) mean → HoldsNone a none → HoldsMean (changed p a) made)
      → ((m : ℕ) → mean.lo ≤ m * 2 ^ B → 17 * none.lo ≤ 16 * 2 ^ B
      → made.hi - made.lo ≤ changed_mean_width (mean.hi - mean.lo) m (none.hi - none.lo))
      → IsUnitMean cells u made
  unfolding most
  changed_mean {mean = mean} {made = made} h held narrow = record {
    holds = rw is (held (aggregate_of u) declared h.holds holds);
    narrow = omega (
      arith,
      narrow most (mean_low mean h) none_low,
      mul-le-mul_left (306 * most) width,
      ap (λ z. mean_after_zero z (up (declared_mean u)) (none_budget (2 ^ B) u.freq)
          (mean_width u.cede (claims_budget (2 ^ B) (horizon u.cede cells) u))) is,
    );
  }

-- ---- how large the mean is before the change

pub small_before : {B : ℕ} {cells : ℕ} {u : UnitOfPlan} (mean : Iv B) → B ≡ bits_of cells → IsValidUnit cells u
    → mean.hi ≤ most_claims_mean cells (2 ^ B) + most_limited (2 ^ B)
    → ((n : ℕ) → declared_mean u ≤ℚ whole n → mean.hi ≤ n * 2 ^ B + most_limited (2 ^ B))
    → mean.hi ≤ most_clause_mean u.zero
small_before {B} {cells = cells} {u = u} mean same valid small few = by_zero u.zero valid.zero
  where
    by_zero : (z : Option Fraction) → IfSome z (IsNewZero u.freq) → mean.hi ≤ most_clause_mean z
    by_zero None h = mean_fits B cells mean.hi same small
    by_zero (Some p) h = changed_fits B cells mean.hi same
        (few (most_expected * most_amount_at cells) (mean_most most_expected (most_amount_at cells) u h.most valid.amounts))

-- where the probability of no claim is changed, and in any unit
pub changed_small : (u : UnitOfPlan) {p : Fraction} (hi : ℕ) → u.zero ≡ Some p → hi ≤ most_clause_mean u.zero
    → hi ≤ 2 ^ 88 + 2 ^ 82
changed_small u hi is small = subst (λ z. hi ≤ most_clause_mean z) is small

pub most_small : (z : Option Fraction) (hi : ℕ) → hi ≤ most_clause_mean z → hi ≤ 2 ^ 93
most_small None hi small = small
most_small (Some p) hi small = omega (arith, small)
