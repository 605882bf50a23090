-- The cells of what a unit's clause keeps, from those of its sum of claims.
use Rattle.dl_outcomes.proofs.Common.{ℕ, zero, suc, ◌≡◌, ◌≢◌, inl, inr, ◌-◌, ◌^◌, ◌<◌, ◌≤◌, ◌⊎◌, min, Some, List, length, arith, sym, ap, ap₂, subst, ◌∙◌, IfSome, pow_pos, eqb_tells, Fraction, whole, ◌over◌, sum_to, over_self, Iv, low_at, high_at, probability_of, Clause, kept, IsHorizonOf, IsAggregate, IsValidUnit, whole_den, Holds, Aggregate, IsDeclarable, outcome, Encloses, GridEncloses, outcome_after, aggregate_of, compound_of, sum_kept, sum_elsewhere, IsTakenIn, IsLeft, whole_num, horizon_one, horizon_settled, greatest, mapped, count_weights, UnitOfPlan, unit_declared}
use Rattle.dl_outcomes.proofs.Mapped.{unit_of, kept_few, kept_rest}

pub same_whole : (x y : ℕ) → whole x ≡ whole y → x ≡ y
same_whole x y e = sym (whole_num x) ∙ ap (λ (q : Fraction). q.num) e ∙ whole_num y

-- a fraction is the whole number y or not
tells_whole : (x : Fraction) (y : ℕ) → (x ≡ whole y) ⊎ (x ≢ whole y)
tells_whole x y = elim (eqb_tells x.den 1) [
  | inl p ↦ elim (eqb_tells x.num y) [
    | inl q ↦ inl (sym (over_self x) ∙ ap₂ (λ a b. a over b) q.1 p.1)
    | inr q ↦ inr (λ e. q.1 (ap (λ (z : Fraction). z.num) e ∙ whole_num y))
  ]
  | inr p ↦ inr (λ e. p.1 (ap (λ (z : Fraction). z.den) e ∙ whole_den y))
]

-- the ends l and h of cell y hold the unit's outcome y
abbrev HoldsCell : UnitOfPlan → (S y l h : ℕ) → Type 0
HoldsCell u S y l h = Holds (outcome (aggregate_of u) y) (λ N. sum_to N (count_weights u.freq)) (l over S) (h over S)

module _ (u : UnitOfPlan) (clause : Clause) (all : ℕ) (valid : IsValidUnit all u) (is : u.cede ≡ Some clause) where
  agg : IsAggregate all u.sev clause
  agg = subst (λ t. IfSome t (IsAggregate all u.sev)) is valid.clause

  abbrev most : ℕ
  most = greatest u.sev.items

  abbrev w : ℕ → Fraction
  w = count_weights u.freq

  abbrev this : Aggregate
  this = unit_of u.sev clause all most w agg

  same_unit : aggregate_of u ≡ this
  same_unit = ap (λ o. record { count = w; severity = probability_of u.sev; most = most; clause = outcome_after o }) is

  unit : IsDeclarable this
  unit = subst IsDeclarable same_unit (unit_declared all u valid).unit

  to_cell : (S y l h : ℕ) → Holds (outcome this y) (λ N. sum_to N w) (l over S) (h over S) → HoldsCell u S y l h
  to_cell S y l h = subst (λ a. Holds (outcome a y) (λ N. sum_to N w) (l over S) (h over S)) (sym same_unit)

  few_at : (S K : ℕ) (lo hi : ℕ → ℕ) (n y : ℕ) → 0 < S → IsHorizonOf (Some clause) n K
      → Encloses S K lo hi (compound_of u.freq u.sev)
      → y < n → kept clause K ≢ whole y → HoldsCell u S y (sum_kept clause K lo y) (min S (sum_kept clause K hi y))
  few_at S zero lo hi n y pos h e inside other = absurd (omega (arith, horizon_one clause n 0 h))
  few_at S (suc k) lo hi n y pos h e inside other =
      to_cell S y (sum_kept clause (suc k) lo y) (min S (sum_kept clause (suc k) hi y))
      (kept_few u.sev clause all most w agg S k lo hi pos unit e n y (horizon_settled clause n (suc k) agg.accepted h)
      inside other)

  rest_at : (S K : ℕ) (lo hi : ℕ → ℕ) (n y : ℕ) → 0 < S → IsHorizonOf (Some clause) n K
      → Encloses S K lo hi (compound_of u.freq u.sev)
      → y < n → kept clause K ≡ whole y → sum_elsewhere clause K lo y ≤ S
      → HoldsCell u S y (S - min S (sum_elsewhere clause K hi y)) (S - sum_elsewhere clause K lo y)
  rest_at S zero lo hi n y pos h e inside here fits = absurd (omega (arith, horizon_one clause n 0 h))
  rest_at S (suc k) lo hi n y pos h e inside here fits =
      let count = (unit_declared all u valid).count in
      to_cell S y (S - min S (sum_elsewhere clause (suc k) hi y)) (S - sum_elsewhere clause (suc k) lo y)
      (kept_rest u.sev clause all most w agg S k lo hi pos unit e count.bound n y count.bounded
      (horizon_settled clause n (suc k) agg.accepted h) inside here fits)

  pub encloses : {B : ℕ} (sums grid : List (Iv B)) (n : ℕ) → IsHorizonOf u.cede n (length sums)
      → GridEncloses sums (compound_of u.freq u.sev) → length grid ≡ n
      → ((y : ℕ) → y < n → kept clause (length sums) ≢ whole y → IsTakenIn clause sums grid y)
      → ((y : ℕ) → y < n → kept clause (length sums) ≡ whole y → IsLeft clause sums grid y)
      → GridEncloses grid (mapped (aggregate_of u))
  encloses {B} sums grid n horizon e cells inside past y within =
      let there : y < n = omega arith in
      let same : IsHorizonOf (Some clause) n (length sums) = rw is at horizon in
      elim (tells_whole (kept clause (length sums)) y) [
        | inl here ↦
            let left = past y there here in
            let clamped : low_at grid y ≡ 2 ^ B - min (2 ^ B) (sum_elsewhere clause (length sums) (high_at sums) y) =
            omega (arith, left.low) in
            rw (clamped, left.high) (rest_at (2 ^ B) (length sums) (low_at sums) (high_at sums) n y (pow_pos B) same e
            there here left.within)
        | inr other ↦
            let taken = inside y there other in
            rw (taken.low, taken.high) (few_at (2 ^ B) (length sums) (low_at sums) (high_at sums) n y (pow_pos B) same e
            there other)
      ]
