-- The mean of a total, from those of its units.
use Rattle.dl_sources.proofs.Common.{ℕ, suc, ◌≡◌, ◌+◌, ◌-◌, ◌*◌, ◌^◌, ◌≤◌, List, [], ◌∷◌, length, map, arith, sym, ap, subst, subst₂, ◌∙◌, Option, None, Some, All, mul-le-mul_left, pow_pos, Fraction, whole, ◌over◌, ◌*ℚ◌, ◌+ℚ◌, Iv, spread, CedeLayer, Plan, Clause, horizon, IsValidUnit, IsValid, claims_budget, mean_width, unit_mean_budget, one_horizon, AreUnitMeans, IsUnitMean, IsMeanOf, loss_of, sum_by, All-tail, over_same, one_pos, over_plus, are_units, no_clause, units_declared, MeanHolds, units_mean, UnitOfPlan, layer_budget, clause_mean, part_width, HoldsClaims, HoldsKept, independent, IsClaimsSum, IsClauseMean, sum_by-cons, sum_over, mean_of_total, All-head, up_above, bits_of, most_mean, most_mean_budget, most_total_at, total_units, at_most_wider, mean_with_change, loss_of_declared, mean_budget, mean_by}
use Rattle.dl_sources.proofs.Losses.{is_independent}
use Rattle.std.proofs.Math.Nat.{le_trans, mul-le-mul_right}
use Rattle.dl_plan.specs.Prelude.{declared_mean, growth, whole_mean, whole_means}
use Rattle.dl_outcomes.proofs.Means.{mean_low as low_of_mean}

-- ---- of a unit without a clause

pub plain_mean : {B : ℕ} {cells : ℕ} {u : UnitOfPlan} {mean : Iv B} → u.cede ≡ None → HoldsClaims u mean
    → mean.hi ≤ mean.lo + 1 → IsClauseMean cells u mean
plain_mean {B} {cells = cells} {u = u} {mean = mean} none holds narrow = record {
  holds = rw (no_clause u none) holds;
  narrow = omega (arith, narrow, ap (λ c. clause_mean c (claims_budget (2 ^ B) (horizon u.cede cells) u)) none);
}

-- ---- of a unit with a clause

layer_rises : (v w : ℕ) (limit : Option ℕ) (attach : ℕ) → v ≤ w
    → part_width v limit attach ≤ layer_budget w limit attach
layer_rises v w None attach h = omega (arith, mul-le-mul_left attach h)
layer_rises v w (Some limit) attach h = omega (arith, mul-le-mul_left limit h)

layers_rise : (v w : ℕ) (layers : List CedeLayer) → v ≤ w
    → sum_by (λ l. part_width v l.limit l.attach) layers ≤ sum_by (λ l. layer_budget w l.limit l.attach) layers
layers_rise v w [] h = omega arith
layers_rise v w (l ∷ layers) h =
    omega (
      arith,
      layer_rises v w l.limit l.attach h,
      layers_rise v w layers h,
      sum_by-cons (λ (l : CedeLayer). part_width v l.limit l.attach) l layers,
      sum_by-cons (λ (l : CedeLayer). layer_budget w l.limit l.attach) l layers,
    )

clause_rises : (v w : ℕ) (cede : Option Clause) → v ≤ w → mean_width cede v ≤ clause_mean cede w
clause_rises v w None h = omega arith
clause_rises v w (Some clause) h = omega (arith, layers_rise v w clause.1 h)

pub clause_unit_mean : {B : ℕ} {cells : ℕ} {u : UnitOfPlan} (g : List (Iv B)) {mean : Iv B} → IsValidUnit cells u
    → HoldsKept u mean → mean.hi - mean.lo ≤ mean_width u.cede (spread g) → IsClaimsSum cells u g
    → IsClauseMean cells u mean
clause_unit_mean {B} {cells = cells} {u = u} g valid holds width sum = record {
  holds = holds;
  narrow =
      omega (
        arith,
        clause_rises (spread g) (claims_budget (2 ^ B) (horizon u.cede cells) u) u.cede
            (rw (one_horizon cells cells (length g) u valid sum.horizon) at sum.narrow),
      );
}

-- ---- the sum

abbrev lows : {B : ℕ} → List (Iv B) → ℕ
lows means = sum_by (λ mean. mean.lo) means

abbrev highs : {B : ℕ} → List (Iv B) → ℕ
highs means = sum_by (λ mean. mean.hi) means

later_means : {B : ℕ} (cells : ℕ) (u : UnitOfPlan) (us : List UnitOfPlan) (m : Iv B) (means : List (Iv B))
    → AreUnitMeans cells (u ∷ us) (m ∷ means) → AreUnitMeans cells us means
later_means cells u us m means each = record {
  as_many = omega (arith, each.as_many);
  each = λ i v n inside. each.each (suc i) v n (omega (arith, inside));
}

nothing : UnitOfPlan → Fraction
nothing u = whole 0

no_units : (B : ℕ) → MeanHolds [] (0 over 2 ^ B) (0 over 2 ^ B)
unfolding sum_over
no_units B =
    subst (λ v. MeanHolds [] v v) (sym (over_same 0 (2 ^ B) 0 1 (pow_pos B) one_pos (omega arith)))
    (units_mean 0 nothing nothing [] (λ i d inside. absurd (omega (arith, inside)))
    (λ i d inside. absurd (omega (arith, inside))))

means_hold : {B : ℕ} (cells : ℕ) (us : List UnitOfPlan) (means : List (Iv B)) → All (IsValidUnit cells) us
    → AreUnitMeans cells us means
    → MeanHolds us (lows means over 2 ^ B) (highs means over 2 ^ B)
means_hold {B} cells [] [] valid each = no_units B
means_hold {B} cells [] (m ∷ means) valid each = absurd (omega (arith, each.as_many))
means_hold {B} cells (u ∷ us) [] valid each = absurd (omega (arith, each.as_many))
means_hold {B} cells (u ∷ us) (m ∷ means) valid each =
    let rest = All-tail (IsValidUnit cells) u us valid in
    let are = units_declared cells (u ∷ us) valid in
    let low : (m.lo + lows means) over 2 ^ B ≡ m.lo over 2 ^ B +ℚ lows means over 2 ^ B =
    over_plus m.lo (lows means) (2 ^ B) (pow_pos B) in
    let high : (m.hi + highs means) over 2 ^ B ≡ m.hi over 2 ^ B +ℚ highs means over 2 ^ B =
    over_plus m.hi (highs means) (2 ^ B) (pow_pos B) in
    let sums : MeanHolds (u ∷ us) (m.lo over 2 ^ B +ℚ lows means over 2 ^ B)
    (m.hi over 2 ^ B +ℚ highs means over 2 ^ B) =
    mean_of_total (loss_of u) (map loss_of us) are.0.loss (are_units (map loss_of us) are.1) (m.lo over 2 ^ B)
    (m.hi over 2 ^ B)
    (lows means over 2 ^ B) (highs means over 2 ^ B)
    (each.each 0 u m (omega arith)).holds (means_hold cells us means rest (later_means cells u us m means each)) in
    subst₂ (MeanHolds (u ∷ us))
    (sym low ∙ ap (λ t. t over 2 ^ B) (sym (sum_by-cons (λ (mean : Iv B). mean.lo) m means)))
    (sym high ∙ ap (λ t. t over 2 ^ B) (sym (sum_by-cons (λ (mean : Iv B). mean.hi) m means))) sums

means_narrow : {B : ℕ} (cells : ℕ) (us : List UnitOfPlan) (means : List (Iv B)) → AreUnitMeans cells us means
    → highs means ≤ lows means + sum_by (unit_mean_budget (2 ^ B) cells) us
means_narrow {B} cells [] [] each = omega arith
means_narrow {B} cells [] (m ∷ means) each = absurd (omega (arith, each.as_many))
means_narrow {B} cells (u ∷ us) [] each = absurd (omega (arith, each.as_many))
means_narrow {B} cells (u ∷ us) (m ∷ means) each =
    omega (
      arith,
      (each.each 0 u m (omega arith)).narrow,
      means_narrow cells us means (later_means cells u us m means each),
      sum_by-cons (λ (mean : Iv B). mean.lo) m means,
      sum_by-cons (λ (mean : Iv B). mean.hi) m means,
      sum_by-cons (unit_mean_budget (2 ^ B) cells) u us,
    )

-- no low end is above what the means of the units come to
mean_low : {B : ℕ} (cells : ℕ) (u : UnitOfPlan) (m : Iv B) → IsValidUnit cells u → IsUnitMean cells u m
    → m.lo ≤ whole_mean u * 2 ^ B
mean_low {B} cells u m valid is =
    low_of_mean B (loss_of u) (whole_mean u) m (loss_of_declared cells u valid) is.holds
    (at_most_wider _ _ _ _ (mean_with_change cells u valid) (up_above (whole (growth u.zero) *ℚ declared_mean u)))

lows_fit : {B : ℕ} (cells : ℕ) (us : List UnitOfPlan) (means : List (Iv B)) → All (IsValidUnit cells) us
    → AreUnitMeans cells us means → lows means ≤ whole_means us * 2 ^ B
lows_fit {B} cells [] [] valid each = omega arith
lows_fit {B} cells [] (m ∷ means) valid each = absurd (omega (arith, each.as_many))
lows_fit {B} cells (u ∷ us) [] valid each = absurd (omega (arith, each.as_many))
lows_fit {B} cells (u ∷ us) (m ∷ means) valid each =
    omega (
      arith,
      mean_low cells u m (All-head (IsValidUnit cells) u us valid) (each.each 0 u m (omega arith)),
      lows_fit cells us means (All-tail (IsValidUnit cells) u us valid) (later_means cells u us m means each),
      sum_by-cons (λ (mean : Iv B). mean.lo) m means,
      ap (λ t. t * 2 ^ B) (sum_by-cons whole_mean u us),
    )

-- the means of a valid plan's independent units, where their budgets are not too large
pub means_fit : {B : ℕ} (plan : Plan) (means : List (Iv B)) → B ≡ bits_of plan.cells → IsValid plan → plan.common ≡ None
    → AreUnitMeans plan.cells plan.units means → mean_budget (2 ^ B) plan ≤ most_mean_budget → highs means ≤ most_mean
means_fit {B} plan means scale valid none each small =
    let own : sum_by (unit_mean_budget (2 ^ B) plan.cells) plan.units ≤ most_mean_budget =
    subst (λ o. mean_by o (2 ^ B) plan.cells plan.units ≤ most_mean_budget) none small in
    let most : whole_means plan.units * 2 ^ B ≤ 17 * 2 ^ 92 =
    le_trans (mul-le-mul_right (2 ^ B) valid.means)
    (subst (λ b. most_total_at plan.cells * 2 ^ b ≤ 17 * 2 ^ 92) (sym scale) (total_units plan.cells)) in
    omega (
      arith,
      most,
      lows_fit plan.cells plan.units means valid.units each,
      means_narrow plan.cells plan.units means each,
    )

pub is_mean : {B : ℕ} (means : List (Iv B)) (mean : Iv B) → mean.lo ≡ sum_by (λ mean. mean.lo) means
    → mean.hi ≡ sum_by (λ mean. mean.hi) means
    → (plan : Plan) → IsValid plan → plan.common ≡ None → AreUnitMeans plan.cells plan.units means → IsMeanOf plan mean
is_mean {B} means mean low high plan valid none each =
    subst (λ whole. IsMeanOf whole mean) (is_independent plan none) alone
  where
    alone : IsMeanOf (independent plan) mean
    alone = record {
      holds = rw (low, high) (means_hold plan.cells plan.units means valid.units each);
      narrow = omega (arith, low, high, means_narrow plan.cells plan.units means each);
    }
