-- The expected counts of a plan's units, and their means.
use Rattle.dl_model.proofs.Common.{ℕ, ◌≡◌, List, [], ◌∷◌, map, arith, refl, sym, ap, subst, ◌∙◌, All, All-head, All-tail, Fraction, whole, ◌*ℚ◌, ◌≤ℚ◌, sum_over, over_self, ring, times_comm, one_times, le_trans, Freq, Fixed, Table, Bernoulli, Binomial, Poisson, Gamma, pairs_of, mean_amount, greatest, expected_count, IsValidUnit, num_le_den, total_pos, AtLeast, AtMost, Holds, IfSome, IsDeclared, IsLoss, One, Mean, Series, changed, fun_ext, level_mean, sum_over_outcomes, partial_sums, count_weights, outcome_after, loss_of, Sev, probability_of, Aggregate, IsDeclarable, loss, aggregate_of, after_zero, le_of_eq, total, order, le_refl_n, UnitOfPlan, IsCountOfPlan, sum_to, ◌over◌, ◌-ℚ◌, ◌/ℚ◌, ◌<ℚ◌, over_pos, div_times, le_refl, one_pos, sub_le_both, times_le_times, times_one, zero_le, zero_times, over_lt, over_mul, over_same, over_sub, IsNewZero}
use Rattle.dl_model.proofs.TotalLaws.{none_holds, unit_loss, mean_alone, sub_zero, total_alone_all}
use Rattle.std.proofs.Common.{None, Option, Some, subst₂, ◌*◌, ◌-◌}
use Rattle.dl_plan.specs.Prelude.{declared_mean, growth}
use Rattle.dl_model.proofs.ChangedLoss.{changed_mean_values}
use Rattle.dl_model.proofs.Declared.{at_most_wider}
use Rattle.dl_model.proofs.NewZero.{count_new_zero}
use Rattle.dl_model.proofs.CountMeans.{finite_mean, fixed_mean, binomial_mean, poisson_mean, gamma_mean, HasMean}
use Rattle.dl_model.proofs.Means.{mean_of_unit}
use Rattle.dl_model.proofs.TotalMeans.{mean_of_total}
use Rattle.dl_model.proofs.Bounded.{are_units}
use Rattle.dl_model.proofs.ItemWeights.{shares_severity, shares_mean, severity_mean}
use Rattle.dl_model.proofs.PlanUnits.{loss_of_declared, unit_declared, units_declared}
use Rattle.dl_model.proofs.UnitLosses.{unit_mean_le}

pub count_mean : (freq : Freq) → IsCountOfPlan freq → HasMean (count_weights freq) (expected_count freq)
count_mean (Fixed m) h = fixed_mean m
count_mean (Table counts total) h =
    let far = greatest counts in
    subst (HasMean (count_weights (Table counts total))) (shares_mean counts total far (total_pos counts total h.0) (le_refl_n far))
    (finite_mean _ far (shares_severity counts total h.0))
count_mean (Bernoulli q) h = subst (HasMean (count_weights (Bernoulli q)))
    (one_times _ ∙ over_self q) (binomial_mean 1 q.num q.den q.positive (num_le_den q h.within))
count_mean (Binomial trials q) h = subst (HasMean (count_weights (Binomial trials q)))
    (ap (λ x. whole trials *ℚ x) (over_self q)) (binomial_mean trials q.num q.den q.positive (num_le_den q h.1.within))
count_mean (Poisson mean) h = poisson_mean mean
count_mean (Gamma shape mean) h = gamma_mean shape mean h.shape.above

-- a unit of these claims
abbrev pub with_clause : Freq → Sev → (ℕ → ℕ) → Aggregate
with_clause freq sev clause = record {
  count = count_weights freq;
  severity = probability_of sev;
  most = greatest sev.items;
  clause = clause;
}

-- its mean, where the clause leaves each sum as it is
pub plain_mean : (freq : Freq) (sev : Sev) (clause : ℕ → ℕ) → IsDeclarable (with_clause freq sev clause)
    → IsCountOfPlan freq → ((s : ℕ) → clause s ≡ s)
    → Holds (partial_sums (loss (with_clause freq sev clause) ∷ []) Mean)
    (partial_sums (loss (with_clause freq sev clause) ∷ []) One) (expected_count freq *ℚ mean_amount (pairs_of sev))
    (expected_count freq *ℚ mean_amount (pairs_of sev))
plain_mean freq sev clause is count same =
    let u = with_clause freq sev clause in
    let e = expected_count freq in
    subst (λ v. Holds (partial_sums (loss u ∷ []) Mean) (partial_sums (loss u ∷ []) One) v v)
    (ap (λ m. m *ℚ e) (severity_mean sev _ (le_refl_n _)) ∙ times_comm _ e) (mean_of_unit u is same e e (count_mean freq count))

-- the declared mean of units lies from l to h
abbrev pub MeanHolds : List UnitOfPlan → Fraction → Fraction → Type 0
MeanHolds units l h = Holds (partial_sums (map loss_of units) Mean) (partial_sums (map loss_of units) One) l h

pub unit_mean : (cells : ℕ) (u : UnitOfPlan) → IsValidUnit cells u → u.cede ≡ None → u.zero ≡ None
    → MeanHolds (u ∷ []) (expected_count u.freq *ℚ mean_amount (pairs_of u.sev))
    (expected_count u.freq *ℚ mean_amount (pairs_of u.sev))
unit_mean cells u h none same =
    let v = expected_count u.freq *ℚ mean_amount (pairs_of u.sev) in
    subst (λ z. Holds (partial_sums (after_zero z (aggregate_of u) ∷ []) Mean)
    (partial_sums (after_zero z (aggregate_of u) ∷ []) One) v v) (sym same)
    (plain_mean u.freq u.sev (outcome_after u.cede) (unit_declared cells u h).unit h.count
    (λ s. ap (λ cede. outcome_after cede s) none))

-- no clause raises the mean
pub mean_at_most : (cells : ℕ) (u : UnitOfPlan) → IsValidUnit cells u
    → AtMost (partial_sums (loss (aggregate_of u) ∷ []) Mean) (partial_sums (loss (aggregate_of u) ∷ []) One)
    (expected_count u.freq *ℚ mean_amount (pairs_of u.sev))
mean_at_most cells u h N v bound =
    let l = loss (aggregate_of u) in
    let unit = (unit_declared cells u h).unit in
    let is = unit_loss (aggregate_of u) unit in
    let e = expected_count u.freq in
    let a = mean_amount (pairs_of u.sev) in
    let claims = (count_mean u.freq h.count).1 N v
    (λ M. subst (λ t. t ≤ℚ v) (total_alone_all l is M) (bound M)) in
    rw (mean_alone l is N) (le_trans _ _ _ (unit_mean_le (aggregate_of u) unit N) (grw (order, claims)
    (le_of_eq _ _ (ap (λ m. m *ℚ (e *ℚ v)) (severity_mean u.sev _ (le_refl_n _)) ∙ simp ring))))

-- 1 over 17 is left of 1 by 16 over 17
rest_of_some : whole 1 -ℚ 16 over 17 ≡ 1 over 17
rest_of_some = over_sub 1 1 16 17 one_pos (omega arith)
    ∙ over_same (1 * 17 - 16 * 1) (1 * 17) 1 17 (omega arith) (omega arith) (omega arith)

seventeen : whole 17 *ℚ 1 over 17 ≡ whole 1
seventeen = over_mul 17 1 1 17 one_pos (omega arith) ∙ over_same (17 * 1) (1 * 17) 1 1 (omega arith) one_pos (omega arith)

-- divided by it, and with a part taken of that
part_of_more : (p m : Fraction) → (whole 1 -ℚ p) *ℚ (m /ℚ (whole 1 -ℚ 16 over 17)) ≤ℚ whole 17 *ℚ m
part_of_more p m =
    let r = 1 over 17 in
    let q = m /ℚ r in
    let pos : whole 0 <ℚ r = over_pos 1 17 (omega arith) (omega arith) in
    let times : whole 17 *ℚ m ≡ q =
    ap (λ t. whole 17 *ℚ t) (sym (div_times m r pos)) ∙ turned q r ∙ ap (λ t. q *ℚ t) seventeen ∙ times_one q in
    rw (rest_of_some, times) (subst (λ t. (whole 1 -ℚ p) *ℚ q ≤ℚ t) (one_times q)
    (times_le_times (whole 1 -ℚ p) (whole 1) q (subst (λ t. whole 1 -ℚ p ≤ℚ t) (sub_zero (whole 1))
    (sub_le_both _ _ _ _ (le_refl (whole 1)) (zero_le p)))))
  where
    turned : (q r : Fraction) → whole 17 *ℚ (q *ℚ r) ≡ q *ℚ (whole 17 *ℚ r)
    turned q r = simp ring

-- nor does a change of the probability of no claim make it more than 17 times as large
pub mean_with_change : (cells : ℕ) (u : UnitOfPlan) → IsValidUnit cells u
    → AtMost (partial_sums (loss_of u ∷ []) Mean) (partial_sums (loss_of u ∷ []) One)
    (whole (growth u.zero) *ℚ declared_mean u)
mean_with_change cells u h = by u.zero h.zero (loss_of_declared cells u h).loss
  where
    m : Fraction
    m = declared_mean u

    a : Aggregate
    a = aggregate_of u

    declared : IsDeclared a
    declared = unit_declared cells u h

    loss_is : IsLoss (loss a)
    loss_is = unit_loss a declared.unit

    before : AtMost (level_mean (loss a)) (λ N. sum_to N a.count) m
    before = subst₂ (λ Q R. AtMost Q R m) (fun_ext (mean_alone (loss a) loss_is))
        (fun_ext (total_alone_all (loss a) loss_is)) (mean_at_most cells u h)

    least : (Q R : Series) → AtLeast Q R (whole 0)
    least Q R N v bound = rw (zero_times (R N)) (zero_le v)

    by : (z : Option Fraction) → IfSome z (IsNewZero u.freq) → IsLoss (after_zero z a)
        → AtMost (partial_sums (after_zero z a ∷ []) Mean) (partial_sums (after_zero z a ∷ []) One) (whole (growth z) *ℚ m)
    by None new is = subst (AtMost (partial_sums (loss a ∷ []) Mean) (partial_sums (loss a ∷ []) One)) (sym (one_times m))
        (mean_at_most cells u h)
    by (Some p) new is =
        let l = changed p a in
        let after = (changed_mean_values p a declared (whole 0) m (whole 0) (16 over 17) (least _ _, before)
        (least _ _, count_new_zero u.freq p h.count new) (zero_le _) (over_lt 16 17 1 1 (omega arith) one_pos (omega arith))).1 in
        subst₂ (λ Q R. AtMost Q R (whole 17 *ℚ m)) (sym (fun_ext (mean_alone l is))) (sym (fun_ext (total_alone_all l is)))
        (at_most_wider (level_mean l) l.family.all _ _ after (part_of_more p m))

pub units_mean : (cells : ℕ) (l h : UnitOfPlan → Fraction) (units : List UnitOfPlan) → All (IsValidUnit cells) units
    → All (λ u. MeanHolds (u ∷ []) (l u) (h u)) units → MeanHolds units (sum_over units l) (sum_over units h)
unfolding sum_over sum_over_outcomes
units_mean cells l h [] valid each = none_holds (partial_sums [] Mean) (partial_sums [] One) (λ N. refl)
units_mean cells l h (u ∷ us) valid each =
    let are = units_declared cells (u ∷ us) valid in
    let P : UnitOfPlan → Type 0 = λ v. MeanHolds (v ∷ []) (l v) (h v) in
    mean_of_total (loss_of u) (map loss_of us) are.0.loss (are_units (map loss_of us) are.1) (l u) (h u) (sum_over us l)
    (sum_over us h) (All-head P u us each)
    (units_mean cells l h us (All-tail (IsValidUnit cells) u us valid) (All-tail P u us each))
