-- The parts of a unit make it up, and those of a covered plan, each as often as the target says, its total.
use Rattle.dl_cert.proofs.Common.{ℕ, zero, suc, ◌≡◌, ◌≢◌, ◌<◌, ◌^◌, ◌∙◌, inl, inr, refl, sym, ap, subst, arith, List, [], ◌∷◌, map, get_or, None, cases_eq, eq-eqb, ne_eqb, All-head, All-tail, All-nil, All-cons, pow_pos, All, Fraction, whole, ◌*ℚ◌, ◌/ℚ◌, ◌<ℚ◌, ◌over◌, times_zero, zero_or_pos, times_comm, div_times, whole_pos, one_pos, over_self, over_cross, ◌^ℚ◌, over_zero, Freq, Fixed, Table, Bernoulli, Binomial, Poisson, Gamma, Plan, UnitOfPlan, Sev, probability_of, expected_count, IsCountOfPlan, thinned_mean, IsValid, IsValidUnit, num_le_den, halvings, power, IsWithinOne, Family, product, nothing, times_itself, SameCells, after_zero, compound_of, aggregate_of, loss_of, aggregates_of, outcome_after, Loss, total, sum_over_outcomes, fixed_claims, trials, positive, given_part, none_thinned, within_one, HasValues, Label, labelled, IsTable, IsWholeShaped, IsCoveredUnit, IsCovered, above_zero, part_of, parts_of, unit_part, unit_parts, parts_of_plan, target, num_pos, quantity_bounded, whole_positive, are_units, fixed_count, binomial_count, poisson_count, gamma_of_count, gamma_shares, no_units, total_more, total_more_all, total_proper, unit_declared, units_declared, poisson_shares, unit_proper, unit_plain, unit_loss}
use Rattle.dl_model.specs.Prelude.{One, compound, gamma_of, loss, mapped}
use Rattle.dl_cert.proofs.SameProducts.{same_products}
use Rattle.dl_cert.proofs.Values.{nothing_values, compound_values, labelled_values, itself_values, values_same, values_trans, part_within}

-- ---- where no claim above 0 is expected, and where some is

none_is_zero : (v : Fraction) → v.num ≡ 0 → v ≡ whole 0
none_is_zero v e = sym (over_self v) ∙ ap (λ n. n over v.den) e ∙ over_zero v.den v.positive

zero_num : (whole 0).num ≡ 0
zero_num = omega (arith, over_cross 0 1 one_pos)

-- k shares of m make up m
shares_make_up : (m : Fraction) (k : ℕ) → 0 < k → whole k *ℚ (m /ℚ whole k) ≡ m
shares_make_up m k pos = times_comm _ _ ∙ div_times m (whole k) (whole_pos k pos)

-- a product that is above 0 has a factor above 0
some_positive : (e p v : Fraction) → v ≡ e *ℚ p → v.num ≢ 0 → whole 0 <ℚ p
some_positive e p v is some = elim (zero_or_pos p) [
  | inl none ↦ absurd (some (ap (λ (x : Fraction). x.num) (is ∙ ap (λ t. e *ℚ t) none ∙ times_zero e) ∙ zero_num))
  | inr pos ↦ pos
]

-- a count of none of a family is the outcome 0
no_times : (F : Family) → SameCells (times_itself F 0) nothing
unfolding power ◌^ℚ◌
no_times F = values_same (times_itself F 0) nothing (λ y N. refl) (λ N. refl)

module _ (sev : Sev) (v : Fraction) where
  pub above_within : (e : Fraction) → v ≡ e *ℚ positive sev → v.num ≢ 0 → IsWithinOne (above_zero sev)
  above_within e is some =
      part_within (probability_of sev) (positive sev) (above_zero sev) (given_part sev)
      (some_positive e (positive sev) v is some) (within_one sev)

-- ---- one unit

pub part_values : (freq : Freq) (sev : Sev) (v : Fraction) → IsCountOfPlan freq
    → v ≡ expected_count freq *ℚ positive sev → HasValues (part_of freq sev v)
part_values (Fixed m) sev v h is = compound_values _ _ (within_one sev) (fixed_count 1)
part_values (Table counts total) sev v h is = nothing_values
part_values (Bernoulli q) sev v h is =
    compound_values _ _ (within_one sev) (binomial_count 1 q.num q.den q.positive (num_le_den q h.within))
part_values (Binomial trials q) sev v h is =
    compound_values _ _ (within_one sev) (binomial_count 1 q.num q.den q.positive (num_le_den q h.1.within))
part_values (Poisson mean) sev v h is = elim (cases_eq v.num 0) [
  | inl none ↦ rw (eq-eqb v.num 0 none) nothing_values
  | inr some ↦ rw (ne_eqb v.num 0 some)
      (compound_values _ _ (above_within sev v mean is some) (poisson_count (v /ℚ whole (2 ^ halvings v))))
]
part_values (Gamma shape mean) sev v h is = elim (cases_eq v.num 0) [
  | inl none ↦ rw (eq-eqb v.num 0 none) nothing_values
  | inr some ↦ rw (ne_eqb v.num 0 some)
      (compound_values _ _ (above_within sev v mean is some)
      (gamma_of_count (whole 1) (v /ℚ shape) (whole_pos 1 (omega arith))))
]

-- n shares of shape 1 are a gamma count of shape n
whole_shares : (n : ℕ) (mean : Fraction) (sev : Sev) (v : Fraction) → 0 < n → v ≡ mean *ℚ positive sev
    → SameCells (times_itself (compound (gamma_of (whole 1) (v /ℚ whole n)) (above_zero sev)) n)
    (compound (gamma_of (whole n) mean) (probability_of sev))
whole_shares zero mean sev v some is = absurd (omega arith)
whole_shares (suc q) mean sev v some is =
    gamma_shares q (v /ℚ whole (suc q)) mean (probability_of sev) (positive sev) (above_zero sev) (given_part sev)
    (shares_make_up v (suc q) some ∙ is)

pub parts_make_up : (freq : Freq) (sev : Sev) (v : Fraction) → IsCountOfPlan freq → ¬ IsTable freq
    → IsWholeShaped freq → v ≡ expected_count freq *ℚ positive sev
    → SameCells (times_itself (part_of freq sev v) (parts_of freq v)) (compound_of freq sev)
parts_make_up (Fixed m) sev v h plain is_whole is = fixed_claims (probability_of sev) m
parts_make_up (Table counts total) sev v h plain is_whole is = absurd (plain tt)
parts_make_up (Bernoulli q) sev v h plain is_whole is = trials (probability_of sev) 1 q.num q.den q.positive
parts_make_up (Binomial m q) sev v h plain is_whole is = trials (probability_of sev) m q.num q.den q.positive
parts_make_up (Poisson mean) sev v h plain is_whole is = elim (cases_eq v.num 0) [
  | inl none ↦ rw (eq-eqb v.num 0 none) (values_trans _ nothing _ (no_times nothing)
      (none_thinned (Poisson mean) sev h tt (sym is ∙ none_is_zero v none)))
  | inr some ↦ rw (ne_eqb v.num 0 some)
      (poisson_shares (v /ℚ whole (2 ^ halvings v)) mean (2 ^ halvings v) (probability_of sev) (positive sev)
      (above_zero sev) (given_part sev) (shares_make_up v (2 ^ halvings v) (pow_pos (halvings v)) ∙ is))
]
parts_make_up (Gamma shape mean) sev v h plain is_whole is = elim (cases_eq v.num 0) [
  | inl none ↦ rw (eq-eqb v.num 0 none) (values_trans _ nothing _ (no_times nothing)
      (none_thinned (Gamma shape mean) sev h tt (sym is ∙ none_is_zero v none)))
  | inr some ↦ rw (ne_eqb v.num 0 some, eq-eqb shape.den 1 is_whole)
      (subst (λ r. SameCells (times_itself (compound (gamma_of (whole 1) (v /ℚ r)) (above_zero sev)) shape.num)
      (compound (gamma_of r mean) (probability_of sev)))
      (sym (ap (λ d. shape.num over d) is_whole) ∙ over_self shape)
      (whole_shares shape.num mean sev v (num_pos shape h.shape.above) is))
]

-- without a clause the outcomes of a unit are the sums of its claims
plain_unit : (cells : ℕ) (u : UnitOfPlan) → IsValidUnit cells u → u.cede ≡ None
    → SameCells (compound_of u.freq u.sev) (mapped (aggregate_of u))
plain_unit cells u h none =
    values_same _ _
    (λ y N. sym (unit_plain (aggregate_of u) (unit_declared cells u h).unit
    (λ s. ap (λ clause. outcome_after clause s) none) y N))
    (λ N. refl)

unit_values : (cells : ℕ) (u : UnitOfPlan) → IsValidUnit cells u → HasValues (mapped (aggregate_of u))
unit_values cells u h =
    let d = unit_declared cells u h in
    record {
      proper = unit_proper (aggregate_of u) d.unit;
      bound = d.count.bound;
      bounded = d.count.bounded;
      level = d.count.level;
      positive = d.count.positive;
    }

-- ---- all units

total_values : (cells : ℕ) (us : List UnitOfPlan) → All (IsValidUnit cells) us → HasValues (total (map loss_of us))
total_values cells us h =
    let d = units_declared cells us h in
    let bound = quantity_bounded (map loss_of us) One d tt in
    let some = whole_positive (map loss_of us) d in
    record {
      proper = total_proper (map loss_of us) (are_units (map loss_of us) d);
      bound = bound.0;
      bounded = bound.1;
      level = some.0;
      positive = some.1;
    }

pub parts_values : (cells : ℕ) (us : List UnitOfPlan) → All (IsValidUnit cells) us → All HasValues (map unit_part us)
parts_values cells [] h = All-nil HasValues
parts_values cells (u ∷ us) h =
    let here = All-head (IsValidUnit cells) u us h in
    All-cons HasValues (unit_part u) (map unit_part us) (part_values u.freq u.sev (thinned_mean u) here.count refl)
    (parts_values cells us (All-tail (IsValidUnit cells) u us h))

-- how often the target counts each of some units
abbrev counts : List UnitOfPlan → Label
counts us i = get_or (map unit_parts us) i 0

pub units_make_up : (cells : ℕ) (us : List UnitOfPlan) → All (IsValidUnit cells) us → All IsCoveredUnit us
    → SameCells (labelled (map unit_part us) (counts us)) (total (map loss_of us))
unfolding labelled sum_over_outcomes
units_make_up cells [] h covered = values_same _ _ (λ y N. sym (no_units y N)) (λ N. refl)
units_make_up cells (u ∷ us) h covered =
    let here = All-head (IsValidUnit cells) u us h in
    let later = All-tail (IsValidUnit cells) u us h in
    let plain = All-head IsCoveredUnit u us covered in
    let is = unit_loss (aggregate_of u) (unit_declared cells u here).unit in
    let l = loss (aggregate_of u) in
    let same : l ≡ loss_of u = ap (λ z. after_zero z (aggregate_of u)) (sym plain.zero) in
    subst (λ (v : Loss). SameCells (labelled (map unit_part (u ∷ us)) (counts (u ∷ us))) (total (v ∷ map loss_of us))) same
    (values_trans _ (product (mapped (aggregate_of u)) (total (map loss_of us))) _
    (same_products (times_itself (unit_part u) (unit_parts u)) (mapped (aggregate_of u))
    (labelled (map unit_part us) (counts us)) (total (map loss_of us))
    (itself_values (unit_part u) (part_values u.freq u.sev (thinned_mean u) here.count refl) (unit_parts u))
    (unit_values cells u here)
    (labelled_values (map unit_part us) (counts us) (parts_values cells us later))
    (total_values cells us later)
    (values_trans _ (compound_of u.freq u.sev) _
    (parts_make_up u.freq u.sev (thinned_mean u) here.count plain.count plain.shape refl)
    (plain_unit cells u here plain.clause))
    (units_make_up cells us later (All-tail IsCoveredUnit u us covered)))
    (values_same _ _ (λ y N. sym (total_more l (map loss_of us) is y N))
    (λ N. sym (total_more_all l (map loss_of us) is N))))

pub plan_made_up : (plan : Plan) → IsValid plan → IsCovered plan
    → SameCells (labelled (parts_of_plan plan) (target plan)) (total (aggregates_of plan))
plan_made_up plan h covered = units_make_up plan.cells plan.units h.units covered.units
