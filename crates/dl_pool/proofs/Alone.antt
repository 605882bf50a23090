-- The plan of the one unit is valid: its amounts are those of the units, and its thinned mean is the sum of theirs.
use Rattle.dl_pool.proofs.Common.{ℕ, FitsFrac, plus_comm, le_plus, ◌≡◌, ◌∙◌, ◌<◌, ◌≤◌, List, [], ◌∷◌, length, take, get_or, inl, inr, refl, ap, ap₂, sym, subst, arith, All, take_all, cases_lt, sum_by-cons, Fraction, whole, ◌over◌, ◌+ℚ◌, ◌-ℚ◌, ◌*ℚ◌, ◌/ℚ◌, ◌≤ℚ◌, ◌<ℚ◌, sum_over, sum_over_same, sum_over_times, ring, le_refl, le_trans, div_times, times_cancel, times_one, times_zero, times_plus, plus_zero, plus_cancel, sub_plus, times_le_both, over_zero, severity_total, Item, Sev, UnitOfPlan, Plan, HasPartsOf48Bits, greatest, weight_at, probability_of, expected_count, IsUnbounded, Freq, Gamma, thinned_mean, SharesFactor, expected_of, thinned_of, raised, PoissonUnit, expected_claims, pooled_severity, poisson_units, IsMixedOf, IsPooled, IsRaised, alone, ◌==◌, cond, fun_ext, eq-eqb, ne_eqb, get_or-le-sum_by, le_div, whole_le, same_num, over_le, IsClaimCount, has_factor, weight_at-le, gamma_of, Quantity, partial_sums, loss, plain, after_zero, aggregate_of, count_weights, outcome_after, declared, common_sums, pooled_unit, CountsTotal, as_one_loss, declared_is, expected_units, are_severities, pooled_over, shares_severity, standard_few, standard_means, part_back, All-head, All-tail, All-cons, All-nil, IsValid, IsValidUnit, IsAggregate, IsNewZero, IfSome, most_amount_at, most_beta, most_expected, div_le_both, IsThinnedGamma, IsThinnedTo}

-- ---- no amount is past those of the units

absent : (items : List Item) (top a : ℕ) → All (λ (i : Item). i.amount ≤ top) items → top < a → weight_at items a ≡ 0
absent [] top a near far = refl
absent (item ∷ items) top a near far =
    let here = All-head (λ (i : Item). i.amount ≤ top) item items near in
    let other = ap (λ t. cond t item.weight 0) (ne_eqb item.amount a (λ e. omega arith)) in
    omega (
      arith,
      sum_by-cons (λ (i : Item). cond (i.amount == a) i.weight 0) item items,
      absent items top a (All-tail (λ (i : Item). i.amount ≤ top) item items near) far,
    )

none_past : (v : Fraction) (units : List UnitOfPlan) (top a : ℕ)
    → All (λ (u : UnitOfPlan). All (λ (i : Item). i.amount ≤ top) u.sev.items) units → top < a
    → sum_over units (λ u. expected_count u.freq /ℚ v *ℚ probability_of u.sev a) ≡ whole 0
unfolding sum_over
none_past v [] top a near far = refl
none_past v (u ∷ us) top a near far =
    ap₂ (λ s t. s +ℚ t)
    (ap (λ p. expected_count u.freq /ℚ v *ℚ p)
    (ap (λ n. n over u.sev.total) (absent u.sev.items top a
    (All-head (λ (u : UnitOfPlan). All (λ (i : Item). i.amount ≤ top) u.sev.items) u us near) far)
    ∙ over_zero u.sev.total (severity_total u.sev))
    ∙ times_zero _)
    (none_past v us top a
    (All-tail (λ (u : UnitOfPlan). All (λ (i : Item). i.amount ≤ top) u.sev.items) u us near) far)
    ∙ plus_zero (whole 0)

-- an item of a severity has a weight, so its amount has
weight_here : (sev : Sev) (k : ℕ) (d : Item) → k < length sev.items
    → 0 < weight_at sev.items (get_or sev.items k d).amount
weight_here sev k d inside =
    let a : ℕ = (get_or sev.items k d).amount in
    let own = get_or-le-sum_by (λ (i : Item). cond (i.amount == a) i.weight 0) sev.items k d inside in
    let all = ap (λ t. cond t (get_or sev.items k d).weight 0) (eq-eqb a a refl) in
    omega (arith, sev.weighted.positive k d inside)

pub amounts_near : (units : List UnitOfPlan) (made : UnitOfPlan) (top : ℕ)
    → ((x : ℕ) → probability_of made.sev x ≡ pooled_severity (poisson_units units) x)
    → All (λ (u : UnitOfPlan). All (λ (i : Item). i.amount ≤ top) u.sev.items) units
    → All (λ (i : Item). i.amount ≤ top) made.sev.items
amounts_near units made top same near k d inside = elim (cases_lt top (get_or made.sev.items k d).amount) [
  | inr h ↦ h
  | inl far ↦ absurd (
      let a : ℕ = (get_or made.sev.items k d).amount in
      let pos : 0 < made.sev.total = severity_total made.sev in
      let none : weight_at made.sev.items a over made.sev.total ≡ 0 over made.sev.total =
      same a ∙ pooled_over units a ∙ none_past (expected_of units) units top a near far
      ∙ sym (over_zero made.sev.total pos) in
      omega (arith, same_num _ _ made.sev.total pos none, weight_here made.sev k d inside))
]

-- ---- the thinned mean

zero_le_one : (sev : Sev) → probability_of sev 0 ≤ℚ whole 1
zero_le_one sev = over_le (weight_at sev.items 0) sev.total 1 1 (severity_total sev) (omega arith)
    (omega (arith, weight_at-le sev.items))

-- v * (1 - P), where P are the units' probabilities of 0 by their parts of v
rest_back : (n p : Fraction) → p ≤ℚ whole 1 → n *ℚ (whole 1 -ℚ p) +ℚ n *ℚ p ≡ n
rest_back n p within = sym (times_plus n (whole 1 -ℚ p) p) ∙ ap (λ t. n *ℚ t) (sub_plus (whole 1) p within) ∙ times_one n

thinned_and_rest : (units : List UnitOfPlan)
    → thinned_of units +ℚ sum_over units (λ u. expected_count u.freq *ℚ probability_of u.sev 0) ≡ expected_of units
unfolding sum_over
thinned_and_rest [] = plus_zero (whole 0)
thinned_and_rest (u ∷ us) =
    turn (thinned_mean u) (thinned_of us) (expected_count u.freq *ℚ probability_of u.sev 0) _
    ∙ ap₂ (λ s t. s +ℚ t) (rest_back (expected_count u.freq) (probability_of u.sev 0) (zero_le_one u.sev))
    (thinned_and_rest us)
  where
    turn : (a b c d : Fraction) → a +ℚ b +ℚ (c +ℚ d) ≡ a +ℚ c +ℚ (b +ℚ d)
    turn a b c d = simp ring

module _ (units : List UnitOfPlan) (some : whole 0 <ℚ expected_of units) (made : UnitOfPlan)
    (same : (x : ℕ) → probability_of made.sev x ≡ pooled_severity (poisson_units units) x) where
  abbrev v : Fraction
  v = expected_of units

  abbrev none : Fraction
  none = probability_of made.sev 0

  -- the expected claims of amount 0
  zeros : v *ℚ none ≡ sum_over units (λ u. expected_count u.freq *ℚ probability_of u.sev 0)
  zeros =
      ap (λ t. v *ℚ t) (same 0 ∙ pooled_over units 0)
      ∙ sym (sum_over_times v (λ (u : UnitOfPlan). expected_count u.freq /ℚ v *ℚ probability_of u.sev 0) units)
      ∙ sum_over_same _ _ units (λ u. part_back v (expected_count u.freq) (probability_of u.sev 0) some)

  pub pooled_thinned : v *ℚ (whole 1 -ℚ none) ≡ thinned_of units
  pooled_thinned =
      plus_cancel _ _ (v *ℚ none)
      (rest_back v none (zero_le_one made.sev)
      ∙ sym (ap (λ t. thinned_of units +ℚ t) zeros ∙ thinned_and_rest units))

  pub raised_thinned : (r : Fraction) → whole 0 <ℚ r → raised r v *ℚ (whole 1 -ℚ none) ≡ raised r (thinned_of units)
  raised_thinned r above =
      times_cancel _ _ r above
      (turn (raised r v) (whole 1 -ℚ none) r
      ∙ ap (λ t. t *ℚ (whole 1 -ℚ none)) (div_times (v *ℚ (r +ℚ whole 1)) r above)
      ∙ turn v (r +ℚ whole 1) (whole 1 -ℚ none)
      ∙ ap (λ t. t *ℚ (r +ℚ whole 1)) pooled_thinned
      ∙ sym (div_times (thinned_of units *ℚ (r +ℚ whole 1)) r above))
    where
      turn : (a b c : Fraction) → a *ℚ b *ℚ c ≡ a *ℚ c *ℚ b
      turn a b c = simp ring

module _ (r h : Fraction) (above : whole 0 <ℚ r) where
  -- raising makes no less
  pub raised_more : h ≤ℚ raised r h
  raised_more = le_div h r (h *ℚ (r +ℚ whole 1)) above (times_le_both h h _ _ (le_refl h) (le_plus r (whole 1)))

  -- over the shape it is the same
  raised_part : whole 0 <ℚ r +ℚ whole 1 → raised r h /ℚ (r +ℚ whole 1) ≡ h /ℚ r
  raised_part next = times_cancel _ _ (r +ℚ whole 1) next (div_times (raised r h) (r +ℚ whole 1) next
      ∙ times_cancel _ _ r above (div_times (h *ℚ (r +ℚ whole 1)) r above
      ∙ ap (λ t. t *ℚ (r +ℚ whole 1)) (sym (div_times h r above)) ∙ turn (h /ℚ r) r (r +ℚ whole 1)))
    where
      turn : (a b c : Fraction) → a *ℚ b *ℚ c ≡ a *ℚ c *ℚ b
      turn a b c = simp ring

  -- and that is no more than it
  part_few : raised r h ≤ℚ whole most_expected → h /ℚ r ≤ℚ whole most_beta
  part_few few = le_trans _ _ _ (div_le_both h (h *ℚ (r +ℚ whole 1)) r r above
      (subst (λ t. t ≤ℚ h *ℚ (r +ℚ whole 1)) (times_one h) (times_le_both h h _ _ (le_refl h)
      (subst (λ t. whole 1 ≤ℚ t) (plus_comm (whole 1) r) (le_plus (whole 1) r)))) (le_refl r))
      (le_trans _ _ _ few (whole_le most_expected most_beta (omega arith)))

-- ---- the plan

module _ (cells : ℕ) (units : List UnitOfPlan) (count : Freq) (made : UnitOfPlan) (each : All (IsValidUnit cells) units)
    (is : IsMixedOf units count made) (counted : IsClaimCount count) (unbounded : IsUnbounded count)
    (expected : HasPartsOf48Bits (expected_count count))
    (admitted : HasPartsOf48Bits (expected_count count *ℚ (whole 1 -ℚ probability_of made.sev 0)))
    (few : expected_count count *ℚ (whole 1 -ℚ probability_of made.sev 0) ≤ℚ whole most_expected)
    (thin : IsThinnedTo count (expected_count count *ℚ (whole 1 -ℚ probability_of made.sev 0))) where
  pub mixed_valid : IsValidUnit cells made
  mixed_valid = record {
    amounts = amounts_near units made (most_amount_at cells) is.severity (λ k d h. (each k d h).amounts);
    items = λ bounded. absurd (bounded (subst IsUnbounded (sym is.count) unbounded));
    count = subst IsClaimCount (sym is.count) counted;
    expected = subst (λ f. HasPartsOf48Bits (expected_count f)) (sym is.count) expected;
    thinned = λ unbounded. subst (λ f. HasPartsOf48Bits (expected_count f *ℚ (whole 1 -ℚ probability_of made.sev 0))
        × (expected_count f *ℚ (whole 1 -ℚ probability_of made.sev 0) ≤ℚ whole most_expected)) (sym is.count)
        (admitted, few);
    thinned_count = subst (λ f. IsThinnedTo f (expected_count f *ℚ (whole 1 -ℚ probability_of made.sev 0)))
        (sym is.count) thin;
    clause = subst (λ o. IfSome o (IsAggregate cells made.sev)) (sym is.clause) tt;
    zero = subst (λ o. IfSome o (IsNewZero made.freq)) (sym is.zero) tt;
  }

alone_valid : (plan : Plan) (made : UnitOfPlan) → IsValid plan → IsValidUnit plan.cells made → IsValid (alone plan made)
alone_valid plan made valid unit = record {
  bucket = valid.bucket;
  cells = valid.cells;
  some = omega arith;
  few = omega arith;
  changed = (standard_few (made ∷ []) (omega arith)).changed;
  means = standard_means plan.cells (made ∷ []) units (omega arith);
  names = λ i j d p q. absurd (omega arith);
  units = units;
  common = tt;
}
  where
    units : All (IsValidUnit plan.cells) (made ∷ [])
    units = All-cons (IsValidUnit plan.cells) made [] unit (All-nil (IsValidUnit plan.cells))

pub whole_list : (P : Fraction → Type 0) (f : List UnitOfPlan → Fraction) (units : List UnitOfPlan) → 1 ≤ length units
    → ((k : ℕ) → 1 ≤ k → k ≤ length units → P (f (take k units))) → P (f units)
whole_list P f units some h =
    subst (λ us. P (f us)) (take_all (length units) units (omega arith)) (h (length units) some (omega arith))

pub pooled_valid : (plan : Plan) (r : Fraction) (made : UnitOfPlan) → SharesFactor plan r → IsPooled r plan.units made
    → IsValid (alone plan made)
pooled_valid plan r made shares is =
    let factor = has_factor plan r shares in
    let above = factor.shape.above in
    let thinned = pooled_thinned plan.units factor.some made is.severity in
    let all = whole_list HasPartsOf48Bits thinned_of plan.units shares.valid.some factor.thinned in
    alone_valid plan made shares.valid
    (mixed_valid plan.cells plan.units (Gamma r (expected_of plan.units)) made shares.valid.units is
    (record { shape = factor.shape; beta = factor.expected_beta }) tt
    (whole_list HasPartsOf48Bits expected_of plan.units shares.valid.some factor.expected)
    (subst HasPartsOf48Bits (sym thinned) all)
    (subst (λ t. t ≤ℚ whole most_expected) (sym thinned)
    (le_trans _ _ _ (raised_more r (thinned_of plan.units) above) factor.few))
    (subst (IsThinnedGamma r) (sym thinned) (record {
      beta = factor.thinned_beta;
      few = part_few r (thinned_of plan.units) above factor.few;
    })))

pub raised_valid : (plan : Plan) (r : Fraction) (made : UnitOfPlan) → SharesFactor plan r → IsRaised r plan.units made
    → IsValid (alone plan made)
raised_valid plan r made shares is =
    let factor = has_factor plan r shares in
    let above = factor.shape.above in
    let next = factor.next_shape.above in
    let thinned = raised_thinned plan.units factor.some made is.severity r above in
    let part : (h : Fraction) → h /ℚ r ≡ raised r h /ℚ (r +ℚ whole 1) = λ h. sym (raised_part r h above next) in
    alone_valid plan made shares.valid
    (mixed_valid plan.cells plan.units (Gamma (r +ℚ whole 1) (raised r (expected_of plan.units))) made
    shares.valid.units is
    (record {
      shape = factor.next_shape;
      beta = subst FitsFrac (part (expected_of plan.units)) factor.expected_beta;
    }) tt factor.raised_expected
    (subst HasPartsOf48Bits (sym thinned) factor.raised_thinned)
    (subst (λ t. t ≤ℚ whole most_expected) (sym thinned) factor.few)
    (subst (IsThinnedGamma (r +ℚ whole 1)) (sym thinned) (record {
      beta = subst FitsFrac (part (thinned_of plan.units)) factor.thinned_beta;
      few = subst (λ t. t ≤ℚ whole most_beta) (part (thinned_of plan.units))
          (part_few r (thinned_of plan.units) above factor.few);
    })))

-- ---- what it declares

module _ (plan : Plan) (r : Fraction) (shares : SharesFactor plan r) (made : UnitOfPlan)
    (is : IsPooled r plan.units made) where
  abbrev us : List PoissonUnit
  us = poisson_units plan.units

  aggregate_is : aggregate_of made ≡ pooled_unit r us (greatest made.sev.items)
  aggregate_is =
      ap₂ (λ w o. record {
        count = w;
        severity = probability_of made.sev;
        most = greatest made.sev.items;
        clause = outcome_after o;
      }) (ap count_weights is.count ∙ ap (gamma_of r) (sym (expected_units plan.units))) is.clause
      ∙ ap (λ f. plain (gamma_of r (expected_claims us)) f (greatest made.sev.items))
      (fun_ext is.severity)

  pub declares_same : (quantity : Quantity) → CountsTotal quantity → (N : ℕ)
      → declared (alone plan made) quantity N ≡ common_sums r us quantity N
  declares_same quantity total N =
      ap (λ o. partial_sums (after_zero o (aggregate_of made) ∷ []) quantity N) is.zero
      ∙ ap (λ a. partial_sums (loss a ∷ []) quantity N) aggregate_is
      ∙ sym (as_one_loss r (has_factor plan r shares).shape.above us
      (subst (λ t. whole 0 <ℚ t) (sym (expected_units plan.units)) (has_factor plan r shares).some)
      (are_severities plan.units) (greatest made.sev.items)
      (λ a far. sym (is.severity a)
      ∙ (shares_severity made.sev.items made.sev.total made.sev.weighted).past a far) quantity total N)

pub same_declared : (plan : Plan) (r : Fraction) → SharesFactor plan r → (made : UnitOfPlan) → IsPooled r plan.units made
    → (quantity : Quantity) → CountsTotal quantity → (N : ℕ)
    → declared (alone plan made) quantity N ≡ declared plan quantity N
same_declared plan r shares made is quantity total N = declares_same plan r shares made is quantity total N
    ∙ sym (ap (λ D. D quantity N) (declared_is plan r shares.shape))
