-- The loss of a unit with a changed probability of no claim: that it can be declared, its mean, and its ends.
use Rattle.dl_model.proofs.Common.{◌≡◌, ℕ, suc, zero, ◌*◌, ◌<◌, ◌≤◌, arith, sym, ap, refl, subst, ◌∙◌, false, Fraction, whole, ◌+ℚ◌, ◌-ℚ◌, ◌*ℚ◌, ◌/ℚ◌, ◌≤ℚ◌, ◌<ℚ◌, plus_comm, plus_zero, zero_times, times_zero, le_trans, le_plus, sum_to, sum_to_same, sum_to_le, sum_to_grows, AtLeast, Holds, Rises, Aggregate, IsDeclarable, IsDeclared, IsDeclaredLoss, Loss, IsLoss, loss, outcome, level_mean, without_none, with_claims, changed, changed_end, IsWithNone, fun_ext, order}
use Rattle.dl_model.proofs.TotalLaws.{sum_rises_to, off, on, unit_within, unit_loss, unit_proper, sub_zero, clause_with_none, changed_zero_holds, changed_holds, changed_lows, weights_apart, with_none_rises, with_none_all, with_none_mean}
use Rattle.dl_model.proofs.UnitLosses.{unit_declared_loss}
use Rattle.dl_model.proofs.SomeClaim.{claims_count}

pub unit_with_none : (u : Aggregate) → IsDeclarable u → (y : ℕ) → IsWithNone y (u.count zero) (outcome u y)
    (λ N. sum_to N u.count) (outcome (with_claims u) y) (λ N. sum_to N (without_none u.count))
unit_with_none u h y = clause_with_none u.count u.severity u.clause u.most y (omega (arith, h.clause 0))

mean_rises : (u : Loss) → IsLoss u → Rises (level_mean u)
mean_rises u h N = le_trans _ _ _ (sum_to_le (u.last_outcome N) _ _ (λ y b. grw (order, h.cells_rise y N)))
    (sum_to_grows (u.last_outcome N) (u.last_outcome (suc N)) _ (h.last_rises N))

module _ (p : Fraction) (u : Aggregate) (h : IsDeclared u) where
  abbrev claims : Aggregate
  claims = with_claims u

  claims_unit : IsDeclarable claims
  claims_unit = record { severity = h.unit.severity; clause = h.unit.clause }

  claims_loss : IsLoss (loss claims)
  claims_loss = unit_loss claims claims_unit

  changed_past : (y N : ℕ) → N * u.most < y → (changed p u).family.cells y N ≡ whole 0
  changed_past y N far = rw (
    unit_within claims claims_unit y N far,
    off y 0 (p *ℚ sum_to N (without_none u.count)) (λ e. omega (arith, e, far)),
  ) (simp (times_zero, plus_zero))

  changed_is_loss : p ≤ℚ whole 1 → IsLoss (changed p u)
  changed_is_loss within = record {
    cells_rise = λ y. with_none_rises p y (outcome claims y) (λ N. sum_to N (without_none u.count))
        (claims_loss.cells_rise y) (sum_rises_to (without_none u.count));
    last_rises = λ N. omega arith;
    past = changed_past;
    full = λ N. with_none_all p (N * u.most) N (outcome claims) (λ N. sum_to N (without_none u.count)) within
        (claims_loss.full N);
  }

  -- the mean over the whole weight of at least one claim
  claims_mean : (N : ℕ) → level_mean (changed p u) N ≡ (whole 1 -ℚ p) *ℚ level_mean (loss claims) N
  claims_mean N = with_none_mean p (N * u.most) N (outcome claims) (λ N. sum_to N (without_none u.count))

  pub changed_declared : p ≤ℚ whole 1 → (level : ℕ) → whole 0 <ℚ sum_to level (without_none u.count)
      → IsDeclaredLoss (changed p u)
  changed_declared within level some =
      let d : IsDeclaredLoss (loss claims) = unit_declared_loss claims
      (record { unit = claims_unit; count = claims_count u.count h.count level some }) in record {
        loss = changed_is_loss within;
        bound = d.bound;
        bounded = d.bounded;
        level = d.level;
        positive = d.positive;
        settles = d.settles;
        mean_bound = (whole 1 -ℚ p) *ℚ d.mean_bound;
        mean_bounded = λ N. rw (claims_mean N) (grw (order, d.mean_bounded N));
      }

  -- no claim adds 0
  same_mean : (N : ℕ) → level_mean (loss claims) N ≡ level_mean (loss u) N
  same_mean N = sum_to_same (N * u.most) _ _ (λ y b. each y)
    where
      each : (y : ℕ) → whole y *ℚ outcome claims y N ≡ whole y *ℚ outcome u y N
      each zero = zero_times _ ∙ sym (zero_times _)
      each (suc y) = ap (λ t. whole (suc y) *ℚ t)
          (sym ((unit_with_none u h.unit (suc y)).outcome N
          ∙ ap (λ t. outcome claims (suc y) N +ℚ t) (off (suc y) 0 (u.count zero) (λ e. omega (arith, e)))
          ∙ plus_zero _))

  pub changed_mean : (N : ℕ) → level_mean (changed p u) N ≡ (whole 1 -ℚ p) *ℚ level_mean (loss u) N
  changed_mean N = claims_mean N ∙ ap (λ t. (whole 1 -ℚ p) *ℚ t) (same_mean N)

  pub changed_values : (low high none_low none_high : Fraction) (y : ℕ)
      → Holds (outcome u y) (λ N. sum_to N u.count) low high
      → Holds (λ N. u.count zero) (λ N. sum_to N u.count) none_low none_high
      → none_low ≤ℚ none_high → none_high <ℚ whole 1
      → Holds ((changed p u).family.cells y) (changed p u).family.all
      (changed_end p y low none_high none_low) (changed_end p y high none_low none_high)
  changed_values low high none_low none_high y held none_held order below =
      changed_zero_holds p (u.count zero) low high none_low none_high h.count.bound y (outcome u y)
      (λ N. sum_to N u.count) (outcome claims y) (λ N. sum_to N (without_none u.count)) (unit_with_none u h.unit y)
      (claims_loss.cells_rise y) (sum_rises_to (without_none u.count)) h.count.bounded held none_held order below

  pub changed_mean_values : (low high none_low none_high : Fraction)
      → Holds (level_mean (loss u)) (λ N. sum_to N u.count) low high
      → Holds (λ N. u.count zero) (λ N. sum_to N u.count) none_low none_high
      → none_low ≤ℚ none_high → none_high <ℚ whole 1
      → Holds (level_mean (changed p u)) (changed p u).family.all
      ((whole 1 -ℚ p) *ℚ (low /ℚ (whole 1 -ℚ none_low))) ((whole 1 -ℚ p) *ℚ (high /ℚ (whole 1 -ℚ none_high)))
  changed_mean_values low high none_low none_high held none_held order below =
      let mean = level_mean (loss u) in
      let x = changed_holds p (u.count zero) low high none_low none_high h.count.bound false mean mean
      (λ N. sum_to N u.count) (λ N. sum_to N (without_none u.count)) (λ N. sym (plus_zero (mean N)))
      (weights_apart u.count) (mean_rises (loss u) (unit_loss u h.unit)) (sum_rises_to (without_none u.count))
      h.count.bounded held none_held order below in
      subst (λ Q. Holds Q (changed p u).family.all ((whole 1 -ℚ p) *ℚ (low /ℚ (whole 1 -ℚ none_low)))
      ((whole 1 -ℚ p) *ℚ (high /ℚ (whole 1 -ℚ none_high)))) (sym (fun_ext changed_mean))
      (simp (plus_zero, sub_zero) at x)

  none_within : (N : ℕ) → u.count zero ≤ℚ outcome u zero N
  none_within N = rw ((unit_with_none u h.unit zero).outcome N, on 0 0 (u.count zero) refl, plus_comm) (le_plus _ _)

  pub unit_changed_lows : (none_low none_high : Fraction) (k : ℕ) (low : ℕ → Fraction)
      → p ≤ℚ whole 1 → ((y : ℕ) → y ≤ k → AtLeast (outcome u y) (λ N. sum_to N u.count) (low y))
      → AtLeast (λ N. u.count zero) (λ N. sum_to N u.count) none_low → none_low ≤ℚ none_high → none_low <ℚ whole 1
      → sum_to k low ≤ℚ whole 1 → sum_to k (λ y. changed_end p y (low y) none_high none_low) ≤ℚ whole 1
  unit_changed_lows none_low none_high k low within lows none_held order below add_up =
      changed_lows (u.count zero) none_low none_high h.count.bound k h.count.level (outcome u)
      (λ N. sum_to N u.count) low (unit_loss u h.unit).cells_rise (sum_rises_to u.count) h.count.bounded
      h.count.positive lows none_held order none_within (λ N. (unit_proper u h.unit).within k N) add_up p within below
