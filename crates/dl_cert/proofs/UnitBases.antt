-- The numbers of a base are those of the starts of its unit.
use Rattle.dl_cert.proofs.Common.{Bool, refl, subst, IsValidUnit, IsCountOfPlan, Freq, ℕ, zero, suc, ◌≡◌, ◌-◌, ◌*◌, ◌/◌, ◌<◌, ◌^◌, ◌∙◌, sym, ap, ap₂, arith, true, false, mul-pos, zero-lt-suc, min, div_ceil, Fraction, whole, ◌+ℚ◌, ◌*ℚ◌, ◌/ℚ◌, ◌over◌, IsFloor, IsCeiling, times_one, times_zero, zero_plus, over_same, over_mul, over_add, whole_num, whole_den, floor_div, ceiling_div, floor_one, ceiling_one, halvings, exp_low, exp_high, at_zero, cell, fixed, binomial, one_claim_cell, one_trial_cell, coefficient, next_sum, Sev, probability_of, pairs_of, conditioned, HasDistribution, weight_at, severity_total, Fixed, Bernoulli, Binomial, PoissonCount, GammaCount, UnitOfPlan, thinned_mean, Share, above_zero, one, floor_of, ceiling_of, sum_plain, sum_by_amount, low_recursion, high_recursion, low_start, high_start, trial_parts, low_share, high_share, IsBaseOf, IsGammaCount, over_times, Rate, counted_pos, by_number, by_rate, sum_of_amounts, sum_of_weights, units_over, Chance}
use Rattle.dl_panjer.specs.Cells.{counted}
use Rattle.dl_cert.proofs.Starts.{floor_is, ceiling_is}
use Rattle.dl_cert.specs.declared.base.Base.TheVariants.{Trial, Poisson, Geometric}

-- ---- quotients rounded

floor_over : (n d : ℕ) → 0 < d → floor_of (n over d) ≡ n / d
floor_over n d pos = floor_one _ _ _ (floor_is (n over d)) (floor_div n d pos)

ceiling_over : (n d : ℕ) → 0 < d → ceiling_of (n over d) ≡ div_ceil n d
ceiling_over n d pos = ceiling_one _ _ _ (ceiling_is (n over d)) (ceiling_div n d pos)

-- n over d in units
floor_units : (n d : ℕ) → 0 < d → one * n / d ≡ floor_of (whole one *ℚ n over d)
floor_units n d pos = sym (ap floor_of (over_times one n d pos) ∙ floor_over (one * n) d pos)

ceiling_units : (n d : ℕ) → 0 < d → div_ceil (one * n) d ≡ ceiling_of (whole one *ℚ n over d)
ceiling_units n d pos = sym (ap ceiling_of (over_times one n d pos) ∙ ceiling_over (one * n) d pos)

-- ---- one trial

module _ (q : Fraction) (sev : Sev) where
  T_pos : 0 < sev.total
  T_pos = severity_total sev

  both_pos : 0 < q.den * sev.total
  both_pos = mul-pos q.positive T_pos

  share_of : (w : ℕ) → q.num over q.den *ℚ w over sev.total ≡ (q.num * w) over (q.den * sev.total)
  share_of w = over_mul q.num q.den w sev.total q.positive T_pos

  trial_cell : (y : ℕ) → cell (binomial 1 q.num q.den) (probability_of sev) y 1
      ≡ trial_parts q sev y over (q.den * sev.total)
  unfolding at_zero
  trial_cell zero =
      one_trial_cell (probability_of sev) q.num q.den zero q.positive
      ∙ ap₂ (λ a b. a +ℚ b) (times_one _) (share_of (weight_at sev.items zero))
      ∙ over_add (q.den - q.num) q.den (q.num * weight_at sev.items zero) (q.den * sev.total) q.positive both_pos
      ∙ over_same _ _ _ _ (mul-pos q.positive both_pos) both_pos (omega arith)
  trial_cell (suc y) =
      one_trial_cell (probability_of sev) q.num q.den (suc y) q.positive
      ∙ ap₂ (λ a b. a +ℚ b) (times_zero _) (share_of (weight_at sev.items (suc y))) ∙ zero_plus _

-- a trial that is surely a claim
module _ (sev : Sev) where
  sure_parts : (y : ℕ) → trial_parts (whole 1) sev y ≡ weight_at sev.items y
  sure_parts zero = rw (whole_num 1, whole_den 1) (omega arith)
  sure_parts (suc y) = rw (whole_num 1) (omega arith)

  sure_den : (whole 1).den * sev.total ≡ sev.total
  sure_den = rw (whole_den 1) (omega arith)

  claim_cell : (y : ℕ) → cell (fixed 1) (probability_of sev) y 1
      ≡ trial_parts (whole 1) sev y over ((whole 1).den * sev.total)
  claim_cell y = one_claim_cell (probability_of sev) y ∙ sym (ap₂ (λ m n. m over n) (sure_parts y) sure_den)

-- ---- shares

-- the cells of a share, by the recursion of its count
module _ (share : Share) (b : Bool) (factor : ℕ → Fraction) (sum : (ℕ → ℕ) → ℕ → Fraction)
    (step : (x s : ℕ) → (x * share.rate.num) over counted b (suc s) share.rate.den ≡ factor s *ℚ whole x)
    (sums : (ends : ℕ → ℕ) (s : ℕ)
    → sum ends s ≡ next_sum (coefficient b share.positive.items) ends s over share.positive.total) (ends : ℕ → ℕ) where
  abbrev T : ℕ
  T = share.positive.total

  abbrev u : Rate
  u = share.rate

  -- a sum over T, and a multiple of it, each rounded
  stepped : (round : Fraction → ℕ) (quotient : ℕ → ℕ → ℕ) → ((n d : ℕ) → 0 < d → round (n over d) ≡ quotient n d)
      → (s : ℕ) → quotient (quotient (next_sum (coefficient b share.positive.items) ends s) T * u.num)
      (counted b (suc s) u.den) ≡ round (factor s *ℚ whole (round (sum ends s)))
  stepped round quotient rounds s =
      let C : ℕ = next_sum (coefficient b share.positive.items) ends s in
      sym (rounds (quotient C T * u.num) _ (counted_pos b (suc s) u.den (zero-lt-suc s) u.positive))
      ∙ ap round (step (quotient C T) s)
      ∙ ap (λ k. round (factor s *ℚ whole k)) (sym (ap round (sums ends s) ∙ rounds C T (severity_total share.positive)))

  low_cells : (y : ℕ) → low_share b share ends y ≡ low_recursion share.first.lo factor (sum ends) y
  low_cells zero = refl
  low_cells (suc s) = stepped floor_of (λ n d. n / d) floor_over s

  high_cells : (y : ℕ) → high_share b share ends y ≡ high_recursion share.first.hi factor (sum ends) y
  high_cells zero = refl
  high_cells (suc s) = ap (min one) (stepped ceiling_of div_ceil ceiling_over s)

-- ---- the bases of units

-- what a plan says of a gamma count
pub gamma_of_plan : (h : ℕ) (u : UnitOfPlan) (shape mean : Fraction) → IsValidUnit h u → u.freq ≡ GammaCount shape mean
    → IsGammaCount shape mean
gamma_of_plan h u shape mean valid is = subst IsCountOfPlan is valid.count

module _ {unit : UnitOfPlan} where
  pub poisson_is : {mean part : Fraction} {share : Share} → unit.freq ≡ PoissonCount mean
      → HasDistribution share.positive (conditioned 0 (pairs_of unit.sev))
      → share.rate.num over share.rate.den ≡ part
      → part ≡ thinned_mean unit /ℚ whole (2 ^ halvings (thinned_mean unit))
      → share.first.lo ≡ exp_low 56 part → share.first.hi ≡ exp_high 56 part → IsBaseOf unit (Poisson share)
  poisson_is {part = part} {share = share} e means is rate low high =
      let S = share.positive in
      let sum = sum_by_amount (above_zero unit.sev) in
      let by = λ (x s : ℕ). by_number x s share.rate.num share.rate.den share.rate.positive
      ∙ ap (λ t. t /ℚ whole (suc s) *ℚ whole x) is in
      let sums = sum_of_amounts S.items S.total (severity_total S) (above_zero unit.sev) means in
      record {
        low = λ some ends y. low_cells share true _ sum by sums ends y
            ∙ ap₂ (λ start r. low_recursion start (λ s. r /ℚ whole (suc s)) (sum ends) y)
            (low ∙ ap (exp_low 56) rate) rate
            ∙ ap (λ f. low_start f unit.sev (thinned_mean unit) ends y) (sym e);
        high = λ some ends y. high_cells share true _ sum by sums ends y
            ∙ ap₂ (λ start r. high_recursion start (λ s. r /ℚ whole (suc s)) (sum ends) y)
            (high ∙ ap (exp_high 56) rate) rate
            ∙ ap (λ f. high_start f unit.sev (thinned_mean unit) ends y) (sym e);
      }

  pub geometric_is : {shape mean : Fraction} {share : Share} → unit.freq ≡ GammaCount shape mean
      → HasDistribution share.positive (conditioned 0 (pairs_of unit.sev))
      → share.rate.num over share.rate.den ≡ thinned_mean unit /ℚ shape /ℚ (whole 1 +ℚ thinned_mean unit /ℚ shape)
      → IsFloor (whole one /ℚ (whole 1 +ℚ thinned_mean unit /ℚ shape)) share.first.lo
      → IsCeiling (whole one /ℚ (whole 1 +ℚ thinned_mean unit /ℚ shape)) share.first.hi
      → IsBaseOf unit (Geometric share)
  geometric_is {shape = shape} {share = share} e means rate floor ceiling =
      let S = share.positive in
      let sum = sum_plain (above_zero unit.sev) in
      let by = λ (x s : ℕ). by_rate x share.rate.num share.rate.den share.rate.positive ∙ ap (λ t. t *ℚ whole x) rate in
      let sums = sum_of_weights S.items S.total (severity_total S) (above_zero unit.sev) means in
      let beta = thinned_mean unit /ℚ shape in
      let factor : ℕ → Fraction = λ s. beta /ℚ (whole 1 +ℚ beta) in
      let start = units_over one beta in
      let low = floor_one _ _ _ (rw start at floor) (floor_is _) in
      let high = ceiling_one _ _ _ (rw start at ceiling) (ceiling_is _) in
      record {
        low = λ some ends y. low_cells share false factor sum by sums ends y
            ∙ ap (λ start. low_recursion start factor (sum ends) y) low
            ∙ ap (λ f. low_start f unit.sev (thinned_mean unit) ends y) (sym e);
        high = λ some ends y. high_cells share false factor sum by sums ends y
            ∙ ap (λ start. high_recursion start factor (sum ends) y) high
            ∙ ap (λ f. high_start f unit.sev (thinned_mean unit) ends y) (sym e);
      }

  -- one trial, or one claim
  trial_is : (chance : Chance) (w : ℕ → Fraction) {freq : Freq} → unit.freq ≡ freq
      → ((y : ℕ) → cell w (probability_of unit.sev) y 1
      ≡ trial_parts chance.q unit.sev y over (chance.q.den * unit.sev.total))
      → ((ends : ℕ → ℕ) (y : ℕ) → floor_of (whole one *ℚ cell w (probability_of unit.sev) y 1)
      ≡ low_start freq unit.sev (thinned_mean unit) ends y)
      → ((ends : ℕ → ℕ) (y : ℕ) → ceiling_of (whole one *ℚ cell w (probability_of unit.sev) y 1)
      ≡ high_start freq unit.sev (thinned_mean unit) ends y) → IsBaseOf unit (Trial chance)
  trial_is chance w e is low high =
      let q = chance.q in
      record {
        low = λ some ends y. floor_units _ _ (both_pos q unit.sev) ∙ ap (λ x. floor_of (whole one *ℚ x)) (sym (is y))
            ∙ low ends y ∙ ap (λ f. low_start f unit.sev (thinned_mean unit) ends y) (sym e);
        high = λ some ends y. ceiling_units _ _ (both_pos q unit.sev)
            ∙ ap (λ x. ceiling_of (whole one *ℚ x)) (sym (is y))
            ∙ high ends y ∙ ap (λ f. high_start f unit.sev (thinned_mean unit) ends y) (sym e);
      }

  pub fixed_is : {m : ℕ} {chance : Chance} → unit.freq ≡ Fixed m → chance.q ≡ whole 1 → IsBaseOf unit (Trial chance)
  fixed_is {chance = chance} e is = trial_is chance (fixed 1) e (λ y. claim_cell unit.sev y
      ∙ ap (λ (q : Fraction). trial_parts q unit.sev y over (q.den * unit.sev.total)) (sym is))
      (λ ends y. refl) (λ ends y. refl)

  pub bernoulli_is : {q : Fraction} {chance : Chance} → unit.freq ≡ Bernoulli q → chance.q ≡ q
      → IsBaseOf unit (Trial chance)
  bernoulli_is {q = q} {chance = chance} e is =
      trial_is chance (binomial 1 chance.q.num chance.q.den) (e ∙ ap Bernoulli (sym is))
      (trial_cell chance.q unit.sev) (λ ends y. refl) (λ ends y. refl)

  pub binomial_is : {m : ℕ} {q : Fraction} {chance : Chance} → unit.freq ≡ Binomial m q → chance.q ≡ q
      → IsBaseOf unit (Trial chance)
  binomial_is {m = m} {q = q} {chance = chance} e is =
      trial_is chance (binomial 1 chance.q.num chance.q.den) (e ∙ ap (Binomial m) (sym is))
      (trial_cell chance.q unit.sev) (λ ends y. refl) (λ ends y. refl)
