-- What bounds allow, wider ones allow too: fine fractions, and the rules on a unit in whole buckets.
use Rattle.dl_rules.proofs.Common.{ℕ, ◌≡◌, ◌∙◌, ◌&&◌, ◌||◌, ◌≤◌, Bool, true, false, not, List, Option, Some, None, refl, sym, ap, subst, arith, IfSome, Fraction, at_if, not_at, or_parts, and-false, leb-true, HasPartsOf48Bits, FitsFrac, GridUnit, GridCount, Exposed, Listed, GridFreq, Fixed, Poisson, Bernoulli, Binomial, Gamma, is_fine, is_zero, is_whole, shape_of, passes, most_shape, most_beta, most_expected, common_denominator, Bounds, fractions_too_fine, has_severity, final_severity, claims_above_zero, claims_of, expected_claims, thinned, is_there_and, has_no_shape, no_shape_of, freq_too_fine, is_shape_large, exposed_too_fine, has_too_many_claims, shape_not_whole, too_many_claims, number_rules, count_rules, AllKept, ◌/ℚ◌, Pairs, le-leb, AreWithin, GridExposure, severity_wider, fractions_wider}
use Rattle.dl_reading.specs.declared.grid.GridExposure.TheVariants.{Claims, Loss, Premium}
use Rattle.dl_rules.proofs.FineClaims.{fine_left, fine_span, severity_fine}
use Rattle.dl_rules.proofs.Shapes.{shape_valid, gamma_count, thinned_gamma, not_too_fine, admitted_there}
use Rattle.dl_rules.proofs.PlannedCounts.{claims_admitted}

pub neither : (x y : Bool) → x ≡ false → y ≡ false → (x || y) ≡ false
neither x y p q = rw (p, q) refl

above_small : (pairs : Pairs) (n : Option Fraction) → IfSome (claims_above_zero pairs n) HasPartsOf48Bits
above_small pairs None = tt
above_small pairs (Some n) = admitted_there (thinned pairs n)

-- ---- fine lists

pub fine_wider : (m n : ℕ) → m ≤ n → (xs : List Fraction) → is_fine m xs ≡ true → is_fine n xs ≡ true
fine_wider m n more xs e = le-leb (common_denominator xs) n (omega (arith, more, leb-true (common_denominator xs) m e))

module _ (a b : Bounds) (within : AreWithin a b) where
  -- ---- the number of claims that are expected

  claims_wider : (bs : Fraction) (u : GridUnit) → has_severity a u.sev ≡ true
      → expected_claims a bs u ≡ expected_claims b bs u
  unfolding expected_claims
  claims_wider bs u fine = of_count u.count
    where
      there : has_severity a u.sev ≡ has_severity b u.sev
      there = fine ∙ sym (severity_wider a b within u.sev fine)

      of_count : (k : GridCount) → claims_of a bs u k ≡ claims_of b bs u k
      of_count (Exposed (Claims n span) freq) = refl
      of_count (Exposed (Loss n span) freq) = rw there refl
      of_count (Exposed (Premium p r span) freq) = rw there refl
      of_count (Listed counts probs) = refl

  -- ---- shapes

  pub shape_wider : (c : Fraction) → has_no_shape a c ≡ false → has_no_shape b c ≡ false
  shape_wider c kept =
      let parts = or_parts (is_zero c) _ kept in
      neither (is_zero c) _ parts.0
      (split a.whole_shapes b.whole_shapes (is_whole (shape_of c)) within.shapes parts.1)
    where
      split : (v w s : Bool) → (w ≡ true → v ≡ true) → (v && not s) ≡ false → (w && not s) ≡ false
      split v false s h e = refl
      split v true s h e = ap (λ x. x && not s) (sym (h refl)) ∙ e

  no_shape_wider : (f : GridFreq) → no_shape_of a f ≡ None → no_shape_of b f ≡ None
  no_shape_wider (Fixed span) e = refl
  no_shape_wider (Poisson span) e = refl
  no_shape_wider (Bernoulli span) e = refl
  no_shape_wider (Binomial p span) e = refl
  no_shape_wider (Gamma c span) e = ap (λ t. at_if t span) (shape_wider c (not_at _ span e))

  -- the shape of a count that keeps the rules is fine
  freq_wider : (e : GridExposure) (f : GridFreq) (n above : Option Fraction) → no_shape_of a f ≡ None
      → freq_too_fine a f n above ≡ false → has_too_many_claims (Exposed e f) n above ≡ false
      → IfSome n HasPartsOf48Bits → IfSome above HasPartsOf48Bits → freq_too_fine b f n above ≡ false
  unfolding has_too_many_claims
  freq_wider e (Fixed span) n above shape fine few small thin = refl
  freq_wider e (Poisson span) n above shape fine few small thin = refl
  freq_wider e (Bernoulli span) n above shape fine few small thin = refl
  freq_wider e (Binomial p span) n above shape fine few small thin = refl
  freq_wider e (Gamma c span) n above shape fine few small thin =
      ap (λ t. not b.whole_shapes && t) (not_too_fine r n above
      (shape_valid a c n above kept fine large.0).admitted (held n refl small) (thinned_held above refl thin))
      ∙ and-false (not b.whole_shapes)
    where
      r : Fraction
      r = shape_of c

      kept : has_no_shape a c ≡ false
      kept = not_at _ span shape

      many : is_shape_large r above ≡ false
      many = (or_parts (is_there_and (λ x. passes x most_expected) above) _ few).1

      large : (passes r most_shape ≡ false) × (is_there_and (λ x. passes (x /ℚ r) most_beta) above ≡ false)
      large = or_parts (passes r most_shape) _ many

      held : (o : Option Fraction) → n ≡ o → IfSome o HasPartsOf48Bits → IfSome o (λ x. FitsFrac (x /ℚ r))
      held None is h = tt
      held (Some x) is h = (gamma_count a c n above kept fine large.0 x is h).beta

      thinned_held : (o : Option Fraction) → above ≡ o → IfSome o HasPartsOf48Bits → IfSome o (λ x. FitsFrac (x /ℚ r))
      thinned_held None is h = tt
      thinned_held (Some x) is h = (thinned_gamma a c n above kept fine many x is h).beta

  exposed_wider : (k : GridCount) (n above : Option Fraction) → shape_not_whole a k ≡ None
      → exposed_too_fine a k n above ≡ false → has_too_many_claims k n above ≡ false → IfSome n HasPartsOf48Bits
      → IfSome above HasPartsOf48Bits → exposed_too_fine b k n above ≡ false
  unfolding exposed_too_fine shape_not_whole
  exposed_wider (Exposed e f) n above shape fine few small thin =
      let parts = or_parts _ (freq_too_fine a f n above) fine in
      neither _ (freq_too_fine b f n above) parts.0 (freq_wider e f n above shape parts.1 few small thin)
  exposed_wider (Listed counts probs) n above shape fine few small thin = refl

  count_shape_wider : (k : GridCount) → shape_not_whole a k ≡ None → shape_not_whole b k ≡ None
  unfolding shape_not_whole
  count_shape_wider (Exposed e f) h = no_shape_wider f h
  count_shape_wider (Listed counts probs) h = refl

  -- ---- the rules on a count

  numbers_wider : (u : GridUnit) (n : Option Fraction) → IfSome n HasPartsOf48Bits → AllKept (number_rules a u n)
      → AllKept (number_rules b u n)
  unfolding too_many_claims
  numbers_wider u n small (whole, (few, (trials, (shape, (fine, (many, rest)))))) =
      let above = claims_above_zero (final_severity u) n in
      let parts = fine_left a u n fine in
      let exposed = exposed_wider u.count n above shape parts.1 (not_at _ u.name many) small
      (above_small (final_severity u) n) in (
        whole,
        (
          few,
          (
            trials,
            (
              count_shape_wider u.count shape,
              (sym (fine_span b u n false (fractions_wider a b within u parts.0) (sym exposed)), (many, rest)),
            ),
          ),
        ),
      )

  module _ (bs : Fraction) (u : GridUnit) (kept : AllKept (count_rules a bs u)) where
    abbrev n : Option Fraction
    n = expected_claims a bs u

    pub unit_fine : fractions_too_fine a u ≡ false
    unit_fine = (fine_left a u n kept.1.1.1.1.1.0).0

    pub same_claims : n ≡ expected_claims b bs u
    same_claims = claims_wider bs u (severity_fine a u unit_fine)

    pub count_wider : AllKept (count_rules b bs u)
    unfolding expected_claims
    count_wider = (
      kept.0,
      subst (λ m. AllKept (number_rules b u m)) same_claims
          (numbers_wider u n (claims_admitted a bs u u.count n refl) kept.1),
    )
