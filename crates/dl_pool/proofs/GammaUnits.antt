-- A gamma unit and the unit of its extra claims.
use Rattle.dl_pool.proofs.Common.{ℕ, ◌≤◌, ◌over◌, ap₂, All, None, UnitOfPlan, IsUnbounded, probability_of, weight_at, refl, ◌≡◌, ◌∙◌, ap, sym, subst, arith, Fraction, FitsFrac, HasPartsOf48Bits, admitted_fits, whole, ◌*ℚ◌, ◌/ℚ◌, ◌-ℚ◌, ◌≤ℚ◌, ◌<ℚ◌, le_refl, le_trans, times_cancel, div_times, times_one, whole_pos, whole_le, one_pos, Freq, Fixed, Table, Bernoulli, Binomial, Poisson, Gamma, IsClaimCount, expected_count, over_num_le, over_den_le, extra_count, IsGamma, IfSome, IsGammaCount, IsShape, IsThinnedTo, IsAggregate, IsNewZero, IsValidUnit, most_amount_at, most_beta, most_expected, most_shape}
pub use Rattle.dl_plan.proofs.Shared.{gamma_unbounded}

pub shape_above : (freq : Freq) (r m : Fraction) → freq ≡ Gamma r m → IsClaimCount freq → whole 0 <ℚ r
shape_above freq r m is counts =
    let count : IsGammaCount r m = subst IsClaimCount is counts in
    count.shape.above

-- the mean of the extra claims
pub extra_mean : (freq : Freq) (r m v : Fraction) → freq ≡ Gamma r m → v ≡ m /ℚ r
    → v ≡ expected_count (extra_count freq)
extra_mean freq r m v is value = value ∙ sym (ap (λ f. expected_count (extra_count f)) is)

-- ---- a count of shape 1

one_shape : IsShape (whole 1)
one_shape = record {
  above = whole_pos 1 one_pos;
  few = whole_le 1 most_shape (omega arith);
  admitted = record { num = omega (arith, over_num_le 1 1 one_pos); den = omega (arith, over_den_le 1 1 one_pos) };
}

over_one : (m : Fraction) → m /ℚ whole 1 ≡ m
over_one m = sym (times_one _) ∙ div_times m (whole 1) (whole_pos 1 one_pos)

one_fits : (m : Fraction) → HasPartsOf48Bits m → FitsFrac (m /ℚ whole 1)
one_fits m parts = subst FitsFrac (sym (over_one m)) (admitted_fits m parts)

-- the unit of the extra claims is valid with any grid that the gamma unit is valid with
pub extra_valid : (cells : ℕ) (u made : UnitOfPlan) (r m : Fraction) → IsValidUnit cells u
    → made.sev.items ≡ u.sev.items → made.sev.total ≡ u.sev.total → made.freq ≡ Gamma r m → r ≡ whole 1
    → made.cede ≡ None → made.zero ≡ None → HasPartsOf48Bits m
    → HasPartsOf48Bits (m *ℚ (whole 1 -ℚ probability_of u.sev 0))
    → m *ℚ (whole 1 -ℚ probability_of u.sev 0) ≤ℚ whole most_expected → IsValidUnit cells made
extra_valid cells u made r m valid items total freq one clause zero parts admitted few =
    let is : made.freq ≡ Gamma (whole 1) m = freq ∙ ap (λ s. Gamma s m) one in
    let above : m *ℚ (whole 1 -ℚ probability_of u.sev 0) ≡ expected_count (Gamma (whole 1) m) *ℚ (whole 1 -ℚ
    probability_of made.sev 0) = ap₂ (λ xs t. m *ℚ (whole 1 -ℚ weight_at xs 0 over t)) (sym items) (sym total) in
    let thinned = subst HasPartsOf48Bits above admitted in
    let most = subst (λ t. t ≤ℚ whole most_expected) above few in
    record {
      amounts = subst (λ xs. All (λ item. item.amount ≤ most_amount_at cells) xs) (sym items) valid.amounts;
      items = λ bounded. absurd (bounded (subst IsUnbounded (sym is) tt));
      count = subst IsClaimCount (sym is) (record { shape = one_shape; beta = one_fits m parts });
      expected = subst (λ f. HasPartsOf48Bits (expected_count f)) (sym is) parts;
      thinned = λ unbounded. subst (λ f. HasPartsOf48Bits (expected_count f *ℚ (whole 1 -ℚ probability_of made.sev 0))
          × (expected_count f *ℚ (whole 1 -ℚ probability_of made.sev 0) ≤ℚ whole most_expected)) (sym is)
          (thinned, most);
      thinned_count = subst (λ f. IsThinnedTo f (expected_count f *ℚ (whole 1 -ℚ probability_of made.sev 0))) (sym is)
          (record {
            beta = one_fits _ thinned;
            few = subst (λ t. t ≤ℚ whole most_beta) (sym (over_one _))
                (le_trans _ _ _ most (whole_le most_expected most_beta (omega arith)));
          });
      clause = subst (λ o. IfSome o (IsAggregate cells made.sev)) (sym clause) tt;
      zero = subst (λ o. IfSome o (IsNewZero made.freq)) (sym zero) tt;
    }

pub gamma_count : (freq : Freq) → IsGamma freq → IsClaimCount freq
    → (r : Fraction) × (freq ≡ Gamma r (expected_count freq)) × (whole 0 <ℚ r)
gamma_count (Fixed m) h counts = absurd h
gamma_count (Table items total) h counts = absurd h
gamma_count (Bernoulli q) h counts = absurd h
gamma_count (Binomial trials q) h counts = absurd h
gamma_count (Poisson mean) h counts = absurd h
gamma_count (Gamma shape mean) h counts = (shape, refl, counts.shape.above)
