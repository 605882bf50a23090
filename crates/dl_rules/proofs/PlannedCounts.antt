-- The claim count of a plan that is made of a count that breaks no rule.
use Rattle.dl_rules.proofs.Common.{ℕ, ◌≡◌, ◌∙◌, ◌*◌, ◌<ℚ◌, ◌&&◌, ◌||◌, not, Bool, true, false, if◌then◌else◌, List, map, Option, Some, None, refl, sym, ap, ap₂, subst, arith, is_some, IfSome, length-map, most_claims, Fraction, whole, ◌*ℚ◌, ◌/ℚ◌, ◌≤ℚ◌, div_times, Sev, HasPartsOf48Bits, Pairs, HasDistribution, GridFreq, Fixed, Poisson, Bernoulli, Binomial, Gamma, GridCount, Exposed, Listed, probs_of, is_admitted, not-false, GridUnit, claims_of, claims_above_zero, shape_of, IsFreqChecked, IsCountChecked, IsCountMade, freq_with, pairs_of_counts, has_too_many_claims, passes, and_parts, ltb-true, or_parts, most_expected, rarest_claims, ◌-ℚ◌, ◌over◌, IsNewZero, Freq, IsFineTo40Bits, probability_of, IsClaimCount, IsUnbounded, IsExposed, expected_of_plan, IsSmall, not_above, seconds-zip, has_count, is_there_and, thinned, freq_span, has_no_base, zero_base, is_above, IsCountWith, IsCountOf, not_at, Bounds, ◌+ℚ◌, IsSomeClaim, IsThinnedGamma, IsThinnedTo, is_claim_rare, is_one_rare, shape_not_whole, lt-ltb, sum_of, sev_of}
use Rattle.dl_plan.specs.declared.plan.Freq.TheVariants as of_plan
use Rattle.dl_rules.specs.Exposures.{expected_count}
use Rattle.dl_rules.proofs.ListedCounts.{same_length, small_table, table_admitted}
use Rattle.dl_rules.proofs.ExposedCounts.{whole_is, few_is}
use Rattle.dl_rules.proofs.KeptCounts.{given, AreChecked, number_there}
use Rattle.dl_rules.proofs.Shapes.{admitted_is, thinned_gamma}

-- ---- with n claims expected

pub freq_is : (f : GridFreq) (n : Fraction) → IsFreqChecked f n → IsCountWith f n (freq_with f n)
freq_is (Fixed span) n kept = (n.num, whole_is n kept.whole, refl)
freq_is (Poisson span) n kept = refl
freq_is (Bernoulli span) n kept = refl
freq_is (Binomial p span) n kept = ((n /ℚ p).num, whole_is (n /ℚ p) kept.whole.whole, refl)
freq_is (Gamma c span) n kept = refl

freq_valid : (f : GridFreq) (n : Fraction) → IsFreqChecked f n → IsClaimCount (freq_with f n)
freq_valid (Fixed span) n kept = few_is most_claims n.num n (whole_is n kept.whole) kept.few
freq_valid (Poisson span) n kept = tt
freq_valid (Bernoulli span) n kept = record {
  within = not_above n (whole 1) kept.whole;
  admitted = kept.admitted;
}
freq_valid (Binomial p span) n kept = (
  few_is most_claims (n /ℚ p).num (n /ℚ p) (whole_is (n /ℚ p) kept.whole.whole) kept.few,
  record {
    within = not_above p (whole 1) kept.whole.within;
    admitted = record { num = omega (arith, kept.read.num); den = omega (arith, kept.read.den) };
  },
)
freq_valid (Gamma c span) n kept = kept.few

-- it expects n claims
freq_expects : (f : GridFreq) (n : Fraction) → IsFreqChecked f n → expected_of_plan (freq_with f n) ≡ n
freq_expects (Fixed span) n kept = whole_is n kept.whole
freq_expects (Poisson span) n kept = refl
freq_expects (Bernoulli span) n kept = refl
freq_expects (Binomial p span) n kept =
    ap (λ t. t *ℚ p) (whole_is (n /ℚ p) kept.whole.whole) ∙ div_times n p kept.whole.above
freq_expects (Gamma c span) n kept = refl

freq_exposed : (f : GridFreq) (n : Fraction) → IsExposed (freq_with f n)
freq_exposed (Fixed span) n = tt
freq_exposed (Poisson span) n = tt
freq_exposed (Bernoulli span) n = tt
freq_exposed (Binomial p span) n = tt
freq_exposed (Gamma c span) n = tt

-- ---- a change of its probability of no claim

is_below : (x y : Fraction) → is_above y x ≡ true → x <ℚ y
unfolding ◌<ℚ◌
is_below x y h = ltb-true (x.num * y.den) (y.num * x.den) h

often_enough : (r v : Fraction) → r <ℚ whole 1 → is_one_rare r v ≡ false
    → 1 over rarest_claims ≤ℚ r *ℚ (v /ℚ (r +ℚ v))
unfolding ◌<ℚ◌
often_enough r v below often =
    not_above (1 over rarest_claims) (r *ℚ (v /ℚ (r +ℚ v)))
    (ap (λ b. b && is_above (1 over rarest_claims) (r *ℚ (v /ℚ (r +ℚ v)))) (sym (lt-ltb _ _ below)) ∙ often)

-- one claim of a gamma count does not weigh too little beside none
some_claim : (f : GridFreq) (n : Fraction) → is_claim_rare f n ≡ false → IsSomeClaim (freq_with f n)
some_claim (Fixed span) n often = tt
some_claim (Poisson span) n often = tt
some_claim (Bernoulli span) n often = tt
some_claim (Binomial p span) n often = tt
some_claim (Gamma c span) n often = λ below. often_enough (shape_of c) n below often

new_zero : (f : GridFreq) (n p : Fraction) → IsFreqChecked f n → IsSmall p → has_no_base f p (Some n) ≡ false
    → IsNewZero (freq_with f n) p
new_zero f n p kept small base =
    let low = or_parts (not (is_above (whole 1) p)) _ base in
    let rare = or_parts (is_above (1 over rarest_claims) n || passes n most_expected) _ low.1 in
    let range = or_parts (is_above (1 over rarest_claims) n) _ rare.0 in
    let expects = sym (freq_expects f n kept) in
    record {
      below = is_below p (whole 1) (not-false _ low.0);
      num = omega (arith, small.num);
      den = omega (arith, small.den);
      least = subst (λ x. 1 over rarest_claims ≤ℚ x) expects (not_above (1 over rarest_claims) n range.0);
      most = subst (λ x. x ≤ℚ whole most_expected) expects (not_above n (whole most_expected) range.1);
      exposed = freq_exposed f n;
      some = some_claim f n rare.1;
    }

-- ---- of a count

pub made_valid : (k : GridCount) (n : Option Fraction) (freq : Freq) → IsCountChecked k n → IsCountMade k n freq
    → IsClaimCount freq × HasPartsOf48Bits (expected_of_plan freq)
made_valid (Exposed e f) None freq kept made = absurd kept
made_valid (Exposed e f) (Some n) freq kept made = (
  subst IsClaimCount (sym made) (freq_valid f n kept),
  subst HasPartsOf48Bits (sym (ap expected_of_plan made ∙ freq_expects f n kept)) kept.admitted,
)
made_valid (Listed counts probs) n freq kept made = (made.valid, made.expected)

pub made_is : (bounds : Bounds) (bs : Fraction) (u : GridUnit) (k : GridCount) (n : Option Fraction) (freq : Freq) → n ≡ claims_of bounds bs u k
    → IsCountChecked k n → IsCountMade k n freq → IsCountOf bs u k freq
made_is bounds bs u (Exposed e f) None freq same kept made = absurd kept
made_is bounds bs u (Exposed e f) (Some n) freq same kept made =
    subst (λ x. IsCountWith f x freq) (given _ (expected_count bs u e) n (sym same)).0
    (subst (IsCountWith f n) (sym made) (freq_is f n kept))
made_is bounds bs u (Listed counts probs) n freq same kept made = (made.table, made.valid)

-- an expected count that is there is admitted
pub claims_admitted : (bounds : Bounds) (bs : Fraction) (u : GridUnit) (k : GridCount) (n : Option Fraction) → n ≡ claims_of bounds bs u k
    → IfSome n HasPartsOf48Bits
claims_admitted bounds bs u k None same = tt
claims_admitted bounds bs u (Exposed e f) (Some n) same =
    let told = given (has_count bounds u e && is_admitted (expected_count bs u e)) (expected_count bs u e) n (sym same) in
    subst HasPartsOf48Bits (sym told.0) (admitted_is (expected_count bs u e) (and_parts _ _ told.1).1)
claims_admitted bounds bs u (Listed counts probs) (Some n) same = absurd (cc)

-- a change of its probability of no claim that breaks no rule
pub made_zero : (k : GridCount) (n zero : Option Fraction) (freq : Freq) → IsCountChecked k n → IsCountMade k n freq
    → IfSome zero IsSmall → zero_base k zero n ≡ None → IfSome zero (IsNewZero freq)
unfolding zero_base
made_zero k n None freq kept made small base = tt
made_zero (Exposed e f) None (Some p) freq kept made small base = absurd kept
made_zero (Exposed e f) (Some n) (Some p) freq kept made small base =
    subst (λ (q : Freq). IsNewZero q p) (sym made) (new_zero f n p kept small (not_at _ (freq_span f) base))
made_zero (Listed counts probs) n (Some p) freq kept made small base = absurd cc

-- there is such a count
pub count_there : (k : GridCount) (n : Option Fraction) → IsCountChecked k n → (freq : Freq) × IsCountMade k n freq
count_there (Exposed e f) None kept = absurd kept
count_there (Exposed e f) (Some n) kept = (freq_with f n, refl)
count_there (Listed counts probs) n are =
    let numbers : List ℕ = map (λ (x : Fraction). x.num) counts.values in
    let same = seconds-zip numbers (probs_of counts probs)
    (length-map counts.values (λ (x : Fraction). x.num) ∙ sym (same_length counts probs are.lengths)) in
    let sev = sev_of (pairs_of_counts counts probs) (subst IsFineTo40Bits same are.shares.fine)
    (subst (λ xs. sum_of xs ≡ whole 1) same are.shares.one) in
    let few = small_table counts probs are sev.0 sev.1 in (
      of_plan.Table sev.0.items sev.0.total,
      record {
        table = (sev.0.items, sev.0.total, refl, sev.1);
        valid = (sev.0.weighted, few);
        expected = table_admitted sev.0 few;
      },
    )

-- ---- claims above 0

some_is : (b : Bool) (x : Fraction) → is_some (if b then Some x else None) ≡ true
    → ((if b then Some x else None) ≡ Some x) × (b ≡ true)
some_is true x e = (refl, refl)
some_is false x e = absurd cc

module _ (pairs : Pairs) (sev : Sev) (means : HasDistribution sev pairs) (n : Fraction) (x : Fraction) (is : x ≡ n) where
  abbrev z : Fraction
  z = thinned pairs n

  abbrev IsThinned : Fraction → Type 0
  IsThinned y = HasPartsOf48Bits y × (y ≤ℚ whole most_expected)

  small_above : (b : Bool) → is_admitted z ≡ b → is_some (if b then Some z else None) ≡ true
      → is_there_and (λ y. passes y most_expected) (if b then Some z else None) ≡ false
      → IsThinned (x *ℚ (whole 1 -ℚ probability_of sev 0))
  small_above true fine there few =
      subst IsThinned (sym (ap₂ (λ m p. m *ℚ (whole 1 -ℚ p)) is (means 0)))
      (admitted_is z fine, not_above z (whole most_expected) few)
  small_above false fine there few = absurd (cc)

module _ (pairs : Pairs) (sev : Sev) (means : HasDistribution sev pairs) where
  -- the claims above 0 of a count without a greatest number are few
  pub made_thinned : (bounds : Bounds) (k : GridCount) (n : Option Fraction) (freq : Freq)
      → AreChecked bounds k n (claims_above_zero pairs n)
      → IsCountMade k n freq → IsUnbounded freq
      → HasPartsOf48Bits (expected_of_plan freq *ℚ (whole 1 -ℚ probability_of sev 0))
      × (expected_of_plan freq *ℚ (whole 1 -ℚ probability_of sev 0) ≤ℚ whole most_expected)
  unfolding has_too_many_claims
  made_thinned bounds (Exposed e f) None freq are made unbounded =
      absurd (cc ((number_there bounds e f None None are.fine).0))
  made_thinned bounds (Exposed e (Fixed span)) (Some n) freq are made unbounded =
      absurd (subst IsUnbounded made unbounded)
  made_thinned bounds (Exposed e (Poisson span)) (Some n) freq are made unbounded =
      small_above pairs sev means n (expected_of_plan freq) (ap expected_of_plan made) (is_admitted (thinned pairs n)) refl
      (not-false _ (number_there bounds e (Poisson span) (Some n) (claims_above_zero pairs (Some n)) are.fine).1) are.few
  made_thinned bounds (Exposed e (Bernoulli span)) (Some n) freq are made unbounded =
      absurd (subst IsUnbounded made unbounded)
  made_thinned bounds (Exposed e (Binomial p span)) (Some n) freq are made unbounded =
      absurd (subst IsUnbounded made unbounded)
  made_thinned bounds (Exposed e (Gamma c span)) (Some n) freq are made unbounded =
      small_above pairs sev means n (expected_of_plan freq) (ap expected_of_plan made) (is_admitted (thinned pairs n)) refl
      (not-false _ (number_there bounds e (Gamma c span) (Some n) (claims_above_zero pairs (Some n)) are.fine).1)
      (or_parts _ _ are.few).0
  made_thinned bounds (Listed counts probs) n freq are made unbounded =
      absurd (subst IsUnbounded made.table.2 unbounded)

  -- so many claims above 0 are expected of it
  abbrev IsThinned_by : Freq → Type 0
  IsThinned_by freq = IsThinnedTo freq (expected_of_plan freq *ℚ (whole 1 -ℚ probability_of sev 0))

  -- over the shape of a gamma count they are held and few
  pub made_over : (bounds : Bounds) (k : GridCount) (n : Option Fraction) (freq : Freq)
      → AreChecked bounds k n (claims_above_zero pairs n) → IsCountMade k n freq → IsThinned_by freq
  unfolding has_too_many_claims shape_not_whole
  made_over bounds (Exposed e f) None freq are made = absurd (cc ((number_there bounds e f None None are.fine).0))
  made_over bounds (Exposed e (Fixed span)) (Some n) freq are made = subst IsThinned_by (sym made) tt
  made_over bounds (Exposed e (Poisson span)) (Some n) freq are made = subst IsThinned_by (sym made) tt
  made_over bounds (Exposed e (Bernoulli span)) (Some n) freq are made = subst IsThinned_by (sym made) tt
  made_over bounds (Exposed e (Binomial p span)) (Some n) freq are made = subst IsThinned_by (sym made) tt
  made_over bounds (Exposed e (Gamma c span)) (Some n) freq are made =
      let fine = number_there bounds e (Gamma c span) (Some n) (claims_above_zero pairs (Some n)) are.fine in
      let there = some_is (is_admitted (thinned pairs n)) (thinned pairs n) (not-false _ fine.1) in
      subst IsThinned_by (sym made) (subst (λ p. IsThinnedGamma (shape_of c) (n *ℚ (whole 1 -ℚ p))) (sym (means 0))
      (thinned_gamma bounds c (Some n) (claims_above_zero pairs (Some n)) (not_at _ span are.whole.shape) fine.2
      (or_parts _ _ are.few).1 (thinned pairs n) there.0 (admitted_is (thinned pairs n) there.1)))
  made_over bounds (Listed counts probs) n freq are made = subst IsThinned_by (sym made.table.2) tt
