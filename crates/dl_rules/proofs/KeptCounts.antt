-- What the rules on a count leave of it.
use Rattle.dl_rules.proofs.Common.{◌≡◌, ◌&&◌, Bool, true, false, not, if◌then◌else◌, Option, Some, None, refl, IfSome, is_some, Fraction, pos_num, HasPartsOf48Bits, GridFreq, Fixed, Poisson, Bernoulli, Binomial, Gamma, GridCount, Exposed, Listed, not_at, not-false, IsWholeFreq, IsWholeCount, IsCountChecked, exposed_too_fine, has_too_many_claims, or_parts, IsGridCount, count_lengths, is_unbounded, IsSmallFreq, exposure_span, count_not_whole, count_above_one, trials_not_whole, shape_not_whole, zero_above, fine_probabilities, has_probs, probs_of, Bounds, AreBounds, freq_too_fine, passes, shape_of, most_shape, ⊤, AreProbabilities, GridExposure}
use Rattle.dl_rules.proofs.Shapes.{shaped, gamma_count}

-- ---- tests

-- a number that is there is the one that it may be, which passes the test
pub given : (b : Bool) (x n : Fraction) → (if b then Some x else None) ≡ Some n → (n ≡ x) × (b ≡ true)
given true x n e = (cc, refl)
given false x n e = absurd (cc)

-- ---- what has to be whole

-- the rules on whole numbers, with n claims expected
pub record AreWhole (bounds : Bounds) (k : GridCount) (n : Option Fraction) : Type 0 where
  pub whole : count_not_whole k n ≡ None
  pub within : count_above_one k n ≡ None
  pub trials : trials_not_whole k n ≡ None
  pub shape : shape_not_whole bounds k ≡ None

whole_freq : (bounds : Bounds) (e : GridExposure) (f : GridFreq) (n : Fraction) (above : Option Fraction)
    → AreWhole bounds (Exposed e f) (Some n) → freq_too_fine bounds f (Some n) above ≡ false → IsWholeFreq f n
unfolding count_not_whole count_above_one trials_not_whole shape_not_whole
whole_freq bounds e (Fixed span) n above are fine = not-false _ (not_at _ (exposure_span e) are.whole)
whole_freq bounds e (Poisson span) n above are fine = tt
whole_freq bounds e (Bernoulli span) n above are fine = not_at _ (exposure_span e) are.within
whole_freq bounds e (Binomial p span) n above are fine =
    let parts = or_parts _ _ (not_at _ span are.trials) in
    let range = or_parts _ _ parts.0 in
    record { above = pos_num p (zero_above p.num range.0); within = range.1; whole = not-false _ parts.1 }
whole_freq bounds e (Gamma c span) n above are fine = shaped bounds c (Some n) above (not_at _ span are.shape) fine

-- ---- what has to be there

-- the number is there, and of an unbounded count the number above 0; and a shape is not too fine
pub number_there : (bounds : Bounds) (e : GridExposure) (f : GridFreq) (n above : Option Fraction)
    → exposed_too_fine bounds (Exposed e f) n above ≡ false
    → (is_some n ≡ true) × ((is_unbounded f && not (is_some above)) ≡ false) × (freq_too_fine bounds f n above ≡ false)
unfolding exposed_too_fine
number_there bounds e f n above fine =
    let parts = or_parts _ _ fine in
    let there = or_parts _ _ parts.0 in
    (not-false _ (or_parts _ _ there.0).1, there.1, parts.1)

pub whole_count : (bounds : Bounds) (k : GridCount) (n above : Option Fraction) → AreWhole bounds k n
    → exposed_too_fine bounds k n above ≡ false → IsWholeCount k n
whole_count bounds (Exposed e f) None above are fine = absurd (cc ((number_there bounds e f None above fine).0))
whole_count bounds (Exposed e f) (Some n) above are fine =
    whole_freq bounds e f n above are (number_there bounds e f (Some n) above fine).2
whole_count bounds (Listed counts probs) n above are fine = tt

-- ---- all rules

-- the probabilities of listed counts are fine
abbrev pub AreShared : GridCount → Type 0
AreShared (Exposed e f) = ⊤
AreShared (Listed counts probs) = AreProbabilities (probs_of counts probs)

pub probs_are : (bounds : Bounds) → AreBounds bounds → (k : GridCount) → has_probs bounds k ≡ true → AreShared k
probs_are bounds within (Exposed e f) fine = tt
probs_are bounds within (Listed counts probs) fine = fine_probabilities bounds.parts (probs_of counts probs) within.parts fine

-- and the rules on fractions and on sizes, with so many claims above 0; the lists are good, and the number is admitted
pub record AreChecked (bounds : Bounds) (k : GridCount) (n above : Option Fraction) : Type 0 where
  pub whole : AreWhole bounds k n
  pub fine : exposed_too_fine bounds k n above ≡ false
  pub few : has_too_many_claims k n above ≡ false
  pub read : IsGridCount k
  pub paired : count_lengths k ≡ None
  pub shared : AreShared k
  pub admitted : IfSome n HasPartsOf48Bits

small_freq : (bounds : Bounds) (e : GridExposure) (f : GridFreq) (n : Fraction) (above : Option Fraction)
    → AreChecked bounds (Exposed e f) (Some n) above → IsSmallFreq f n
unfolding has_too_many_claims shape_not_whole
small_freq bounds e (Fixed span) n above are = are.few
small_freq bounds e (Poisson span) n above are = tt
small_freq bounds e (Bernoulli span) n above are = tt
small_freq bounds e (Binomial p span) n above are = are.few
small_freq bounds e (Gamma c span) n above are =
    gamma_count bounds c (Some n) above (not_at _ span are.whole.shape)
    (number_there bounds e (Gamma c span) (Some n) above are.fine).2
    (or_parts (passes (shape_of c) most_shape) _ (or_parts _ _ are.few).1).0 n refl are.admitted

pub count_kept : (bounds : Bounds) (k : GridCount) (n above : Option Fraction) → AreChecked bounds k n above
    → IsCountChecked k n
unfolding count_not_whole has_too_many_claims
count_kept bounds (Exposed e f) None above are = absurd (cc ((number_there bounds e f None above are.fine).0))
count_kept bounds (Exposed e f) (Some n) above are = record {
  read = are.read.1;
  whole = whole_freq bounds e f n above are.whole (number_there bounds e f (Some n) above are.fine).2;
  few = small_freq bounds e f n above are;
  admitted = are.admitted;
}
count_kept bounds (Listed counts probs) n above are = record {
  read = are.read.0;
  second = are.read.1;
  lengths = are.paired;
  whole = not_at _ counts.span are.whole.whole;
  few = are.few;
  shares = are.shared;
}
