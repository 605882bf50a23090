-- Cell 0 of a Poisson grid and of a geometric grid.
use Rattle.dl_panjer.proofs.Common.{ℕ, zero, suc, ◌≡◌, ◌+◌, ◌*◌, ◌/◌, ◌^◌, ◌<◌, ◌≤◌, arith, sym, ap, ◌∙◌, mul-pos, div_ceil, zero-lt-suc, lt-div-mul-add, Fraction, ◌over◌, ◌+ℚ◌, ◌*ℚ◌, ◌/ℚ◌, ◌≤ℚ◌, whole, pow_pos, IsFloor, sum_to, over_same, over_div, one_pos, times_cancel, times_comm, over_times_whole, lt_of_lt_of_le, le_plus, le_refl, le_trans, whole_pos, div_ceil_least, Iv, Holds, poisson, EnclosesExp, sum_to_same, exponential_term, exponential_sum, times_le_cancel, IsCeiling, div_is_times, poisson_zero, poisson_next}
use Rattle.dl_panjer.proofs.Terms.{term_zero, term_next}
use Rattle.dl_panjer.proofs.Recursions.{one_and}

-- the weights of the Poisson count are the terms of the exponential's series
weight_is_term : (v : Fraction) (n : ℕ) → poisson v n ≡ exponential_term v n
weight_is_term v zero = poisson_zero v ∙ sym (term_zero v)
weight_is_term v (suc n) =
    times_cancel _ _ (whole (suc n)) (whole_pos (suc n) (zero-lt-suc n))
    (poisson_next v n ∙ ap (λ t. v *ℚ t) (weight_is_term v n) ∙ sym (term_next v n))

pub sums_are : (v : Fraction) (N : ℕ) → sum_to N (poisson v) ≡ exponential_sum v N
sums_are v N = sum_to_same N (poisson v) (exponential_term v) (λ n near. weight_is_term v n)

-- what encloses exp(-v) is what holds 1 over the sums of the exponential's series
pub exp_holds : {B : ℕ} (v : Fraction) (interval : Iv B) → EnclosesExp v interval
    → Holds (λ N. whole 1) (exponential_sum v) (interval.lo over 2 ^ B) (interval.hi over 2 ^ B)
exp_holds v interval encloses = (
  λ N u bound. le_trans _ _ _ (encloses.low N) (bound zero),
  λ N u bound. encloses.high u bound,
)

pub holds_exp : {B : ℕ} (v : Fraction) (interval : Iv B)
    → Holds (λ N. whole 1) (exponential_sum v) (interval.lo over 2 ^ B) (interval.hi over 2 ^ B)
    → EnclosesExp v interval
holds_exp v interval holds =
    record { low = λ N. holds.0 N (whole 1) (λ M. le_refl (whole 1)); high = λ u bound. holds.1 zero u bound }

-- what encloses exp(-v) holds the probability of no claim
pub poisson_start : {B : ℕ} (v : Fraction) (interval : Iv B) (lo hi : ℕ) → EnclosesExp v interval → lo ≡ interval.lo
    → hi ≡ interval.hi
    → Holds (λ N. whole 1) (λ N. sum_to N (poisson v)) (lo over 2 ^ B) (hi over 2 ^ B)
poisson_start {B} v interval lo hi encloses low high = (
  (λ N u bound. le_trans _ _ _ (rw (low, sums_are v N) (encloses.low N)) (bound zero)),
  (λ N u bound. rw high (encloses.high u (λ M. rw (← sums_are v M) (bound M)))),
)

-- ---- the geometric count: d over p + d, where beta is p over d

pub ceiling_near : (n d : ℕ) → 0 < d → div_ceil n d ≤ n / d + 1
ceiling_near n d pos = div_ceil_least n d (n / d + 1) pos (omega (arith, lt-div-mul-add {a = n} {b = d} pos))

pub start_small : (S p d : ℕ) → 0 < d → div_ceil (S * d) (p + d) ≤ S
start_small S p d pos = div_ceil_least (S * d) (p + d) S (omega (arith, pos)) (omega arith)

pub units_of_reciprocal : (S p d : ℕ) (v : Fraction) → 0 < d → p over d ≡ v
    → (S * d) over (p + d) ≡ whole S /ℚ (whole 1 +ℚ v)
units_of_reciprocal S p d v pos e =
    over_same (S * d) (p + d) (S * d) (1 * (p + d)) (omega (arith, pos)) (mul-pos one_pos (omega (arith, pos)))
    (omega arith)
    ∙ sym (over_div S 1 (p + d) d one_pos pos (omega (arith, pos))) ∙ ap (λ t. whole S /ℚ t) (sym (one_and p d pos))
    ∙ ap (λ t. whole S /ℚ (whole 1 +ℚ t)) e

-- a whole number of units of 1 / S, at most or at least S times x
module _ (S : ℕ) (pos : 0 < S) where
  pub units_below : (n : ℕ) (x : Fraction) → whole n ≤ℚ whole S *ℚ x → n over S ≤ℚ x
  units_below n x h =
      times_le_cancel _ _ (whole S) (whole_pos S pos) (rw (over_times_whole n S pos, times_comm x (whole S)) h)

  pub units_above : (n : ℕ) (x : Fraction) → whole S *ℚ x ≤ℚ whole n → x ≤ℚ n over S
  units_above n x h =
      times_le_cancel _ _ (whole S) (whole_pos S pos) (rw (over_times_whole n S pos, times_comm x (whole S)) h)

-- S over 1 + v as a multiple of its reciprocal
pub units_over : (S : ℕ) (v : Fraction) → whole S /ℚ (whole 1 +ℚ v) ≡ whole S *ℚ (whole 1 /ℚ (whole 1 +ℚ v))
units_over S v =
    div_is_times (whole S) (whole 1 +ℚ v) (lt_of_lt_of_le _ _ _ (whole_pos 1 one_pos) (le_plus (whole 1) v))
    ∙ times_comm _ _

-- cell 0 of a geometric grid lies round 1 / (1 + v)
pub floor_start : (B : ℕ) (v : Fraction) (n : ℕ) → IsFloor (whole (2 ^ B) /ℚ (whole 1 +ℚ v)) n
    → n over 2 ^ B ≤ℚ whole 1 /ℚ (whole 1 +ℚ v)
floor_start B v n h = units_below (2 ^ B) (pow_pos B) n _ (rw (← units_over (2 ^ B) v) h.below)

pub ceiling_start : (B : ℕ) (v : Fraction) (n : ℕ) → IsCeiling (whole (2 ^ B) /ℚ (whole 1 +ℚ v)) n
    → whole 1 /ℚ (whole 1 +ℚ v) ≤ℚ n over 2 ^ B
ceiling_start B v n h = units_above (2 ^ B) (pow_pos B) n _ (rw (← units_over (2 ^ B) v) h.above)
