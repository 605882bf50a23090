-- How large the means of the units of a plan are.
use Rattle.dl_plan.proofs.Common.{ℕ, suc, ◌≡◌, ◌∙◌, ◌+◌, ◌-◌, ◌*◌, ◌≤◌, List, [], ◌∷◌, length, arith, inl, inr, sym, ap, subst, All, cond, Option, None, Some, IfSome, sum_by-cons, mul-le-mul_right, Fraction, whole, ◌over◌, ◌*ℚ◌, ◌-ℚ◌, ◌≤ℚ◌, over_le, over_mul, Item, Sev, weight_sum, weight_at, weighted_sum, IsWeighted, pairs_of, mean_amount, mul-le-mul_left, eqb_tells, sum_by-le, up_least, whole_le, up, most_amount_at, most_expected, most_total_at, standard_units, standard_total, Freq, Fixed, Table, Bernoulli, Binomial, Poisson, Gamma, expected_count, IsClaimCount, IsUnbounded, declared_mean, probability_of, growth, whole_mean, whole_means, IsNewZero, IsValidUnit}
use Rattle.std.proofs.Common.{subst₂, ◌==◌}
use Rattle.dl_exact.proofs.Laws.{le_refl, le_trans, one_pos, one_times, plus_zero, sub_le_both, sub_plus, times_assoc, times_comm, times_le_both, times_le_times, whole_times, zero_le}
use Rattle.dl_plan.specs.declared.plan.Unit.{Unit as UnitOfPlan}
use Rattle.dl_plan.proofs.Means.{total_pos, positive_share}
use Rattle.dl_plan.proofs.Shares.{mean-shares}
use Rattle.dl_plan.proofs.ValidUnits.{mean_most}

item_within : (n a w : ℕ) → a ≤ n → a * w + n * cond (a == 0) w 0 ≤ n * w
item_within n a w within = elim (eqb_tells a 0) [
  | inl none ↦ rw none.0 (omega (arith, ap (λ t. t * w) none.1))
  | inr some ↦ rw some.0 (omega (arith, mul-le-mul_right w within))
]

amounts_within : (n : ℕ) (xs : List Item) → All (λ item. item.amount ≤ n) xs
    → weighted_sum xs + n * weight_at xs 0 ≤ n * weight_sum xs
amounts_within n [] near = omega arith
amounts_within n (x ∷ xs) near = omega (
  arith,
  sum_by-cons (λ (i : Item). i.amount * i.weight) x xs,
  ap (λ t. n * t) (sum_by-cons (λ (i : Item). i.weight) x xs),
  ap (λ t. n * t) (sum_by-cons (λ (i : Item). cond (i.amount == 0) i.weight 0) x xs),
  item_within n x.amount x.weight (near 0 x (omega arith)),
  amounts_within n xs (λ k d inside. near (suc k) d (omega arith)),
)

positive_within : (n W w0 T : ℕ) → W + n * w0 ≤ n * T → W ≤ (T - w0) * n
positive_within n W w0 T h =
    let most : T ≤ (T - w0) + w0 = omega arith in
    omega (arith, mul-le-mul_left n most)

mean_within : (n : ℕ) (sev : Sev) → All (λ item. item.amount ≤ n) sev.items
    → mean_amount (pairs_of sev) ≤ℚ (whole 1 -ℚ probability_of sev 0) *ℚ whole n
mean_within n sev near =
    let W = weighted_sum sev.items in
    let w0 = weight_at sev.items 0 in
    let T = sev.total in
    let pos = total_pos sev.items T sev.weighted in
    let sums : W + n * w0 ≤ n * T = rw sev.weighted.sum at (amounts_within n sev.items near) in
    let parts : (whole 1 -ℚ probability_of sev 0) *ℚ whole n ≡ ((T - w0) * n) over (T * 1) =
    ap (λ t. t *ℚ whole n) (sym (positive_share w0 T pos)) ∙ over_mul (T - w0) T n 1 pos one_pos in
    subst₂ (λ s t. s ≤ℚ t) (sym (mean-shares sev.items T pos)) (sym parts)
    (over_le W T ((T - w0) * n) (T * 1) pos (omega arith)
    (omega (arith, mul-le-mul_right T (positive_within n W w0 T sums))))

sub_nought : (x : Fraction) → x -ℚ whole 0 ≡ x
sub_nought x = sym (plus_zero _) ∙ sub_plus x (whole 0) (zero_le x)

at_most_one : (u : UnitOfPlan) → whole 1 -ℚ probability_of u.sev 0 ≤ℚ whole 1
at_most_one u = subst (λ t. whole 1 -ℚ probability_of u.sev 0 ≤ℚ t) (sub_nought (whole 1))
    (sub_le_both _ _ _ _ (le_refl (whole 1)) (zero_le (probability_of u.sev 0)))

times_at_most_one : (x y z : Fraction) → y ≤ℚ whole 1 → x ≤ℚ z → x *ℚ y ≤ℚ z
times_at_most_one x y z h p = le_trans (x *ℚ y) x z
    (subst₂ (λ s t. s ≤ℚ t) (times_comm y x) (one_times x) (times_le_times y (whole 1) x h)) p

listed_within : (counts : List Item) (total : ℕ) → IsWeighted counts total → All (λ item. item.amount ≤ 256) counts
    → weighted_sum counts over total ≤ℚ whole 65536
listed_within counts total w near =
    let sums = rw w.sum at (amounts_within 256 counts near) in
    over_le (weighted_sum counts) total 65536 1 (total_pos counts total w) one_pos (omega arith)

-- the thinned mean is at most 65,536
few_claims : (freq : Freq) (y : Fraction) → IsClaimCount freq → y ≤ℚ whole 1
    → (IsUnbounded freq → expected_count freq *ℚ y ≤ℚ whole 4096)
    → expected_count freq *ℚ y ≤ℚ whole 65536
few_claims (Fixed m) y count one slow = times_at_most_one (whole m) y (whole 65536) one (whole_le m 65536 count)
few_claims (Table counts total) y count one slow = times_at_most_one (weighted_sum counts over total) y
    (whole 65536) one (listed_within counts total count.0 count.1)
few_claims (Bernoulli q) y count one slow = times_at_most_one q y (whole 65536) one
    (le_trans q (whole 1) (whole 65536) count.within (whole_le 1 65536 (omega arith)))
few_claims (Binomial trials q) y count one slow =
    times_at_most_one (whole trials *ℚ q) y (whole 65536) one
    (times_at_most_one (whole trials) q (whole 65536) count.1.within (whole_le trials 65536 count.0))
few_claims (Poisson mean) y count one slow = le_trans _ _ _ (slow tt) (whole_le 4096 65536 (omega arith))
few_claims (Gamma shape mean) y count one slow = le_trans _ _ _ (slow tt) (whole_le 4096 65536 (omega arith))

pub unit_within : (cells : ℕ) (u : UnitOfPlan) → IsValidUnit cells u
    → declared_mean u ≤ℚ whole 65536 *ℚ whole (most_amount_at cells)
unit_within cells u valid =
    let x : Fraction = expected_count u.freq in
    let y : Fraction = whole 1 -ℚ probability_of u.sev 0 in
    let z : Fraction = whole (most_amount_at cells) in
    le_trans _ _ _ (times_le_both _ _ _ _ (le_refl x) (mean_within (most_amount_at cells) u.sev valid.amounts))
    (subst (λ t. t ≤ℚ whole 65536 *ℚ z) (times_assoc x y z) (times_le_times (x *ℚ y) (whole 65536) z
    (few_claims u.freq y valid.count (at_most_one u) (λ slow. (valid.thinned slow).1))))

-- the mean of a unit is at most 17 times 4,096 claims of the greatest amount
room_of : (cells : ℕ) (u : UnitOfPlan) → IsValidUnit cells u → whole_mean u ≤ 17 * 4096 * most_amount_at cells
room_of cells u valid = by u.zero valid.zero
  where
    by : (z : Option Fraction) → IfSome z (IsNewZero u.freq)
        → up (whole (growth z) *ℚ declared_mean u) ≤ 17 * 4096 * most_amount_at cells
    by None h =
        let most : declared_mean u ≤ℚ whole (65536 * most_amount_at cells) =
        subst (λ t. declared_mean u ≤ℚ t) (sym (whole_times 65536 (most_amount_at cells))) (unit_within cells u valid) in
        omega (
          arith,
          up_least (whole 1 *ℚ declared_mean u) (65536 * most_amount_at cells)
              (subst (λ t. t ≤ℚ whole (65536 * most_amount_at cells)) (sym (one_times (declared_mean u))) most),
        )
    by (Some p) h =
        let mean : declared_mean u ≤ℚ whole (most_expected * most_amount_at cells) =
        mean_most most_expected (most_amount_at cells) u h.most valid.amounts in
        let most : whole 17 *ℚ declared_mean u ≤ℚ whole (17 * (most_expected * most_amount_at cells)) =
        subst (λ t. whole 17 *ℚ declared_mean u ≤ℚ t) (sym (whole_times 17 (most_expected * most_amount_at cells)))
        (times_le_both _ _ _ _ (le_refl (whole 17)) mean) in
        omega (arith, up_least _ _ most)

-- at most 16 units have no greater means than a plan may have
pub standard_means : (cells : ℕ) (us : List UnitOfPlan) → All (IsValidUnit cells) us → length us ≤ standard_units
    → whole_means us ≤ most_total_at cells
standard_means cells us valid few =
    omega (
      arith,
      sum_by-le whole_mean (17 * 4096 * most_amount_at cells) us (λ i u inside. room_of cells _ (valid i u inside)),
      mul-le-mul_right (17 * 4096 * most_amount_at cells) few,
      standard_total cells,
    )
