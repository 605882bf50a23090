-- The answer to an ask for a tail mean.
use Rattle.dl_answers.proofs.Common.{Option, None, IsFirstFound, bracket_end, sym, Some, ◌∙◌, ◌↔◌, ℕ, suc, ◌≡◌, ◌+◌, ◌-◌, ◌*◌, ◌^◌, ◌<◌, ◌≤◌, List, length, arith, inl, inr, div_ceil, mul-le-mul_left, mul-le-mul_right, pow_pos, div_ceil_times, Fraction, ◌over◌, ◌≤ℚ◌, ◌<ℚ◌, le_trans, lt_or_le, lt_not_le, div_ceil_least, Iv, over_le_over, low_at, high_at, spread, up_quotient, count_below, Holds, One, Mean, Tail, partial_sums, total, GridEncloses, AreDeclared, low_cdf, at_least_wider, cdf_ends, IsFirstAtLeast, Plan, IsValid, Row, total_budget, mean_budget, tail_budget, in_digits, few_cells, at_the_end, IsTailMean, DeclaresTail, IsTotalOf, IsMeanOf, Prints, Loss, up, tail_width, IsQuantile, count_below_grows, IsLevel, IsAtLeast, total_cdf, total_mean, total_tail, ◌⊎◌, ask_budget, IsBeyond, IsAnswerTo, total_error, num_below, End, Beyond, IsPast, IsPastGrid, reach_of}
use Rattle.dl_plan.specs.declared.settings.Ask.TheVariants as asks
use Rattle.dl_answers.proofs.Losses.{losses_of, losses_declared, losses_units, encloses_losses, holds_told, holds_back, quantile_back}
use Rattle.dl_answers.proofs.Printed.{are_ends, tail_widens}

-- ---- how wide it is

pub up_rises : (m n d : ℕ) → 0 < d → m ≤ n → up (m over d) ≤ up (n over d)
up_rises m n d pos h =
    omega (
      arith,
      up_quotient m d pos,
      up_quotient n d pos,
      div_ceil_least m d (div_ceil n d) pos (omega (arith, h, (div_ceil_times n d pos).0)),
    )

tail_narrow : (p : Fraction) (mean most cells w budget : ℕ) → p.num < p.den → mean ≤ most → w ≤ budget
    → tail_width p mean cells w ≤ up (((2 * most + 3 * cells * budget) * p.den) over (p.den - p.num)) + 4
tail_narrow p mean most cells w budget below of_mean of_spread =
    let sums : 2 * mean + 3 * cells * w ≤ 2 * most + 3 * cells * budget =
    omega (arith, of_mean, mul-le-mul_left (3 * cells) of_spread) in
    let bound = up_rises ((2 * mean + 3 * cells * w) * p.den) ((2 * most + 3 * cells * budget) * p.den)
    (p.den - p.num) (omega (arith, below)) (mul-le-mul_right p.den sums) in
    omega arith

-- ---- where it is told

low_rises : {B : ℕ} (g : List (Iv B)) (x y : ℕ) → x ≤ y
    → count_below (suc x) (low_at g) ≤ count_below (suc y) (low_at g)
low_rises g x y h = count_below_grows (suc x) (suc y) (low_at g) (omega (arith, h))

low_cdf_rises : {B : ℕ} (g : List (Iv B)) (x y : ℕ) → x ≤ y
    → low_cdf (2 ^ B) (low_at g) x ≤ℚ low_cdf (2 ^ B) (low_at g) y
low_cdf_rises {B} g x y h = over_le_over (count_below (suc x) (low_at g)) (count_below (suc y) (low_at g)) (2 ^ B)
    (pow_pos B) (low_rises g x y h)

below_before : (p x y : Fraction) → x ≤ℚ y → y <ℚ p → x <ℚ p
below_before p x y order below = elim (lt_or_le x p)
    [ inl less ↦ less | inr not_less ↦ absurd (lt_not_le y p below (le_trans p x y not_less order)) ]

-- no low end reaches p exactly where the last one does not
none_reaches : {B : ℕ} (g : List (Iv B)) (p : Fraction) (n x : ℕ) → x + 1 ≡ n
    → IsFirstAtLeast (low_cdf (2 ^ B) (low_at g)) p n n ↔ (low_cdf (2 ^ B) (low_at g) x <ℚ p)
none_reaches g p n x last = (
  λ none. none.before x (omega (arith, last)),
  λ below. record {
    within = omega arith;
    before = λ y inside. below_before p _ _ (low_cdf_rises g y x (omega (arith, inside, last))) below;
    reached = λ past. absurd (omega (arith, past));
  },
)

-- where some low end reaches p, the last one does
last_reaches : {B : ℕ} (g : List (Iv B)) (p : Fraction) (n x : ℕ) → x + 1 ≡ n
    → ¬ IsFirstAtLeast (low_cdf (2 ^ B) (low_at g)) p n n → p ≤ℚ low_cdf (2 ^ B) (low_at g) x
last_reaches {B} g p n x last found = elim (lt_or_le (low_cdf (2 ^ B) (low_at g) x) p)
    [ inl below ↦ absurd (found ((none_reaches g p n x last).1 below)) | inr reached ↦ reached ]

-- the high end of a bracket is past the grid exactly where no low end reaches p
pub bracket_past : {B : ℕ} (g : List (Iv B)) {p : Fraction} (hi : Option ℕ) {end : End} → end ≡ bracket_end hi
    → IsFirstFound (low_cdf (2 ^ B) (low_at g)) p (length g) hi → (end ≡ Beyond) ↔ IsPast g p
bracket_past g None is found = (λ _. found, λ _. is)
bracket_past g {p = p} (Some x) is found = (
  λ past. let same = sym is ∙ past in absurd cc,
  λ past. absurd (lt_not_le _ p (past.before x found.0) (found.1.reached found.0)),
)

-- what is past the grid where no low end reaches p is so at the levels above what is sure to lie inside it
pub past_above : {B : ℕ} {plan : Plan} {g : List (Iv B)} {p : Fraction} {Past : Type 0} → IsValid plan
    → IsTotalOf plan g
    → Past ↔ IsPast g p → Past ↔ (reach_of g <ℚ p)
past_above {plan = plan} {g = g} {p = p} valid t same =
    let some = few_cells plan valid in
    let ends = none_reaches g p (length g) (length g - 1) (omega (arith, t.cells, some.0)) in
    (λ past. ends.0 (same.0 past), λ below. same.1 (ends.1 below))

pub tail_reached : {B : ℕ} {plan : Plan} {g : List (Iv B)} (p : Fraction)
    → ¬ IsFirstAtLeast (low_cdf (2 ^ B) (low_at g)) p (length g) (length g)
    → IsValid plan → IsTotalOf plan g → IsAtLeast plan (at_the_end plan) p
tail_reached {B} {plan = plan} {g = g} p found valid t =
    let some = few_cells plan valid in
    let ends = holds_told valid (at_the_end plan) (total_cdf (plan.cells - 1)) _ _
    (cdf_ends (losses_of plan) (2 ^ B) (length g) (low_at g) (high_at g) (losses_units valid)
    (pow_pos B) (encloses_losses valid t) (plan.cells - 1) (omega (arith, t.cells, some.0))) in
    at_least_wider _ _ _ _ ends.0 (last_reaches g p (length g) (plan.cells - 1) (omega (arith, t.cells, some.0)) found)

pub tail_answer : {B : ℕ} {plan : Plan} {g : List (Iv B)} {mean : Iv B} {p : Fraction} {d lo hi : ℕ} {row : Row}
    → ¬ IsFirstAtLeast (low_cdf (2 ^ B) (low_at g)) p (length g) (length g)
    → ((us : List Loss) (q : ℕ) → AreDeclared us → GridEncloses g (total us)
    → Holds (partial_sums us Mean) (partial_sums us One) (mean.lo over 2 ^ B) (mean.hi over 2 ^ B)
    → IsQuantile (partial_sums us) q p
    → Holds (partial_sums us (Tail p q)) (partial_sums us One) (lo over 2 ^ B) (hi over 2 ^ B))
    → hi - lo ≤ tail_width p (mean.hi - mean.lo) (length g) (spread g)
    → IsLevel p → IsValid plan → IsTotalOf plan g → IsMeanOf plan mean → Prints (2 ^ B) lo hi d row
    → IsTailMean plan p d (in_digits (2 ^ B) (tail_budget (2 ^ B) plan p) d) row
tail_answer {B} {plan} {g} {mean} {p} {d} {lo} {hi} {row} found holds width level valid t m printed = record {
  reached = tail_reached p found valid t;
  ends = are_ends B (DeclaresTail plan p) lo hi d (tail_budget (2 ^ B) plan p) row (tail_widens plan p) printed
      (λ q is. holds_told valid (Tail p q) (total_tail p q) _ _
      (holds (losses_of plan) q (losses_declared valid) (encloses_losses valid t)
      (holds_back valid Mean total_mean _ _ m.holds) (quantile_back valid q p is))) (omega (arith, width, wide));
}
  where
    wide : tail_width p (mean.hi - mean.lo) (length g) (spread g) ≤ tail_budget (2 ^ B) plan p
    wide = rw t.cells
        (tail_narrow p (mean.hi - mean.lo) (mean_budget (2 ^ B) plan) plan.cells (spread g) (total_budget (2 ^ B) plan)
        (num_below p level.below) (omega (arith, m.narrow)) t.narrow)

pub tail_asked : (S : ℕ) {plan : Plan} {p : Fraction} {d : ℕ} {row : Row}
    → IsTailMean plan p d (in_digits S (tail_budget S plan p) d) row ⊎ IsBeyond plan p (total_error S plan) row
    → IsAnswerTo S plan d (asks.Tail p) row
unfolding ask_budget
tail_asked S told = told
