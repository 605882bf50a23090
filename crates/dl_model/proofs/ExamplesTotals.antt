-- Quantities of the total of two dice, worked by hand: 36 pairs of outcomes, alike. And the declared values of constant
-- series.
use Rattle.dl_model.proofs.Common.{Some, List, [], ◌∷◌, map, ℕ, zero, suc, ◌≡◌, ◌-◌, ◌<◌, arith, refl, subst, sym, times_le_both, le_refl, le_trans, over_le, times_one, zero_le, Below, sum, nat_eq, nat_le, nat_lt, zero-lt-suc, one_pos, Fraction, whole, ◌over◌, ◌*ℚ◌, ◌≤ℚ◌, count_pairs, sum_to, layer, equally_likely, probability_at, Loss, One, Point, Cdf, Mean, Layer, Tail, Price, PricedTerm, above_quantile, score, partial_sums, sum_over, sum_over_outcomes, survival, AtLeast, Holds, IsQuantile, IsBracketed, ways, over_lt}
use Rattle.dl_model.proofs.Ratios.{Known, worked, over_is, whole_is, plus_is, minus_is, times_is, divided_is, where_is}
unfoldable use Rattle.dl_model.proofs.Ratios.{through_is, pairs_is}
use Rattle.dl_model.proofs.ExamplesClaims.{die}
use Rattle.dl_model.proofs.ExamplesUnits.{Worked, listed_loss}

-- ---- the definitions as numbers over numbers

unfoldable pub over_outcomes_is : (us : List Worked) {value : List ℕ → Fraction} → ((ys : List ℕ) → Known (value ys))
    → (N : ℕ) → Known (sum_over_outcomes (map (λ u. u.loss) us) value N)
unfolding sum_over_outcomes
over_outcomes_is [] p N = p []
over_outcomes_is (u ∷ us) p N =
    through_is (λ y. times_is (u.are y N) (over_outcomes_is us (λ ys. p (y ∷ ys)) N)) (u.loss.last_outcome N)

-- what is above q, where p = a / b is below 1
abbrev pub above_is : (a b : ℕ) → a < b → (q x : ℕ) → Known (above_quantile (a over b) q x)
above_is a b below q x =
    plus_is (whole_is q)
    (divided_is (whole_is (x - q)) (minus_is (whole_is 1) (over_is a b (omega arith))) (omega arith))

-- ---- two dice

abbrev pub one_die : Worked
one_die = listed_loss (equally_likely (1 ∷ [])) die (zero-lt-suc _) (zero-lt-suc _)

abbrev pub dice : List Loss
dice = map (λ u. u.loss) (one_die ∷ one_die ∷ [])

abbrev pub of_dice : {value : List ℕ → Fraction} → ((ys : List ℕ) → Known (value ys))
    → Known (sum_over_outcomes dice value 1)
of_dice p = over_outcomes_is (one_die ∷ one_die ∷ []) p 1

-- all pairs
pub dice_whole : partial_sums dice One 1 ≡ whole 1
unfolding ways count_pairs through_is over_outcomes_is
dice_whole = worked 1 1 (of_dice (λ ys. whole_is 1)) one_pos refl

-- six pairs come to 7
pub dice_seven : partial_sums dice (Point 7) 1 ≡ 1 over 6
unfolding ways count_pairs through_is over_outcomes_is
dice_seven = worked 1 6 (of_dice (λ ys. where_is (nat_eq (sum ys) 7) (whole_is 1))) (zero-lt-suc _) refl

-- 1, 2 and 3 pairs come to 2, 3 and 4
pub dice_four : partial_sums dice (Cdf 4) 1 ≡ 1 over 6
unfolding ways count_pairs through_is over_outcomes_is
dice_four = worked 1 6 (of_dice (λ ys. where_is (nat_le (sum ys) 4) (whole_is 1))) (zero-lt-suc _) refl

-- 2 and 1 come to 11 and 12
pub dice_above : survival dice 10 1 ≡ 1 over 12
unfolding ways count_pairs through_is over_outcomes_is
dice_above = worked 1 12 (of_dice (λ ys. where_is (nat_lt 10 (sum ys)) (whole_is 1))) (zero-lt-suc _) refl

-- twice 7/2
pub dice_mean : partial_sums dice Mean 1 ≡ whole 7
unfolding ways count_pairs through_is over_outcomes_is
dice_mean = worked 7 1 (of_dice (λ ys. whole_is (sum ys))) one_pos refl

-- at most 1 above 10: 3/36
pub dice_layer : partial_sums dice (Layer (Some 1) 10) 1 ≡ 1 over 12
unfolding ways count_pairs through_is over_outcomes_is
dice_layer = worked 1 12 (of_dice (λ ys. whole_is (layer (Some 1) 10 (sum ys)))) (zero-lt-suc _) refl

-- 11 is 1 above 10, which a tail of 1/10 counts 10 times; 9 is not above 10
pub above_ten : above_quantile (9 over 10) 10 11 ≡ whole 20
above_ten = worked 20 1 (above_is 9 10 (omega arith) 10 11) one_pos refl

pub below_ten : above_quantile (9 over 10) 10 9 ≡ whole 10
below_ten = worked 10 1 (above_is 9 10 (omega arith) 10 9) one_pos refl

-- the tail mean at 9/10: 10 + 10 * (2 * 1 + 1 * 2) / 36
pub dice_tail : partial_sums dice (Tail (9 over 10) 10) 1 ≡ 100 over 9
unfolding ways count_pairs through_is over_outcomes_is
dice_tail = worked 100 9 (of_dice (λ ys. above_is 9 10 (omega arith) 10 (sum ys))) (zero-lt-suc _) refl

-- half the mean and half that tail mean: 7/2 + 50/9
abbrev half_each : List PricedTerm
half_each =
    record { weight = 1 over 2; p = 0 over 1; quantile = 2 } ∷ record { weight = 1 over 2; p = 9 over 10; quantile = 10 }
    ∷ []

unfoldable half_each_is : (x : ℕ) → Known (sum_over half_each (λ t. t.weight *ℚ above_quantile t.p t.quantile x))
unfolding sum_over
half_each_is x =
    plus_is (times_is (over_is 1 2 (zero-lt-suc _)) (above_is 0 1 one_pos 2 x))
    (plus_is (times_is (over_is 1 2 (zero-lt-suc _)) (above_is 9 10 (omega arith) 10 x)) (whole_is 0))

pub dice_price : partial_sums dice (Price half_each) 1 ≡ 163 over 18
unfolding ways count_pairs through_is over_outcomes_is half_each_is
dice_price = worked 163 18 (of_dice (λ ys. half_each_is (sum ys))) (zero-lt-suc _) refl

-- of the outcomes 5 and 6 alone: (11 + 20) / 2
pub one_price : score (Price half_each) (5 ∷ 6 ∷ []) ≡ 31 over 2
unfolding half_each_is
one_price = worked 31 2 (half_each_is 11) (zero-lt-suc _) refl

-- ---- declared values

-- 1 at each level over 2 at each level is 1/2
pub half_declared : Holds (λ N. whole 1) (λ N. whole 2) (1 over 2) (1 over 2)
half_declared =
    let half : 1 over 2 *ℚ whole 2 ≡ whole 1 =
    worked 1 1 (times_is (over_is 1 2 (zero-lt-suc _)) (whole_is 2)) one_pos refl in (
      λ N u bound. subst (λ t. t ≤ℚ u) (sym half) (bound N),
      λ N u bound. subst (λ t. t ≤ℚ 1 over 2 *ℚ u) half
          (times_le_both _ _ _ _ (le_refl (1 over 2)) (bound N)),
    )

-- a total that is surely 1
abbrev surely_one : List Loss
surely_one =
    record {
      family = record { cells = λ y N. probability_at (equally_likely (1 ∷ [])) y; all = λ N. whole 1 };
      last_outcome = λ N. 1;
    } ∷ []

unfoldable surely : {value : List ℕ → Fraction} → ((ys : List ℕ) → Known (value ys)) → (N : ℕ)
    → Known (sum_over_outcomes surely_one value N)
unfolding sum_over_outcomes sum_to
surely p N = plus_is (times_is (whole_is 0) (p (0 ∷ []))) (times_is (whole_is 1) (p (1 ∷ [])))

surely_all : (N : ℕ) → partial_sums surely_one One N ≡ whole 1
unfolding surely
surely_all N = worked 1 1 (surely (λ ys. whole_is 1) N) one_pos refl

surely_reached : (N : ℕ) → partial_sums surely_one (Cdf 1) N ≡ whole 1
unfolding surely
surely_reached N = worked 1 1 (surely (λ ys. where_is (nat_le (sum ys) 1) (whole_is 1)) N) one_pos refl

surely_before : (N : ℕ) → partial_sums surely_one (Cdf 0) N ≡ whole 0
unfolding surely
surely_before N = worked 0 1 (surely (λ ys. where_is (nat_le (sum ys) 0) (whole_is 1)) N) one_pos refl

reached_at_one : AtLeast (partial_sums surely_one (Cdf 1)) (partial_sums surely_one One) (1 over 2)
reached_at_one N u bound =
    let within : whole 1 ≤ℚ u = subst (λ t. t ≤ℚ u) (surely_reached N) (bound N) in
    rw (surely_all N, times_one) (le_trans _ _ _ (over_le 1 2 1 1 (zero-lt-suc _) one_pos (omega arith)) within)

below_at_zero : (x y : ℕ) → suc y ≡ suc x
    → y ≡ 0 → Below (partial_sums surely_one (Cdf x)) (partial_sums surely_one One) (1 over 2)
below_at_zero zero y e f = (
  whole 0,
  over_lt 0 1 1 2 one_pos (zero-lt-suc _) (omega arith),
  λ N u bound. rw surely_before (zero_le _),
)
below_at_zero (suc x) y e f = absurd (omega arith)

-- its quantile at 1/2 is 1, and from 1 to 1 is a bracket
pub one_is_quantile : IsQuantile (partial_sums surely_one) 1 (1 over 2)
one_is_quantile = record { reached = reached_at_one; before = λ x e. below_at_zero x 0 e refl }

pub one_is_bracket : IsBracketed (partial_sums surely_one) 1 (Some 1) (1 over 2)
one_is_bracket = record {
  before = λ x e. below_at_zero x 0 e refl;
  reached = λ x e. subst (λ t. AtLeast (partial_sums surely_one (Cdf t)) (partial_sums surely_one One) (1 over 2)) (cc)
      reached_at_one;
}
