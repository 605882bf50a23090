-- One unit beside the others, worked by hand: two dice, and the share of each in the tail mean at 4/5. Below 9 lie 26/36,
-- and 9 has 4/36, so that 7/10 of it lie below the tail.
use Rattle.dl_model.proofs.Common.{List, [], ◌∷◌, ℕ, ◌≡◌, arith, refl, sum, get_or, nat_eq, nat_lt, zero-lt-suc, one_pos, whole, ◌over◌, count_pairs, Outcome, Joint, Part, Share, Tail, score, partial_sums, ways, ◌-ℚ◌}
use Rattle.dl_model.proofs.Ratios.{Known, worked, over_is, whole_is, plus_is, minus_is, times_is, divided_is, where_is}
unfoldable use Rattle.dl_model.proofs.Ratios.{through_is, pairs_is}
use Rattle.dl_model.proofs.ExamplesTotals.{dice, of_dice, above_is}
unfoldable use Rattle.dl_model.proofs.ExamplesTotals.{over_outcomes_is}

-- what counts for the probability below the tail, and for the share of unit i
abbrev part_is : (ys : List ℕ) → Known (score (Part 9 (7 over 10)) ys)
part_is ys =
    plus_is (where_is (nat_lt (sum ys) 9) (whole_is 1)) (where_is (nat_eq (sum ys) 9) (over_is 7 10 (zero-lt-suc _)))

abbrev rest_is : Known (whole 1 -ℚ 4 over 5)
rest_is = minus_is (whole_is 1) (over_is 4 5 (zero-lt-suc _))

abbrev share_is : (i : ℕ) (ys : List ℕ) → Known (score (Share i (4 over 5) 9 (7 over 10)) ys)
share_is i ys =
    plus_is (where_is (nat_lt 9 (sum ys)) (divided_is (whole_is (get_or ys i 0)) rest_is (zero-lt-suc _)))
    (where_is (nat_eq (sum ys) 9)
    (divided_is (times_is (minus_is (whole_is 1) (over_is 7 10 (zero-lt-suc _))) (whole_is (get_or ys i 0))) rest_is
    (zero-lt-suc _)))

-- the mean of the first die, and its outcome where the total is 7: 21/36
pub die_mean : partial_sums dice (Outcome 0) 1 ≡ 7 over 2
unfolding ways count_pairs through_is over_outcomes_is
die_mean = worked 7 2 (of_dice (λ ys. whole_is (get_or ys 0 0))) (zero-lt-suc _) refl

pub die_at_seven : partial_sums dice (Joint 0 7) 1 ≡ 7 over 12
unfolding ways count_pairs through_is over_outcomes_is
die_at_seven = worked 7 12 (of_dice (λ ys. where_is (nat_eq (sum ys) 7) (whole_is (get_or ys 0 0)))) (zero-lt-suc _) refl

-- below the tail lie 26/36 + 7/10 * 4/36
pub dice_below : partial_sums dice (Part 9 (7 over 10)) 1 ≡ 4 over 5
unfolding ways count_pairs through_is over_outcomes_is
dice_below = worked 4 5 (of_dice part_is) (zero-lt-suc _) refl

-- the tail mean 187/18, of which each die has half
pub dice_tail_mean : partial_sums dice (Tail (4 over 5) 9) 1 ≡ 187 over 18
unfolding ways count_pairs through_is over_outcomes_is
dice_tail_mean = worked 187 18 (of_dice (λ ys. above_is 4 5 (omega arith) 9 (sum ys))) (zero-lt-suc _) refl

-- the tail mean 187/18 is of both dice alike
pub shares :
    (partial_sums dice (Share 0 (4 over 5) 9 (7 over 10)) 1 ≡ 187 over 36)
    × (partial_sums dice (Share 1 (4 over 5) 9 (7 over 10)) 1 ≡ 187 over 36)
unfolding ways count_pairs through_is over_outcomes_is
shares = (
  worked 187 36 (of_dice (share_is 0)) (zero-lt-suc _) refl,
  worked 187 36 (of_dice (share_is 1)) (zero-lt-suc _) refl,
)

-- ---- single outcomes: below, at and above 9

-- in the probability below the tail the total 8 counts all, 9 the part 7/10, and 10 nothing
pub parts_of_outcomes :
    (score (Part 9 (7 over 10)) (2 ∷ 6 ∷ []) ≡ whole 1)
    × (score (Part 9 (7 over 10)) (3 ∷ 6 ∷ []) ≡ 7 over 10)
    × (score (Part 9 (7 over 10)) (6 ∷ 4 ∷ []) ≡ whole 0)
parts_of_outcomes = (
  worked 1 1 (part_is (2 ∷ 6 ∷ [])) one_pos refl,
  worked 7 10 (part_is (3 ∷ 6 ∷ [])) (zero-lt-suc _) refl,
  worked 0 1 (part_is (6 ∷ 4 ∷ [])) one_pos refl,
)

-- in a share of the tail nothing below 9; 3/10 * 3 and 3/10 * 6 over 1/5 at 9; 6 and 4 over 1/5 above it; there is no
-- third unit
pub shares_of_outcomes :
    (score (Share 0 (4 over 5) 9 (7 over 10)) (2 ∷ 6 ∷ []) ≡ whole 0)
    × (score (Share 0 (4 over 5) 9 (7 over 10)) (3 ∷ 6 ∷ []) ≡ 9 over 2)
    × (score (Share 1 (4 over 5) 9 (7 over 10)) (3 ∷ 6 ∷ []) ≡ whole 9)
    × (score (Share 0 (4 over 5) 9 (7 over 10)) (6 ∷ 4 ∷ []) ≡ whole 30)
    × (score (Share 1 (4 over 5) 9 (7 over 10)) (6 ∷ 4 ∷ []) ≡ whole 20)
    × (score (Share 2 (4 over 5) 9 (7 over 10)) (6 ∷ 4 ∷ []) ≡ whole 0)
shares_of_outcomes = (
  worked 0 1 (share_is 0 (2 ∷ 6 ∷ [])) one_pos refl,
  worked 9 2 (share_is 0 (3 ∷ 6 ∷ [])) (zero-lt-suc _) refl,
  worked 9 1 (share_is 1 (3 ∷ 6 ∷ [])) one_pos refl,
  worked 30 1 (share_is 0 (6 ∷ 4 ∷ [])) one_pos refl,
  worked 20 1 (share_is 1 (6 ∷ 4 ∷ [])) one_pos refl,
  worked 0 1 (share_is 2 (6 ∷ 4 ∷ [])) one_pos refl,
)
