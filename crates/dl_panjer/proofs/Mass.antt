-- The low ends of a grid that follows the recursion add up to at most 1.
use Rattle.dl_panjer.proofs.Common.{ℕ, zero, suc, ◌≡◌, ◌<◌, ◌≤◌, arith, ap, ◌∙◌, Fraction, ◌over◌, ◌+ℚ◌, ◌*ℚ◌, ◌≤ℚ◌, whole, sum_to, one_times, le_refl, le_trans, le_of_eq, times_le_times, over_times_whole, times_le_both, le_whole, count_below, AtLeast, cell, IsPanjer, IsWithinOne, FollowsOutward, compound_proper, recursion_there, whole_plus, sum_to_le, sum_to_times, times_right_comm, rises_to}
use Rattle.dl_panjer.proofs.Base.{low_below}

whole_sum : (n : ℕ) (f : ℕ → ℕ) → whole (count_below (suc n) f) ≡ sum_to n (λ s. whole (f s))
unfolding count_below sum_to
whole_sum zero f = ap whole (omega arith)
whole_sum (suc n) f = whole_plus (count_below (suc n) f) (f (suc n)) ∙ ap (λ t. t +ℚ whole (f (suc n))) (whole_sum n f)

pub low_mass : (S n : ℕ) (a b : Fraction) (f w : ℕ → Fraction) (lo hi : ℕ → ℕ) → FollowsOutward S (suc n) a b f lo hi
    → f 0 ≡ whole 0 → IsPanjer a b w → 0 < S
    → IsWithinOne f → AtLeast (λ N. whole 1) (λ N. sum_to N w) (lo 0 over S) → count_below (suc n) lo ≤ S
low_mass S n a b f w lo hi F z P pos severity start =
    let proper = compound_proper w f severity in
    let below : sum_to n (λ s. whole (lo s)) ≤ℚ sum_to n (λ s. whole (lo 0) *ℚ cell w f s n) =
    sum_to_le n _ _ (λ s near. le_trans _ _ _
    (low_below S (suc n) a b f lo hi F (λ s. cell w f s s) (recursion_there f w a b z P) s (omega (arith, near)))
    (times_le_both _ _ _ _ (le_refl (whole (lo 0))) (rises_to (cell w f s) (proper.cells_rise s) s n near))) in
    let all : sum_to n (λ s. whole (lo 0) *ℚ cell w f s n) ≤ℚ whole (lo 0) *ℚ sum_to n w =
    le_trans _ _ _ (le_of_eq _ _ (sum_to_times n (whole (lo 0)) (λ s. cell w f s n)))
    (times_le_both _ _ _ _ (le_refl (whole (lo 0))) (proper.within n n)) in
    let one : lo 0 over S *ℚ sum_to n w ≤ℚ whole 1 = start n (whole 1) (λ m. le_refl _) in
    let units = rw (times_right_comm (lo 0 over S), over_times_whole (lo 0) S pos, one_times) at
    (times_le_times _ _ (whole S) one) in
    le_whole _ S (le_trans _ _ _ (le_of_eq _ _ (whole_sum n lo)) (le_trans _ _ _ below (le_trans _ _ _ all units)))
