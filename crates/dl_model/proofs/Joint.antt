-- The joint mean by the outcomes of one unit and of the others.
use Rattle.dl_model.proofs.Common.{◌≡◌, ℕ, suc, zero, ◌<◌, nat_eq, arith, sym, ap, ◌∙◌, List, [], ◌∷◌, length, sum, get_or, ◌*ℚ◌, whole, sum_pairs, ring, times_one, sum_pairs_same, Loss, AreDeclarable, Point, Joint, where_true, score, sum_over_outcomes, partial_sums, unit_of, without}
use Rattle.dl_model.proofs.TotalLaws.{convolve_first, times_where, outcomes_same, outcomes_times, first_unit, total_more}

pub joint_cells : (us : List Loss) → AreDeclarable us → (i x N : ℕ) → i < length us → partial_sums us (Joint i x) N
    ≡ sum_pairs x (λ y z. whole y *ℚ (unit_of us i).cells y N *ℚ partial_sums (without us i) (Point z) N)
unfolding sum_over_outcomes
joint_cells [] h i x N b = absurd (omega arith)
joint_cells (u ∷ us) h zero x N b =
    first_unit u us h.0 (λ y ys. whole y) x N
    ∙ sum_pairs_same x _ _ (λ y z e. ap (λ t. u.family.cells y N *ℚ t)
    (outcomes_same us _ _ N (λ ys. sym (times_where (nat_eq (sum ys) z) (whole y) (whole 1)
    ∙ ap (where_true (nat_eq (sum ys) z)) (times_one (whole y))))
    ∙ outcomes_times us (whole y) (score (Point z)) N) ∙ simp ring)
joint_cells (u ∷ us) h (suc i) x N b = first_unit u us h.0 (λ y ys. whole (get_or ys i 0)) x N
    ∙ sum_pairs_same x _ _ (λ y z e. ap (λ t. u.family.cells y N *ℚ t) (joint_cells us h.1 i z N (omega arith)))
    ∙ convolve_first (λ a. whole a *ℚ (unit_of us i).cells a N)
    (λ y. u.family.cells y N) (λ b. partial_sums (without us i) (Point b) N) x
    ∙ sum_pairs_same x _ _ (λ a c e. ap (λ t. whole a *ℚ (unit_of us i).cells a N *ℚ t)
    (sym (total_more u (without us i) h.0 c N)))
