-- The joint mean of a unit beside independent units, by one of its claims apart from the others: the unit's cells by one
-- claim and what is left of them, summed against the cells of the other units.
use Rattle.dl_shares.proofs.Common.{ℕ, zero, suc, ◌≡◌, ◌∙◌, ◌<◌, ◌≤◌, List, length, refl, ap, sym, subst, arith, Fraction, whole, ◌+ℚ◌, ◌*ℚ◌, ◌≤ℚ◌, sum_pairs, le_refl, times_le_both, times_assoc, times_left_comm, times_zero, sum_pairs_same, Series, AtMost, Holds, Loss, One, Point, Joint, partial_sums, score, sum_to, sum_to_first, sum_to_same, sum_to_times, sum_pairs_le, sum_pairs_sum_to, convolve, cell, at_zero, power, unit_of, without, Rises, times, AreLevel, level_same, same_value, scaled, scaled_rises, rises_times, sum_holds, sum_rises, sum_rises_to, joint_cells, convolve_assoc, convolve_scaled, convolve_times, power_tilt, tilt_at_zero, without_units}
use Rattle.dl_exact.proofs.Laws.{zero_plus, le_trans}
use Rattle.dl_model.specs.Program.{AreDeclarable}
use Rattle.dl_model.proofs.Outcomes.{outcomes_le, outcomes_rise}
use Rattle.dl_shares.proofs.JointBounds.{joint_le_point}
use Rattle.dl_shares.proofs.JointValues.{at_most_whole, where_le}

-- an amount times its probability
abbrev tilt : (ℕ → Fraction) → ℕ → Fraction
tilt f a = whole a *ℚ f a

-- with one claim taken from n + 1 the weights w leave v times the weights left of n
module _ (w left : ℕ → Fraction) (v : Fraction) (next : (n : ℕ) → w (suc n) *ℚ whole (suc n) ≡ v *ℚ left n)
    (f : ℕ → Fraction) where
  -- ---- the cells of the unit

  module _ (y : ℕ) where
    no_claim : whole y *ℚ (w zero *ℚ power f zero y) ≡ whole 0
    unfolding power
    no_claim = times_left_comm (whole y) (w zero) (at_zero y)
        ∙ ap (λ z. w zero *ℚ z) (tilt_at_zero y) ∙ times_zero _

    term_next : (n : ℕ) → whole y *ℚ (w (suc n) *ℚ power f (suc n) y)
        ≡ v *ℚ convolve (tilt f) (λ k. left n *ℚ power f n k) y
    term_next n =
        let c : Fraction = convolve (tilt f) (power f n) y in
        times_left_comm (whole y) (w (suc n)) (power f (suc n) y)
        ∙ ap (λ z. w (suc n) *ℚ z) (power_tilt f n y)
        ∙ sym (times_assoc (w (suc n)) (whole (suc n)) c)
        ∙ ap (λ z. z *ℚ c) (next n) ∙ times_assoc v (left n) c
        ∙ ap (λ z. v *ℚ z) (sym (convolve_times (left n) (tilt f) (power f n) y))

    -- from at most N + 1 claims by one of them and at most N
    cell_next : (N : ℕ) → whole y *ℚ cell w f y (suc N)
        ≡ v *ℚ convolve (tilt f) (λ k. cell left f k N) y
    cell_next N =
        let g : ℕ → ℕ → Fraction = λ n k. left n *ℚ power f n k in
        sym (sum_to_times (suc N) (whole y) (λ n. w n *ℚ power f n y))
        ∙ sum_to_first N (λ n. whole y *ℚ (w n *ℚ power f n y))
        ∙ ap (λ z. z +ℚ sum_to N (λ n. whole y *ℚ (w (suc n) *ℚ power f (suc n) y))) no_claim ∙ zero_plus _
        ∙ sum_to_same N _ _ (λ n d. term_next n)
        ∙ sum_to_times N v (λ n. convolve (tilt f) (g n) y)
        ∙ ap (λ z. v *ℚ z) (sym (sum_pairs_sum_to y N (λ a k n. tilt f a *ℚ g n k))
        ∙ sum_pairs_same y _ _ (λ a k e. sum_to_times N (tilt f a) (λ n. g n k)))

  -- ---- against the others

  module _ (us : List Loss) (units : AreDeclarable us) (i : ℕ) (there : i < length us)
      (unit : (y N : ℕ) → (unit_of us i).cells y N ≡ cell w f y N) (x : ℕ) where
    abbrev others : ℕ → Series
    others z = partial_sums (without us i) (Point z)

    others_rise : (z : ℕ) → Rises (others z)
    others_rise z = outcomes_rise (without us i) (without_units us i units) (score (Point z))

    left_rises : (y : ℕ) → Rises (cell left f y)
    left_rises y = sum_rises_to (λ n. left n *ℚ power f n y)

    abbrev joint : Series
    joint = partial_sums us (Joint i x)

    -- the total from at most N claims that are left to the unit and at most M of each other
    abbrev both : ℕ → ℕ → ℕ → Fraction
    both N M = convolve (λ y. cell left f y N) (λ z. others z M)

    -- v * sum of a * f a * g k over all a + k = x
    abbrev beside : (ℕ → Fraction) → Fraction
    beside g = v *ℚ sum_pairs x (λ a k. tilt f a *ℚ g k)

    joint_next : (N : ℕ) → joint (suc N) ≡ beside (both N (suc N))
    joint_next N =
        let own : ℕ → Fraction = λ k. cell left f k N in
        let rest : ℕ → Fraction = λ z. others z (suc N) in
        joint_cells us units i x (suc N) there
        ∙ sum_pairs_same x _ _ (λ y z e. ap (λ c. c *ℚ rest z)
        (ap (λ c. whole y *ℚ c) (unit y (suc N)) ∙ cell_next y N))
        ∙ convolve_scaled v (convolve (tilt f) own) rest x
        ∙ ap (λ g. v *ℚ g x) (convolve_assoc (tilt f) own rest)

    beside_le : (g h : ℕ → Fraction) → ((k : ℕ) → g k ≤ℚ h k) → beside g ≤ℚ beside h
    beside_le g h le = times_le_both v v _ _ (le_refl v)
        (sum_pairs_le x _ _ (λ a k e. times_le_both _ _ _ _ (le_refl (tilt f a)) (le k)))

    -- the total of the claims that are left and of the others
    abbrev pub rest_cell : ℕ → Series
    rest_cell k N = both N N k

    abbrev later : Series
    later N = beside (λ k. rest_cell k N)

    later_le : (N : ℕ) → later N ≤ℚ joint (suc N)
    later_le N = subst (λ z. later N ≤ℚ z) (sym (joint_next N))
        (beside_le (both N N) (both N (suc N)) (λ k. sum_pairs_le k _ _
        (λ y z e. times_le_both _ _ _ _ (le_refl _) (others_rise z N))))

    joint_le : (N : ℕ) → joint (suc N) ≤ℚ later (suc N)
    joint_le N = subst (λ z. z ≤ℚ later (suc N)) (sym (joint_next N))
        (beside_le (both N (suc N)) (both (suc N) (suc N)) (λ k. sum_pairs_le k _ _
        (λ y z e. times_le_both _ _ _ _ (left_rises y N) (le_refl _))))

    level : AreLevel joint later
    level = (
      λ N. (suc N, le_trans _ _ _ (outcomes_rise us units (score (Joint i x)) N) (joint_le N)),
      λ N. (suc N, later_le N),
    )

    rest_rises : (k : ℕ) → Rises (rest_cell k)
    rest_rises k = sum_rises k (λ y z. times (cell left f y) (others z))
        (λ y z e. rises_times _ _ (left_rises y) (others_rise z))

    pub beside_holds : (all : Series) (lo hi : ℕ → Fraction)
        → ((k : ℕ) → k ≤ x → Holds (rest_cell k) all (lo k) (hi k)) → Holds joint all (beside lo) (beside hi)
    beside_holds all lo hi cells =
        let same = same_value joint all later all level (level_same all all (λ N. refl)) in
        let told = scaled v (λ N. sum_pairs x (λ a k. tilt f a *ℚ rest_cell k N)) all _ _
        (sum_holds x (λ a k N. tilt f a *ℚ rest_cell k N) all (λ a k. tilt f a *ℚ lo k) (λ a k. tilt f a *ℚ hi k)
        (λ a k e. scaled_rises (tilt f a) (rest_cell k) (rest_rises k))
        (λ a k e. scaled (tilt f a) (rest_cell k) all (lo k) (hi k) (cells k (omega arith)))) in
        ((same.0 _).1 told.0, (same.1 _).1 told.1)

module _ (us : List Loss) (i x : ℕ) where
  pub outcome_most : AtMost (partial_sums us (Joint i x)) (partial_sums us One) (whole x)
  outcome_most = at_most_whole _ (partial_sums us (Point x)) _ x (joint_le_point us i x)
      (outcomes_le us (score (Point x)) (score One) (λ ys. where_le _))
