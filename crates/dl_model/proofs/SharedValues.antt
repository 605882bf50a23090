-- Declared joint means under a common factor, from the cells of the pooled unit with one more in the shape.
use Rattle.dl_model.proofs.Common.{◌≡◌, ℕ, suc, ◌<◌, ◌≤◌, arith, sym, ap, subst, subst₂, times_assoc, ◌∙◌, List, fun_ext, Fraction, ◌+ℚ◌, ◌*ℚ◌, ◌/ℚ◌, ◌<ℚ◌, whole, sum_to, sum_pairs, ring, div_times, Holds, Series, cell, gamma, gamma_of, One, Outcome, Joint, zero, times_one, PoissonUnit, expected_claims, common_sums, pooled_severity, AreSeverities, IsUnit, refl, times_comm, raised}
use Rattle.dl_model.proofs.TotalLaws.{self_holds, same_value, level_same, over_factor, scaled, scaled_rises, sum_holds, sum_rises_to, one_least, pos_plus, shape_times, share_of, div_is_times}
use Rattle.dl_model.proofs.AnyShape.{shapes_level}
use Rattle.dl_model.proofs.Pooled.{pooled_one}
use Rattle.dl_model.proofs.SharedJoint.{joint_none, joint_next, outcome_none, outcome_next}
use Rattle.dl_model.proofs.CountMeans.{shifted}

-- ---- the raised mean keeps the part v / (r + v)

module _ (r : Fraction) (above : whole 0 <ℚ r) (v : Fraction) where
  raised_part : raised r v /ℚ (r +ℚ whole 1 +ℚ raised r v) ≡ v /ℚ (r +ℚ v)
  raised_part =
      let u = v /ℚ r in
      let up : (r +ℚ whole 1) *ℚ u ≡ raised r v =
      rw (div_is_times v r above, div_is_times (v *ℚ (r +ℚ whole 1)) r above) (simp ring) in
      sym (share_of (r +ℚ whole 1) u (raised r v) (pos_plus r (whole 1) above) up)
      ∙ share_of r u v above (times_comm r u ∙ div_times v r above)

  pub raised_weights : (n : ℕ) → gamma_of (r +ℚ whole 1) (raised r v) n ≡ gamma (r +ℚ whole 1) (v /ℚ (r +ℚ v)) n
  raised_weights n = ap (λ x. gamma (r +ℚ whole 1) x n) raised_part

-- ---- the values

module _ (r : Fraction) (above : whole 0 <ℚ r) (us : List PoissonUnit) (some : whole 0 <ℚ expected_claims us) (h : AreSeverities us) (M : ℕ)
    (past : (a : ℕ) → M < a → pooled_severity us a ≡ whole 0) (i : ℕ) (u : PoissonUnit) (at : IsUnit us i u) where
  abbrev v : Fraction
  v = expected_claims us

  abbrev c : Fraction
  c = v /ℚ (r +ℚ v)

  abbrev f : ℕ → Fraction
  f = pooled_severity us

  -- the whole weights of both shapes
  abbrev all : Series
  all N = sum_to N (gamma r c)

  abbrev all_more : Series
  all_more N = sum_to N (gamma (r +ℚ whole 1) c)

  -- the amounts of one claim of the unit, tilted
  abbrev t : ℕ → Fraction
  t a = whole a *ℚ u.severity a

  abbrev factor : Fraction
  factor = r *ℚ (u.mean /ℚ (r +ℚ v))

  -- what begins with 0 and goes on as the factor times some terms of one shape more
  from_terms : (Q terms : Series) (lo hi : Fraction) → Q zero ≡ whole 0 → ((N : ℕ) → Q (suc N) ≡ factor *ℚ terms N)
      → Holds terms all_more lo hi → Holds Q (common_sums r us One) (u.mean *ℚ lo) (u.mean *ℚ hi)
  from_terms Q terms lo hi none next held =
      let later : Series = λ N. factor *ℚ terms N in
      let one_more : (e : Fraction) → (r +ℚ v) /ℚ r *ℚ (factor *ℚ e) ≡ u.mean *ℚ e =
      λ e. sym (times_assoc _ _ _) ∙ ap (λ m. m *ℚ e) (shape_times r v above u.mean) in
      let later_holds : Holds later all (u.mean *ℚ lo) (u.mean *ℚ hi) =
      subst₂ (λ l h. Holds later all l h) (one_more lo) (one_more hi)
      (over_factor later all (λ N. sum_to N (gamma (whole 1) c)) all_more ((r +ℚ v) /ℚ r) _ _
      (sum_rises_to (gamma r c)) (sum_rises_to (gamma (whole 1) c)) (one_least r v above)
      (shapes_level r (whole 1) c) (scaled factor terms all_more lo hi held)) in
      let level = same_value Q all later all (shifted Q later none next) (level_same all all (λ N. refl)) in
      subst (λ R. Holds Q R (u.mean *ℚ lo) (u.mean *ℚ hi))
      (sym (fun_ext (pooled_one r us h some M past))) ((level.0 _).1 later_holds.0, (level.1 _).1 later_holds.1)

  -- the unit's outcome, whatever the total is
  pub outcome_holds : Holds (common_sums r us (Outcome i)) (common_sums r us One)
      (u.mean *ℚ sum_to M t) (u.mean *ℚ sum_to M t)
  outcome_holds = subst (λ m. Holds (common_sums r us (Outcome i)) (common_sums r us One) m m)
      (ap (λ m. u.mean *ℚ m) (times_one (sum_to M t)))
      (from_terms _ (λ N. sum_to M t *ℚ all_more N) _ _ (outcome_none r us some h M past i u at)
      (outcome_next r us some h M past i u at) (scaled (sum_to M t) all_more all_more _ _ (self_holds all_more)))

  module _ (x : ℕ) (lo hi : ℕ → Fraction) where
    -- the cells of one shape more
    abbrev part : ℕ → Series
    part k = cell (gamma (r +ℚ whole 1) c) f k

    abbrev terms : Series
    terms N = sum_pairs x (λ a k. t a *ℚ part k N)

    abbrev ends : (ℕ → Fraction) → Fraction
    ends e = sum_pairs x (λ a k. t a *ℚ e k)

    terms_hold : ((k : ℕ) → k ≤ x → Holds (part k) all_more (lo k) (hi k)) → Holds terms all_more (ends lo) (ends hi)
    terms_hold cells = sum_holds x (λ a k N. t a *ℚ part k N) all_more (λ a k. t a *ℚ lo k)
        (λ a k. t a *ℚ hi k) (λ a k e. scaled_rises (t a) (part k) (sum_rises_to _))
        (λ a k e. scaled (t a) (part k) all_more (lo k) (hi k) (cells k (omega arith)))

    pub joint_holds : ((k : ℕ) → k ≤ x → Holds (part k) all_more (lo k) (hi k))
        → Holds (common_sums r us (Joint i x)) (common_sums r us One)
        (u.mean *ℚ ends lo) (u.mean *ℚ ends hi)
    joint_holds cells = from_terms _ terms _ _ (joint_none r us some h M past i u at x)
        (joint_next r us some h M past i u at x) (terms_hold cells)

-- with the raised mean
pub joint_raised : (r : Fraction) → whole 0 <ℚ r → (us : List PoissonUnit) → whole 0 <ℚ expected_claims us → AreSeverities us → (M : ℕ)
    → ((a : ℕ) → M < a → pooled_severity us a ≡ whole 0) → (i : ℕ) (u : PoissonUnit) → IsUnit us i u → (x : ℕ)
    → (lo hi : ℕ → Fraction)
    → ((k : ℕ) → k ≤ x → Holds
    (cell (gamma_of (r +ℚ whole 1) (raised r (expected_claims us))) (pooled_severity us) k)
    (λ N. sum_to N (gamma_of (r +ℚ whole 1) (raised r (expected_claims us)))) (lo k) (hi k))
    → Holds (common_sums r us (Joint i x)) (common_sums r us One)
    (u.mean *ℚ sum_pairs x (λ a k. whole a *ℚ u.severity a *ℚ lo k))
    (u.mean *ℚ sum_pairs x (λ a k. whole a *ℚ u.severity a *ℚ hi k))
joint_raised r above us some h M past i u at x lo hi cells = joint_holds r above us some h M past i u at x lo hi
    (λ k b. subst (λ w. Holds (cell w (pooled_severity us) k) (λ N. sum_to N w) (lo k) (hi k))
    (fun_ext (raised_weights r above (expected_claims us))) (cells k b))
