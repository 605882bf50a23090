-- A start whose cells are not inside its numbers encloses the part of its unit.
use Rattle.dl_cert.proofs.Common.{ℕ, zero, suc, ◌≡◌, ◌⊎◌, ◌*◌, ◌<◌, ◌≤◌, ◌^◌, inl, inr, refl, sym, subst, subst₂, arith, mul-le-mul_right, cases_lt, Fraction, whole, ◌*ℚ◌, ◌≤ℚ◌, ◌over◌, sum_to, one_pos, le_refl, le_trans, times_le_both, one_times, over_self, over_le, floor_div, ceiling_div, IsFloor, IsCeiling, whole_le, cell, IsPanjer, compound, Encloses, AtMost, AtLeast, IsBound, IsWithinOne, at_most_wider, cell_at_most_one, compound_proper, finite_holds, FollowsOutward, floor_of, ceiling_of, low_recursion, high_recursion, from_before, base_encloses, units_below, units_above}

-- ---- a fraction rounded

pub floor_is : (x : Fraction) → IsFloor x (floor_of x)
floor_is x = rw (over_self x) at (floor_div x.num x.den x.positive)

pub ceiling_is : (x : Fraction) → IsCeiling x (ceiling_of x)
ceiling_is x = rw (over_self x) at (ceiling_div x.num x.den x.positive)

module _ (S : ℕ) (pos : 0 < S) where
  pub from_floor : (n : ℕ) (x : Fraction) → n ≤ floor_of (whole S *ℚ x) → n over S ≤ℚ x
  from_floor n x h = units_below S pos n x (le_trans _ _ _ (whole_le _ _ h) (floor_is (whole S *ℚ x)).below)

  pub from_ceiling : (n : ℕ) (x : Fraction) → ceiling_of (whole S *ℚ x) ≤ n → x ≤ℚ n over S
  from_ceiling n x h = units_above S pos n x (le_trans _ _ _ (ceiling_is (whole S *ℚ x)).above (whole_le _ _ h))

  one_within : (n : ℕ) → S ≤ n → whole 1 ≤ℚ n over S
  one_within n h = over_le 1 1 n S one_pos pos (omega arith)

  -- ---- one claim or one trial

  pub finite_start : (w f : ℕ → Fraction) (K : ℕ) (lo hi : ℕ → ℕ) → IsWithinOne f → sum_to 1 w ≡ whole 1
      → ((n : ℕ) → 1 < n → w n ≡ whole 0)
      → ((y : ℕ) → y < K → lo y ≤ floor_of (whole S *ℚ cell w f y 1))
      → ((y : ℕ) → y < K → (ceiling_of (whole S *ℚ cell w f y 1) ≤ hi y) ⊎ (S ≤ hi y))
      → Encloses S K lo hi (compound w f)
  finite_start w f K lo hi within all none low high y inside =
      let exact = finite_holds w f 1 all none y in (
        (exact (lo y over S) (cell w f y 1) (from_floor (lo y) (cell w f y 1) (low y inside)) (le_refl _)).0,
        elim (high y inside) [
          | inl near ↦ (exact (cell w f y 1) (hi y over S) (le_refl _)
              (from_ceiling (hi y) (cell w f y 1) near)).1
          | inr far ↦ at_most_wider (cell w f y) (λ N. sum_to N w) (whole 1) (hi y over S)
              (cell_at_most_one (compound w f) (compound_proper w f within) y) (one_within (hi y) far)
        ],
      )

  -- ---- a recursion

  module _ (a b : Fraction) (f : ℕ → Fraction) (factor : ℕ → Fraction) (sum : (ℕ → ℕ) → ℕ → Fraction)
      (same : (g : ℕ → ℕ) (s : ℕ) → from_before a b f (λ k. whole (g k)) s ≡ factor s *ℚ sum g s) where
    follows : (K l h : ℕ) (lo hi : ℕ → ℕ)
        → ((y : ℕ) → y < K → lo y ≤ low_recursion l factor (sum lo) y)
        → ((y : ℕ) → y < K → (high_recursion h factor (sum hi) y ≤ hi y) ⊎ (S ≤ hi y)) → S ≡ 2 ^ 56
        → FollowsOutward S K a b f lo hi
    follows K l h lo hi low high scale = record {
      low = λ s inside. subst (λ t. whole (lo (suc s)) ≤ℚ t) (sym (same lo s))
          (le_trans _ _ _ (whole_le _ _ (low (suc s) inside))
          (le_trans _ _ _ (floor_is (factor s *ℚ whole (floor_of (sum lo s)))).below
          (times_le_both _ _ _ _ (le_refl (factor s)) (floor_is (sum lo s)).below)));
      high = λ s inside. elim (high (suc s) inside) [
        | inr far ↦ inr far
        | inl near ↦
            let c : ℕ = ceiling_of (factor s *ℚ whole (ceiling_of (sum hi s))) in
            elim (cases_lt (2 ^ 56) c) [
              | inl past ↦ inr (omega (arith, near, past, scale))
              | inr within ↦ inl (subst (λ t. t ≤ℚ whole (hi (suc s))) (sym (same hi s))
                  (le_trans _ _ _ (times_le_both _ _ _ _ (le_refl (factor s)) (ceiling_is (sum hi s)).above)
                  (le_trans _ _ _ (ceiling_is (factor s *ℚ whole (ceiling_of (sum hi s)))).above
                  (whole_le _ _ (omega (arith, near, within))))))
            ]
      ];
    }

    -- a recursion over amounts above 0 encloses the compound sum where cell 0 holds the reciprocal of the weights' sum
    pub recursion_start : (w : ℕ → Fraction) (K l h : ℕ) (lo hi : ℕ → ℕ) → f zero ≡ whole 0 → IsPanjer a b w
        → IsWithinOne f
        → ((y : ℕ) → y < K → lo y ≤ low_recursion l factor (sum lo) y)
        → ((y : ℕ) → y < K → (high_recursion h factor (sum hi) y ≤ hi y) ⊎ (S ≤ hi y)) → S ≡ 2 ^ 56 → 0 < K
        → AtLeast (λ N. whole 1) (λ N. sum_to N w) (l over S)
        → AtMost (λ N. whole 1) (λ N. sum_to N w) (h over S)
        → Encloses S K lo hi (compound w f)
    unfolding sum_to
    recursion_start w K l h lo hi none P within low high scale some low_holds high_holds =
        base_encloses S K a b f lo hi (follows K l h lo hi low high scale) w none P pos within
        (elim (high zero some) [
          | inl near ↦ at_most_wider (λ N. whole 1) (λ N. sum_to N w) (h over S) (hi zero over S) high_holds
              (over_le _ _ _ _ pos pos (omega (arith, near_times near)))
          | inr far ↦ λ N u bound. le_trans _ _ _ (subst₂ (λ s t. s ≤ℚ t) P.start refl (first u bound))
              (subst (λ t. t ≤ℚ hi zero over S *ℚ u) (one_times u)
              (times_le_both _ _ _ _ (one_within (hi zero) far) (le_refl u)))
        ])
        (λ N u bound. le_trans _ _ _ (times_le_both _ _ _ _
        (over_le _ _ _ _ pos pos (omega (arith, low_times (low zero some)))) (le_refl (sum_to N w)))
        (low_holds N u bound))
      where
        near_times : h ≤ hi zero → h * S ≤ hi zero * S
        near_times near = mul-le-mul_right S near

        low_times : lo zero ≤ l → lo zero * S ≤ l * S
        low_times below = mul-le-mul_right S below

        first : (u : Fraction) → IsBound (λ N. sum_to N w) u → w zero ≤ℚ u
        first u bound = bound zero
