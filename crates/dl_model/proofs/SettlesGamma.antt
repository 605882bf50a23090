-- Sums of gamma weights settle.
use Rattle.dl_model.proofs.Common.{◌-ℚ◌, plus_comm, sub_plus, one_pos, lt_of_lt_of_le, times_assoc, ◌≡◌, ℕ, suc, zero, max, arith, refl, sym, ap, subst, subst₂, ◌∙◌, zero-lt-suc, fun_ext, le-max_left, le-max_right, Fraction, ◌+ℚ◌, ◌*ℚ◌, ◌/ℚ◌, ◌≤ℚ◌, ◌<ℚ◌, whole, sum_to, Series, Rises, times, Settles, gamma, ring, times_comm, plus_times, plus_assoc, times_plus, one_times, times_one, whole_suc, whole_plus, whole_pos, le_refl, le_trans, le_of_eq, le_of_lt, le_plus, plus_le_both, plus_le_cancel, times_le_cancel, times_le_times, times_pos, archimedes, div_times, div_pos, times_le_both, sum_to_same, times_reverse, times_swap, whole_le, order}
use Rattle.dl_model.proofs.TotalLaws.{rises_to, sum_rises_to, AreLevel, cauchy_level, geometric_next, geometric_identity, geometric_low, gamma_one_more, gamma_zero}
use Rattle.dl_model.proofs.AnyShape.{shape_above, shapes_level}

-- half of a fraction
half_of : (q : Fraction) → q /ℚ whole 2 +ℚ q /ℚ whole 2 ≡ q
half_of q =
    let x = q /ℚ whole 2 in
    (simp ring) ∙ ap (λ t. x *ℚ t) (sym (whole_plus 1 1)) ∙ div_times q (whole 2) (whole_pos 2 (omega arith))

settles_from : (Q R : Series) → AreLevel Q R → Settles Q → Settles R
settles_from Q R a s p q one qp =
    let k = s p q one qp in (
      (a.0 k.0).0,
      λ n. grw (order, (a.1 n).1) (le_trans _ _ _ (k.1 (a.1 n).0) (a.0 k.0).1),
    )

-- a factor of what settles
settles_factor : (Q R : Series) → Rises Q → Rises R → whole 0 <ℚ R zero → Settles (times Q R) → Settles Q
settles_factor Q R q r pos s p e one ep =
    let k = s p e one ep in
    let L = k.0 in (
      L,
      λ n.
          let m = max n L in
          times_le_cancel _ _ (R L) (lt_of_lt_of_le _ _ _ pos (rises_to R r zero L (omega arith)))
          (le_trans _ _ _ (rw times_assoc (times_le_both _ _ _ _ (le_refl p) (times_le_both _ _ _ _
          (rises_to Q q n m (le-max_left n L)) (rises_to R r L m (le-max_right n L))))) (k.1 m)),
    )

pub settles_times : (Q R : Series) → Rises Q → Rises R → Settles Q → Settles R → Settles (times Q R)
settles_times Q R q r s t p e one ep =
    let h = e /ℚ whole 2 in
    let hp : whole 0 <ℚ h = div_pos e (whole 2) ep (whole_pos 2 (omega arith)) in
    let c = p +ℚ h in
    let c_one : c +ℚ h ≡ whole 1 = plus_assoc p h h ∙ ap (λ x. p +ℚ x) (half_of e) ∙ one in
    let c_le : c ≤ℚ whole 1 = rw (← c_one) (le_plus c h) in
    let square : p ≤ℚ c *ℚ c = square_above p h c refl c_one c_le in
    let i = (s c h c_one hp).0 in
    let j = (t c h c_one hp).0 in
    let m = max i j in (
      m,
      λ n. grw (order, square) (subst (λ x. x ≤ℚ Q m *ℚ R m) (simp ring) (times_le_both _ _ _ _
          (le_trans _ _ _ ((s c h c_one hp).1 n) (rises_to Q q i m (le-max_left i j)))
          (le_trans _ _ _ ((t c h c_one hp).1 n) (rises_to R r j m (le-max_right i j))))),
    )
  where
    square_above : (p h c : Fraction) → p +ℚ h ≡ c → c +ℚ h ≡ whole 1 → c ≤ℚ whole 1 → p ≤ℚ c *ℚ c
    square_above p h c e one l =
        plus_le_cancel p (c *ℚ c) h
        (subst₂ (λ s t. s ≤ℚ t) (sym (times_plus c c h) ∙ ap (λ x. c *ℚ x) one ∙ times_one c ∙ sym e) refl
        (plus_le_both _ _ _ _ (le_refl (c *ℚ c)) (subst (λ t. c *ℚ h ≤ℚ t) (one_times h) (times_le_times _ _ h l))))

module _ (x d : Fraction) (one : x +ℚ d ≡ whole 1) (dp : whole 0 <ℚ d) where
  abbrev pub S : Series
  S N = sum_to N (gamma (whole 1) x)

  x_le : x ≤ℚ whole 1
  x_le = rw (← one) (le_plus x d)

  -- the sum holds n + 1 items that are at least the last
  many : (N : ℕ) → whole (suc N) *ℚ gamma (whole 1) x N ≤ℚ S N
  unfolding sum_to
  many zero = le_of_eq _ _ (one_times _)
  many (suc N) =
      let g = gamma (whole 1) x (suc N) in
      let falls : g ≤ℚ gamma (whole 1) x N =
      rw (geometric_next x N) (rw one_times at (times_le_times _ _ (gamma (whole 1) x N) x_le)) in
      rw (whole_suc (suc N), plus_times, one_times g) (plus_le_both _ _ _ _ (grw (order, falls) (many N)) (le_refl g))

  pub geometric_settles : Settles S
  geometric_settles p q e qp =
      let a = archimedes (whole 1) (d *ℚ q) (times_pos d q dp qp) in
      let K = a.0 in
      let g = gamma (whole 1) x (suc K) in
      let k = whole (suc K) in
      let small : gamma (whole 1) x K ≤ℚ q =
      times_le_cancel _ _ (k *ℚ d) (times_pos k d (whole_pos (suc K) (zero-lt-suc K)) dp)
      (subst₂ (λ s t. s ≤ℚ t) (times_reverse d k (gamma (whole 1) x K)) (simp ring) (grw (order, many K)
      (le_trans _ _ _ (geometric_low x d one K) (le_trans _ _ _ (le_of_lt _ _ a.1)
      (times_le_times _ _ (d *ℚ q) (whole_le K (suc K) (omega arith))))))) in
      let next : g ≤ℚ q = rw (geometric_next x K) (grw (order, x_le) (rw one_times small)) in
      let p_le : p ≤ℚ d *ℚ S K = plus_le_cancel _ _ q
      (subst (λ t. t ≤ℚ d *ℚ S K +ℚ q) (geometric_identity x d one K ∙ sym e)
      (plus_le_both _ _ _ _ (le_refl (d *ℚ S K)) next)) in (
        K,
        λ n. times_le_cancel _ _ d dp
            (subst₂ (λ s t. s ≤ℚ t) (times_swap p d (S n)) (times_one _ ∙ times_comm d (S K))
            (times_le_both _ _ _ _ p_le (geometric_low x d one n))),
      )

  whole_settles : (s : ℕ) → Settles (λ N. sum_to N (gamma (whole (suc s)) x))
  whole_settles zero = geometric_settles
  whole_settles (suc s) =
      subst Settles (fun_ext (λ N. sum_to_same N _ _ (λ n b. sym (gamma_one_more s x n))))
      (settles_from _ _ (
        (cauchy_level (gamma (whole 1) x) (gamma (whole (suc s)) x)).1,
        (cauchy_level (gamma (whole 1) x) (gamma (whole (suc s)) x)).0,
      )
      (settles_times _ _ (sum_rises_to (gamma (whole 1) x)) (sum_rises_to (gamma (whole (suc s)) x)) geometric_settles
      (whole_settles s)))

  -- any shape, as what is missing to a whole one makes that one with it
  pub gamma_settles : (r : Fraction) → Settles (λ N. sum_to N (gamma r x))
  unfolding sum_to
  gamma_settles r =
      let a = shape_above r in
      let R = whole (suc a.0) in
      let t = R -ℚ r in
      let whole_is : r +ℚ t ≡ R = plus_comm r t ∙ sub_plus R r a.1 in
      let l = shapes_level r t x in
      settles_factor _ _ (sum_rises_to (gamma r x)) (sum_rises_to (gamma t x))
      (rw (gamma_zero t x) (whole_pos 1 one_pos))
      (settles_from _ _ l (rw whole_is (whole_settles a.0)))
