-- The placed cells enclose the compound sum.
use Rattle.dl_recursion.proofs.Common.{◌≡◌, inl, inr, ℕ, suc, zero, ◌+◌, ◌*◌, ◌^◌, ◌<◌, ◌≤◌, List, arith, sym, ap, ap₂, ◌∙◌, pow-add, Fraction, ◌over◌, ◌+ℚ◌, ◌*ℚ◌, ◌≤ℚ◌, ◌<ℚ◌, whole, sum_to, cell, over_same, ring, one_pos, times_one, one_times, le_refl, le_trans, times_le_times, times_le_cancel, whole_pos, whole_times, whole_plus, over_times_whole, times_le_both, Part, IsPanjer, HoldsNoClaim, part_at, FollowsInWhole, EncloseScaled, HasGridEnds, IsScaled, whole_le, max, AtMost, AtLeast, times_pos, sum_pairs_same, sum_pairs_times, times_right_comm, times_second, le-max_left, le-max_right}
use Rattle.dl_model.specs.Prelude.{compound, Encloses, Recursion, IsWithinOne}
use Rattle.dl_start.specs.declared.scaled.Scaled.{Scaled}
use Rattle.dl_model.proofs.Declared.{rises_to}
use Rattle.dl_model.proofs.FamilyLaws.{cell_at_most_one, compound_proper}
use Rattle.dl_model.proofs.CompoundLaws.{cell_stays}
use Rattle.dl_model.proofs.Panjer.{recursion_there, recursion_next}
use Rattle.dl_start.proofs.Products.{two_pos}

-- ---- the numbers of one cell

module _ (T P S X : ℕ) (T_pos : 0 < T) (P_pos : 0 < P) (S_pos : 0 < S) (r : Fraction) where
  -- a common factor for both sides
  Z : Fraction
  Z = whole S *ℚ whole P *ℚ whole T

  Z_pos : whole 0 <ℚ Z
  unfolding Z
  Z_pos = times_pos _ _ (times_pos _ _ (whole_pos S S_pos) (whole_pos P P_pos)) (whole_pos T T_pos)

  out_side : (o : ℕ) → o over S *ℚ Z ≡ whole (o * (T * P))
  unfolding Z
  out_side o =
      turn (o over S) (whole S) (whole P) (whole T)
      ∙ ap (λ t. t *ℚ (whole T *ℚ whole P)) (over_times_whole o S S_pos)
      ∙ ap (λ t. whole o *ℚ t) (sym (whole_times T P)) ∙ sym (whole_times o (T * P))
    where
      turn : (x s p t : Fraction) → x *ℚ (s *ℚ p *ℚ t) ≡ x *ℚ s *ℚ (t *ℚ p)
      turn x s p t = simp ring

  in_side : (a : ℕ) → a over P *ℚ r *ℚ Z ≡ whole T *ℚ r *ℚ whole (a * S)
  unfolding Z
  in_side a =
      turn (a over P) r (whole S) (whole P) (whole T)
      ∙ ap (λ t. whole T *ℚ r *ℚ (t *ℚ whole S)) (over_times_whole a P P_pos)
      ∙ ap (λ t. whole T *ℚ r *ℚ t) (sym (whole_times a S))
    where
      turn : (x r s p t : Fraction) → x *ℚ r *ℚ (s *ℚ p *ℚ t) ≡ t *ℚ r *ℚ (x *ℚ p *ℚ s)
      turn x r s p t = simp ring

  mid : (l a : ℕ) → whole (l * X) *ℚ whole (a * S) ≡ whole (l * a * (X * S))
  mid l a = grind (arith, whole_times (l * X) (a * S))

  pub low_number : (o l a : ℕ) → o * (T * P) ≤ l * a * (X * S) → whole (l * X) ≤ℚ whole T *ℚ r
      → o over S ≤ℚ a over P *ℚ r
  low_number o l a p h =
      times_le_cancel _ _ Z Z_pos
      (rw (out_side o, in_side a) (le_trans _ _ _ (whole_le _ _ p)
      (rw (← mid l a) (times_le_times _ _ (whole (a * S)) h))))

  pub high_number : (o l a : ℕ) → l * a * (X * S) ≤ o * (T * P) → whole T *ℚ r ≤ℚ whole (l * X)
      → a over P *ℚ r ≤ℚ o over S
  high_number o l a p h =
      times_le_cancel _ _ Z Z_pos
      (rw (in_side a, out_side o) (le_trans _ _ _ (rw (← mid l a) (times_le_times _ _ (whole (a * S)) h))
      (whole_le _ _ p)))

-- ---- the family

module _ (f w : ℕ → Fraction) (z : f zero ≡ whole 0) (severity : IsWithinOne f) (start : Scaled)
    (H : HoldsNoClaim w start) where
  low_holds : (B o y : ℕ) → o over (2 ^ B) ≤ℚ start.low over 2 ^ start.exponent *ℚ cell w f y y
      → AtLeast (cell w f y) (λ N. sum_to N w) (o over (2 ^ B))
  low_holds B o y h N u b =
      let p = start.low over 2 ^ start.exponent in
      let c : p *ℚ sum_to N w ≤ℚ whole 1 = H.0 N (whole 1) (λ m. le_refl _) in
      le_trans _ _ _ (times_le_times _ _ (sum_to N w) h)
      (rw (times_right_comm p (sum_to N w) (cell w f y y), one_times u) at (times_le_both _ _ _ _ c (b y)))

  high_holds : (B o y : ℕ) → start.high over 2 ^ start.exponent *ℚ cell w f y y ≤ℚ o over (2 ^ B)
      → AtMost (cell w f y) (λ N. sum_to N w) (o over (2 ^ B))
  high_holds B o y h N u b =
      let p = start.high over 2 ^ start.exponent in
      let r = cell w f y y in
      let M = max N y in
      let up = rw (cell_stays w f z y M (le-max_right N y)) at
      (rises_to (cell w f y) ((compound_proper w f severity).cells_rise y) N M (le-max_left N y)) in
      let c : whole 1 ≤ℚ p *ℚ u = H.1 zero u b in
      le_trans _ _ _ up
      (le_trans _ _ _ (rw (times_one r) at (times_le_both r r _ _ (le_refl r) c))
      (rw (times_second p r u) at (times_le_times _ _ u h)))

  pub ends_enclose : (B e step n : ℕ) (low high : List ℕ) (lo hi : ℕ → ℕ)
      → EncloseScaled (λ s. cell w f s s) e n low high → HasGridEnds B start e step n low high lo hi
      → Encloses (2 ^ B) n (λ k. lo (step * k)) (λ k. hi (step * k)) (compound w f)
  ends_enclose B e step n low high lo hi R Q y l =
      let E = start.exponent in
      let low_is = rw (pow-add 2 61 E, pow-add 2 e B) at (Q.low_end y l) in (
        low_holds B (lo (step * y)) y
            (low_number (2 ^ 61) (2 ^ E) (2 ^ B) (2 ^ e) (two_pos 61) (two_pos E) (two_pos B)
            (cell w f y y) _ _ start.low low_is (R.low_end y l)),
        elim (Q.high_end y l) [
          | inl h ↦
              let high_is = rw (pow-add 2 61 E, pow-add 2 e B) at h in
              high_holds B (hi (step * y)) y
              (high_number (2 ^ 61) (2 ^ E) (2 ^ B) (2 ^ e) (two_pos 61) (two_pos E) (two_pos B)
              (cell w f y y) _ _ start.high high_is (R.high_end y l))
          | inr h ↦ rw (h, over_same (2 ^ B) (2 ^ B) 1 1 (two_pos B) one_pos (omega arith))
              (cell_at_most_one (compound w f) (compound_proper w f severity) y)
        ],
      )

-- ---- the recursion in whole numbers

pub follows : (f w : ℕ → Fraction) (x : Fraction) (a b q : ℕ) (parts : List Part) → f zero ≡ whole 0
    → IsPanjer (whole a *ℚ x) (whole b *ℚ x) w → IsScaled parts q x f
    → FollowsInWhole parts a b q (λ s. cell w f s s)
follows f w x a b q parts z P W =
    let r : ℕ → Fraction = λ s. cell w f s s in
    let c : Fraction = whole b *ℚ x in
    let R : Recursion (whole a *ℚ x) c f r = recursion_there f w (whole a *ℚ x) c z P in
    record {
      start = R.start;
      next = λ n.
          ap (λ t. t *ℚ r (suc n)) (whole_times q (suc n)) ∙ turn (whole q) (whole (suc n)) (r (suc n))
          ∙ ap (λ t. whole q *ℚ t) (recursion_next f w (whole a *ℚ x) c z P r R n)
          ∙ sym (sum_pairs_times n (whole q)
          (λ i k. (whole a *ℚ x *ℚ whole k +ℚ c *ℚ whole (suc i)) *ℚ f (suc i) *ℚ r k))
          ∙ sum_pairs_same n _ _ (λ i k e.
          each (whole q) (whole a) x (whole k) (whole b) (whole (suc i)) (f (suc i)) (r k)
          ∙ ap₂ (λ s t. s *ℚ t *ℚ r k) (factor i k) (W (suc i))
          ∙ ap (λ t. t *ℚ r k) (sym (whole_times (a * k + b * suc i) (part_at parts (suc i)))));
    }
  where
    turn : (q s r : Fraction) → q *ℚ s *ℚ r ≡ q *ℚ (s *ℚ r)
    turn q s r = simp ring

    each : (q a x k c i f r : Fraction)
        → q *ℚ ((a *ℚ x *ℚ k +ℚ c *ℚ x *ℚ i) *ℚ f *ℚ r) ≡ (a *ℚ k +ℚ c *ℚ i) *ℚ (q *ℚ (x *ℚ f)) *ℚ r
    each q a x k c i f r = simp ring

    factor : (i k : ℕ) → whole a *ℚ whole k +ℚ whole b *ℚ whole (suc i) ≡ whole (a * k + b * suc i)
    factor i k = ap₂ (λ s t. s +ℚ t) (sym (whole_times a k)) (sym (whole_times b (suc i)))
        ∙ sym (whole_plus (a * k) (b * suc i))
