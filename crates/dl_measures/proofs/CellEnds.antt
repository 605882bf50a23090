-- The ends of a distribution and of a layer, from those of the cells of an enclosing grid.
use Rattle.dl_measures.proofs.Common.{◌≡◌, inl, inr, ℕ, suc, ◌+◌, ◌-◌, ◌<◌, ◌≤◌, min, arith, sym, ap, subst, subst₂, ◌∙◌, List, Some, fun_ext, cases_lt, Fraction, whole, ◌over◌, count_below, below_grows, IsBound, AtMost, Holds, Loss, AreDeclarable, One, Cdf, Layer, score, partial_sums, total, Encloses, outcomes_rise, cdf_most_one, low_cdf, high_cdf, min-eq_left, min-eq_right, over_one, over_rest, Point, above, survival, cdf_points, layer_survivals, to_holds, below_holds, above_ends, low_layer, high_layer, Quantity, sum_to, sum_below, to_over, below_over}
use Rattle.dl_model.specs.Series.{Rises, Series}

-- whatever declares them: the distribution is the sum of the points, and at most 1
pub cdf_within : (D : Quantity → Series) (S K : ℕ) (lo hi : ℕ → ℕ) → ((x : ℕ) → Rises (D (Point x)))
    → ((x N : ℕ) → D (Cdf x) N ≡ sum_to x (λ i. D (Point i) N))
    → ((x : ℕ) → AtMost (D (Cdf x)) (D One) (whole 1)) → 0 < S
    → ((x : ℕ) → x < K → Holds (D (Point x)) (D One) (lo x over S) (hi x over S))
    → (x : ℕ) → x < K → Holds (D (Cdf x)) (D One) (low_cdf S lo x) (high_cdf S hi x)
cdf_within D S K lo hi rise points most s e x xk =
    let R = D One in
    let Q : D (Cdf x) ≡ (λ N. sum_to x (λ i. D (Point i) N)) = fun_ext (points x) in
    let h : Holds (λ N. sum_to x (λ i. D (Point i) N)) R (sum_to x (λ y. lo y over S)) (sum_to x (λ y. hi y over S)) =
    to_holds x (λ i. D (Point i)) R (λ y. lo y over S) (λ y. hi y over S) rise (λ i b. e i (omega arith)) in
    let g : Holds (D (Cdf x)) R (low_cdf S lo x) (count_below (suc x) hi over S) =
    subst (λ t. Holds t R (low_cdf S lo x) (count_below (suc x) hi over S)) (sym Q)
    (subst₂ (λ l h. Holds (λ N. sum_to x (λ i. D (Point i) N)) R l h) (to_over x S lo s) (to_over x S hi s) h) in (
      g.0,
      elim (cases_lt S (count_below (suc x) hi)) [
        | inl l ↦ subst (λ t. AtMost (D (Cdf x)) (D One) t)
            (sym (ap (λ t. t over S) (min-eq_left (omega arith)) ∙ over_one S s)) (most x)
        | inr l ↦ subst (λ t. AtMost (D (Cdf x)) (D One) (t over S)) (sym (min-eq_right l)) g.1
      ],
    )

pub cdf_ends : (us : List Loss) (S K : ℕ) (lo hi : ℕ → ℕ) → AreDeclarable us → 0 < S
    → Encloses S K lo hi (total us)
    → (x : ℕ) → x < K → Holds (partial_sums us (Cdf x)) (partial_sums us One) (low_cdf S lo x) (high_cdf S hi x)
cdf_ends us S K lo hi w = cdf_within (partial_sums us) S K lo hi (λ x. outcomes_rise us w (score (Point x)))
    (cdf_points us) (cdf_most_one us)

pub layer_ends : (us : List Loss) (S K : ℕ) (lo hi : ℕ → ℕ) (v : Fraction) → AreDeclarable us → 0 < S
    → Encloses S K lo hi (total us)
    → IsBound (partial_sums us One) v → count_below K lo ≤ S → (L A : ℕ) → A + L ≤ K
    → Holds (partial_sums us (Layer (Some L) A)) (partial_sums us One) (low_layer S hi L A) (high_layer S lo L A)
layer_ends us S K lo hi v w s e b m L A k =
    let R = partial_sums us One in
    let l : ℕ → ℕ = λ i. S - min S (count_below (suc (A + i)) hi) in
    let h : ℕ → ℕ = λ i. S - count_below (suc (A + i)) lo in
    let Q : partial_sums us (Layer (Some L) A) ≡ (λ N. sum_below L (λ i. survival us (A + i) N)) =
    fun_ext (λ N. layer_survivals us L A N) in
    let g : Holds (λ N. sum_below L (λ i. survival us (A + i) N)) R (sum_below L (λ i. l i over S))
    (sum_below L (λ i. h i over S)) =
    below_holds L (λ i. survival us (A + i)) R (λ i. l i over S) (λ i. h i over S)
    (λ i. outcomes_rise us w (above (A + i)))
    (λ i c. above_ends us (A + i) (low_cdf S lo (A + i)) (high_cdf S hi (A + i)) (l i over S) (h i over S) v w b
    (over_rest (count_below (suc (A + i)) lo) S s (omega (arith, below_grows (suc (A + i)) K lo (omega arith))))
    (over_rest (min S (count_below (suc (A + i)) hi)) S s (omega arith))
    (cdf_ends us S K lo hi w s e (A + i) (omega arith))) in
    subst (λ t. Holds t R (low_layer S hi L A) (high_layer S lo L A)) (sym Q)
    (subst₂ (λ x y. Holds (λ N. sum_below L (λ i. survival us (A + i) N)) R x y) (below_over L S l s)
    (below_over L S h s) g)
