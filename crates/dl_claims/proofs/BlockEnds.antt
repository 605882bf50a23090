-- The rounded ends of a product, of a sum and of a mixture of grids, between which what they hold lies.
use Rattle.dl_claims.proofs.Common.{ℕ, zero, suc, ◌≡◌, ◌+◌, ◌*◌, ◌/◌, ◌<◌, ◌≤◌, arith, sym, ap, ap₂, ◌∙◌, mul-pos, min, div_ceil, div-mul-le_self, div_ceil_times, Fraction, whole, ◌over◌, ◌+ℚ◌, ◌*ℚ◌, ◌≤ℚ◌, sum_to, over_le, over_mul, one_pos, le_refl, le_trans, le_of_eq, plus_le_both, times_le_both, sum_to_le, count_pairs, count_below, convolve, power, cell_from, IsWithinOne, compound_proper, LieBetween, le_over, over_plus, over_split, to_over}
use Rattle.std.proofs.Common.{mul-le-mul_right}
use Rattle.dl_claims.proofs.HornerSteps.{shifted, pairs_low, pairs_high, clamped}

-- what counts from k on come to adds up to at most 1
pub cells_within_one : (w f : ℕ → Fraction) → IsWithinOne w → IsWithinOne f → (k N : ℕ)
    → IsWithinOne (λ s. cell_from w f k s N)
cells_within_one w f p q k N n = le_trans _ _ _ ((compound_proper (λ i. w (k + i)) f q).within n N)
    (le_trans _ _ _ (shifted w k N) (p (k + N)))

module _ (S : ℕ) (pos : 0 < S) where
  -- low ends below what adds up to at most 1 add up to at most S
  pub mass_within : (n : ℕ) (lo : ℕ → ℕ) (c : ℕ → Fraction) → IsWithinOne c → ((s : ℕ) → s < n → lo s over S ≤ℚ c s)
      → count_below n lo ≤ S
  unfolding count_below
  mass_within zero lo c p low = omega arith
  mass_within (suc n) lo c p low =
      omega (
        arith,
        le_over _ _ _ _ pos one_pos
            (rw (to_over n S lo pos) at
            (le_trans _ _ _ (sum_to_le n (λ s. lo s over S) c (λ s b. low s (omega arith))) (p n))),
      )

  below_min : (h : ℕ) (x : Fraction) → h over S ≤ℚ x → min S h over S ≤ℚ x
  below_min h x low = le_trans _ _ _ (over_le _ _ _ _ pos pos (mul-le-mul_right S (omega arith))) low

  pub product_between : (K : ℕ) (lo hi lo' hi' g g' : ℕ → ℕ) (f c : ℕ → Fraction) → LieBetween S K lo hi f
      → LieBetween S K lo' hi' c
      → ((s : ℕ) → convolve f c s ≤ℚ whole 1)
      → ((s : ℕ) → s < K → g s ≡ count_pairs s (λ i j. lo i * lo' j) / S)
      → ((s : ℕ) → s < K → g' s ≡ min S (div_ceil (count_pairs s (λ i j. hi i * hi' j)) S))
      → LieBetween S K g g' (convolve f c)
  product_between K lo hi lo' hi' g g' f c of_f of_c one e e' = record {
    low = λ s inside. rw (e s inside) (pairs_low S pos K lo hi lo' hi' f c of_f of_c s inside);
    high = λ s inside. rw (e' s inside)
        (clamped S pos _ _ (one s) (pairs_high S pos K lo hi lo' hi' f c of_f of_c s inside));
  }

  pub sum_between : (K : ℕ) (lo hi lo' hi' g g' : ℕ → ℕ) (b c both : ℕ → Fraction) → LieBetween S K lo hi b
      → LieBetween S K lo' hi' c
      → ((s : ℕ) → both s ≡ b s +ℚ c s) → ((s : ℕ) → both s ≤ℚ whole 1)
      → ((s : ℕ) → s < K → g s ≡ min S (lo s + lo' s)) → ((s : ℕ) → s < K → g' s ≡ min S (hi s + hi' s))
      → LieBetween S K g g' both
  sum_between K lo hi lo' hi' g g' b c both of_b of_c sum one e e' = record {
    low = λ s inside. rw (e s inside) (below_min _ _ (rw (sum s)
        (le_trans _ _ _ (le_of_eq _ _ (over_split (lo s) (lo' s) S pos))
        (plus_le_both _ _ _ _ (of_b.low s inside) (of_c.low s inside)))));
    high = λ s inside. rw (e' s inside) (clamped S pos _ _ (one s) (rw (sum s)
        (le_trans _ _ _ (plus_le_both _ _ _ _ (of_b.high s inside) (of_c.high s inside))
        (le_of_eq _ _ (over_plus (hi s) (hi' s) S pos)))));
  }

  module _ (total : ℕ) (there : 0 < total) where
    -- weights over the total times ends
    mixed_sums : (m : ℕ) (a b : ℕ → ℕ) → sum_to m (λ i. a i over total *ℚ b i over S)
        ≡ count_below (suc m) (λ i. a i * b i) over (total * S)
    unfolding sum_to count_below
    mixed_sums zero a b = over_mul _ _ _ _ there pos ∙ ap (λ t. t over (total * S)) (omega arith)
    mixed_sums (suc m) a b =
        ap₂ (λ s t. s +ℚ t) (mixed_sums m a b) (over_mul _ _ _ _ there pos)
        ∙ over_plus _ _ (total * S) (mul-pos there pos)

    pub mixed_between : (K m k : ℕ) (a : ℕ → ℕ) (lo hi : ℕ → ℕ → ℕ) (g g' : ℕ → ℕ) (w f : ℕ → Fraction)
        → ((i : ℕ) → i ≤ m → a i over total ≡ w (k + i)) → ((i : ℕ) → i ≤ m → LieBetween S K (lo i) (hi i) (power f i))
        → ((s : ℕ) → cell_from w f k s m ≤ℚ whole 1)
        → ((s : ℕ) → s < K → g s ≡ min S (count_below (suc m) (λ i. a i * lo i s) / total))
        → ((s : ℕ) → s < K → g' s ≡ min S (div_ceil (count_below (suc m) (λ i. a i * hi i s)) total))
        → LieBetween S K g g' (λ s. cell_from w f k s m)
    mixed_between K m k a lo hi g g' w f chance of_f one e e' = record {
      low = λ s inside.
          let n = count_below (suc m) (λ i. a i * lo i s) in
          rw (e s inside)
          (below_min _ _ (le_trans _ _ _ (over_le (n / total) S n (total * S) pos (mul-pos there pos) (scaled n S))
          (le_trans _ _ _ (le_of_eq _ _ (sym (mixed_sums m a (λ i. lo i s))))
          (sum_to_le m _ _ (λ i b. rw (← chance i b)
          (times_le_both _ _ _ _ (le_refl _) ((of_f i b).low s inside)))))));
      high = λ s inside.
          let n = count_below (suc m) (λ i. a i * hi i s) in
          rw (e' s inside) (clamped S pos _ _ (one s)
          (le_trans _ _ _ (sum_to_le m _ _ (λ i b. rw (← chance i b)
          (times_le_both _ _ _ _ (le_refl _) ((of_f i b).high s inside))))
          (le_trans _ _ _ (le_of_eq _ _ (mixed_sums m a (λ i. hi i s)))
          (over_le n (total * S) (div_ceil n total) S (mul-pos there pos) pos (raised n S)))));
    }
      where
        scaled : (n t : ℕ) → n / total * (total * t) ≤ n * t
        scaled n t = omega (arith, mul-le-mul_right t (div-mul-le_self n total))

        raised : (n t : ℕ) → n * t ≤ div_ceil n total * (total * t)
        raised n t = omega (arith, mul-le-mul_right t (div_ceil_times n total there).0)
