-- A block of counts, and the counts after it: Horner's rule in steps of several claims.
use Rattle.dl_claims.proofs.Common.{ℕ, zero, suc, ◌≡◌, ◌+◌, arith, refl, sym, ap, ap₂, ◌∙◌, Fraction, ◌+ℚ◌, ◌*ℚ◌, sum_to, sum_pairs, sum_pairs_same, convolve, power, cell_from, power_plus, plus_assoc, times_left_comm, sum_to_same, sum_to_times, sum_pairs_times, sum_pairs_sum_to}

-- the first m + 1 items and n + 1 more
split : (m n : ℕ) (f : ℕ → Fraction) → sum_to (suc m + n) f ≡ sum_to m f +ℚ sum_to n (λ i. f (suc m + i))
unfolding sum_to
split m zero f =
    let e : suc m + 0 ≡ suc m = omega arith in
    rw e refl
split m (suc n) f =
    let e : suc m + suc n ≡ suc (suc m + n) = omega arith in
    ap (λ k. sum_to k f) e ∙ ap₂ (λ s t. s +ℚ t) (split m n f) (ap f (sym e)) ∙ plus_assoc _ _ _

module _ (w f : ℕ → Fraction) where
  later : (k m n s : ℕ) → w (k + (suc m + n)) *ℚ power f (suc m + n) s
      ≡ sum_pairs s (λ i j. power f (suc m) i *ℚ (w (k + suc m + n) *ℚ power f n j))
  later k m n s =
      let e : k + (suc m + n) ≡ k + suc m + n = omega arith in
      ap₂ (λ x y. w x *ℚ y s) e (power_plus f (suc m) n)
      ∙ sym (sum_pairs_times s (w (k + suc m + n)) (λ i j. power f (suc m) i *ℚ power f n j))
      ∙ sum_pairs_same s _ _ (λ i j e. times_left_comm (w (k + suc m + n)) (power f (suc m) i) (power f n j))

  -- the block of the counts from k to k + m, and m + 1 claims before each of the counts after them
  pub block_next : (k m n s : ℕ)
      → cell_from w f k s (suc m + n) ≡ cell_from w f k s m +ℚ convolve (power f (suc m))
      (λ j. cell_from w f (k + suc m) j n) s
  block_next k m n s =
      split m n (λ i. w (k + i) *ℚ power f i s)
      ∙ ap (λ t. cell_from w f k s m +ℚ t)
      (sum_to_same n _ _ (λ i e. later k m i s)
      ∙ sym (sum_pairs_sum_to s n (λ i j l. power f (suc m) i *ℚ (w (k + suc m + l) *ℚ power f l j)))
      ∙ sum_pairs_same s _ _ (λ i j e. sum_to_times n (power f (suc m) i) (λ l. w (k + suc m + l) *ℚ power f l j)))
