-- One step of Horner's rule on rounded ends: one claim more, and the weight of the next lower count.
use Rattle.dl_claims.proofs.Common.{ℕ, zero, suc, ◌≡◌, ◌+◌, ◌*◌, ◌/◌, ◌^◌, ◌<◌, ◌≤◌, List, length, arith, sym, ap, subst, inl, inr, ◌∙◌, mul-pos, min, div_ceil, div-mul-le_self, mul-le-mul_right, cases_lt, pow_pos, div_ceil_times, Fraction, whole, ◌over◌, ◌+ℚ◌, ◌*ℚ◌, ◌≤ℚ◌, sum_to, over_le, one_pos, le_refl, le_trans, le_of_eq, plus_le_both, times_one, times_le_both, sum_to_le, item_le_sum, Iv, low_at, mass_low, all_at_zero, count_pairs, below_same, low_within, convolve, at_zero, power, cell_from, LieBetween, IsWithinOne, power_within_one, IsConvolution, add-zero, add-suc, zero_le, times_zero, sum_pairs_le, whole_mass, plus_comm, over_plus, over_split, over_zero, pairs_in_units, horner_start, horner_next, floors_within}

-- ---- the mass

-- the low ends of a convolution with what adds up to at most 1 add up to no more than before
pub convolved_mass : {B : ℕ} (a b cells : List (Iv B)) (n : ℕ) → mass_low a ≤ 2 ^ B → length cells ≡ n
    → IsConvolution n a b cells → mass_low cells ≤ mass_low b
convolved_mass {B} a b cells n top e is =
    omega (
      arith,
      whole_mass n cells e,
      below_same n (low_at cells) (λ s. count_pairs s (λ i j. low_at a i * low_at b j) / 2 ^ B) is.low,
      floors_within n (2 ^ B) (mass_low b) (low_at a) (low_at b) (pow_pos B) (omega (arith, low_within n a))
          (low_within n b),
    )

-- ---- what the counts from k on come to

pub shifted : (w : ℕ → Fraction) (k N : ℕ) → sum_to N (λ n. w (k + n)) ≤ℚ sum_to (k + N) w
unfolding sum_to
shifted w k zero = rw (add-zero k) (item_le_sum k w)
shifted w k (suc N) = rw add-suc (plus_le_both _ _ _ _ (shifted w k N) (le_refl _))

-- at most 1
pub from_within_one : (w f : ℕ → Fraction) → IsWithinOne w → IsWithinOne f → (k s N : ℕ)
    → cell_from w f k s N ≤ℚ whole 1
from_within_one w f p q k s N =
    le_trans _ _ _ (sum_to_le N _ (λ n. w (k + n)) (λ n b.
    rw (times_one (w (k + n))) at (times_le_both _ _ _ _ (le_refl (w (k + n)))
    (le_trans _ _ _ (item_le_sum s (power f n)) (power_within_one f q n s)))))
    (le_trans _ _ _ (shifted w k N) (p (k + N)))

module _ (S : ℕ) (pos : 0 < S) where
  zero_low : (a s : ℕ) (x : Fraction) → a over S ≤ℚ x → all_at_zero a s over S ≤ℚ x *ℚ at_zero s
  unfolding all_at_zero at_zero
  zero_low a zero x h = rw (times_one x) h
  zero_low a (suc s) x h = rw (over_zero S pos) (zero_le _)

  zero_high : (b s : ℕ) (x : Fraction) → x ≤ℚ b over S → x *ℚ at_zero s ≤ℚ all_at_zero b s over S
  unfolding all_at_zero at_zero
  zero_high b zero x h = rw (times_one x) h
  zero_high b (suc s) x h = le_of_eq _ _ (times_zero x ∙ sym (over_zero S pos))

  module _ (K : ℕ) (lo hi lo' hi' : ℕ → ℕ) (f c : ℕ → Fraction) (of_f : LieBetween S K lo hi f)
      (of_c : LieBetween S K lo' hi' c) where
    pub pairs_low : (s : ℕ) → s < K → (count_pairs s (λ i j. lo i * lo' j) / S) over S ≤ℚ convolve f c s
    pairs_low s inside = le_trans _ _ _
        (over_le _ _ _ _ pos (mul-pos pos pos)
        (omega (arith, mul-le-mul_right S (div-mul-le_self (count_pairs s (λ i j. lo i * lo' j)) S))))
        (le_trans _ _ _ (le_of_eq _ _ (sym (pairs_in_units s S lo lo' pos)))
        (sum_pairs_le s _ _ (λ i j e. times_le_both _ _ _ _ (of_f.low i (omega arith)) (of_c.low j (omega arith)))))

    pub pairs_high : (s : ℕ) → s < K → convolve f c s ≤ℚ div_ceil (count_pairs s (λ i j. hi i * hi' j)) S over S
    pairs_high s inside = le_trans _ _ _
        (sum_pairs_le s _ _ (λ i j e. times_le_both _ _ _ _ (of_f.high i (omega arith)) (of_c.high j (omega arith))))
        (le_trans _ _ _ (le_of_eq _ _ (pairs_in_units s S hi hi' pos))
        (over_le _ _ _ _ (mul-pos pos pos) pos
        (omega (arith, mul-le-mul_right S (div_ceil_times (count_pairs s (λ i j. hi i * hi' j)) S pos).0))))

  -- lowered to 1 where it is above
  pub clamped : (h : ℕ) (x : Fraction) → x ≤ℚ whole 1 → x ≤ℚ h over S → x ≤ℚ min S h over S
  clamped h x one above = elim (cases_lt S h) [
    | inl far ↦
        let e : S ≡ min S h = omega arith in
        rw (← e) (le_trans _ _ _ one (over_le _ _ _ _ one_pos pos (omega arith)))
    | inr near ↦
        let e : h ≡ min S h = omega arith in
        rw (← e) above
  ]

  lowered : (h b : ℕ) (x : Fraction) → x ≤ℚ whole 1 → x ≤ℚ (h + b) over S → x ≤ℚ min (min S h + b) S over S
  lowered h b x one above =
      let e : min S (h + b) ≡ min (min S h + b) S = omega arith in
      rw (← e) (clamped (h + b) x one above)

  -- the greatest count
  pub starts : (K : ℕ) (w f : ℕ → Fraction) (g g' : ℕ → ℕ) (a b k : ℕ) → a over S ≤ℚ w k → w k ≤ℚ b over S
      → ((s : ℕ) → g s ≡ all_at_zero a s) → ((s : ℕ) → g' s ≡ all_at_zero b s)
      → LieBetween S K g g' (λ s. cell_from w f k s 0)
  starts K w f g g' a b k low high e e' = record {
    low = λ s inside. rw (e s) (le_trans _ _ _ (zero_low a s (w k) low) (le_of_eq _ _ (sym (horner_start w f k s))));
    high = λ s inside. rw (e' s) (le_trans _ _ _ (le_of_eq _ _ (horner_start w f k s)) (zero_high b s (w k) high));
  }

  module _ (K : ℕ) (lo hi : ℕ → ℕ) (w f : ℕ → Fraction) (p : IsWithinOne w) (q : IsWithinOne f)
      (of_f : LieBetween S K lo hi f) where
    -- each count before it
    pub goes_on : (lo' hi' g g' : ℕ → ℕ) (a b k m N : ℕ) → suc k ≡ m → a over S ≤ℚ w k → w k ≤ℚ b over S
        → LieBetween S K lo' hi' (λ s. cell_from w f m s N)
        → ((s : ℕ) → s < K → g s ≡ count_pairs s (λ i j. lo i * lo' j) / S + all_at_zero a s)
        → ((s : ℕ) → s < K → g' s ≡ min (min S (div_ceil (count_pairs s (λ i j. hi i * hi' j)) S) + all_at_zero b s) S)
        → LieBetween S K g g' (λ s. cell_from w f k s (suc N))
    goes_on lo' hi' g g' a b k m N next low high before e e' =
        let step : (s : ℕ) → cell_from w f k s (suc N) ≡ w k *ℚ at_zero s +ℚ convolve f (λ j. cell_from w f m j N) s =
        λ s. horner_next w f k s N ∙ ap (λ t. w k *ℚ at_zero s +ℚ convolve f (λ j. cell_from w f t j N) s) next in
        record {
          low = λ s inside.
              subst (λ t. t over S ≤ℚ cell_from w f k s (suc N)) (sym (e s inside ∙ omega arith))
              (le_trans _ _ _ (le_of_eq _ _ (over_split (all_at_zero a s) (count_pairs s (λ i j. lo i * lo' j) / S) S pos))
              (le_trans _ _ _ (plus_le_both _ _ _ _ (zero_low a s (w k) low)
              (pairs_low K lo hi lo' hi' f (λ j. cell_from w f m j N) of_f before s inside))
              (le_of_eq _ _ (sym (step s)))));
          high = λ s inside.
              rw (e' s inside) (lowered (div_ceil (count_pairs s (λ i j. hi i * hi' j)) S) (all_at_zero b s)
              (cell_from w f k s (suc N)) (from_within_one w f p q k s (suc N))
              (le_trans _ _ _ (le_of_eq _ _ (step s))
              (le_trans _ _ _ (plus_le_both _ _ _ _ (zero_high b s (w k) high)
              (pairs_high K lo hi lo' hi' f (λ j. cell_from w f m j N) of_f before s inside))
              (le_of_eq _ _ (plus_comm _ _ ∙ over_plus (div_ceil (count_pairs s (λ i j. hi i * hi' j)) S) _ S pos)))));
        }
