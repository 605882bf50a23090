-- Claims whose amounts are all multiples of g: their sums are g times those of the amounts over g.
use Rattle.dl_model.proofs.Common.{ℕ, zero, suc, ◌≡◌, ◌≢◌, ◌+◌, ◌-◌, ◌*◌, ◌/◌, ◌<◌, ◌≤◌, List, [], ◌∷◌, arith, sym, ap, ap₂, subst, ◌∙◌, dec_dvd, dvd-mul_left, ◌∣◌, Fraction, whole, ◌over◌, ◌+ℚ◌, ◌*ℚ◌, ◌≤ℚ◌, zero_times, zero_plus, zero_le, le_refl, le_trans, sum_to_grows, IsWithinOne, sum_pairs, sum_to, sum_pairs_same, sum_to_same, Item, Sev, common_amount, probability_of, over_zero, total_pos, at_zero, power, cell, compound, Encloses, Holds, dvd_refl, dvd_trans, le_of_dvd, dvd-add_iff_right, lt_of_mul-lt-mul_left, All-nil, All-cons, sum_pairs_first, gcd, gcd_is, refl, suc-add, zero-add, order, fun_ext}
use Rattle.std.proofs.Common.{All}
use Rattle.dl_model.proofs.Multiples.{divisor_from, divides_start, no_weight_between, no_cell_between, multiple_of}

-- ---- sums over i + j = n

-- the first k pairs left out
skip_pairs : (k n : ℕ) (F : ℕ → ℕ → Fraction) → ((i j : ℕ) → i < k → F i j ≡ whole 0)
    → sum_pairs (k + n) F ≡ sum_pairs n (λ i j. F (k + i) j)
skip_pairs zero n F none = simp zero-add
skip_pairs (suc k) n F none = simp suc-add (sum_pairs_first (k + n) F
    ∙ ap₂ (λ s t. s +ℚ t) (none zero (suc (k + n)) (omega arith))
    (skip_pairs k n (λ i j. F (suc i) j) (λ i j l. none (suc i) j (omega (arith, l)))) ∙ zero_plus _)

-- where nothing stands at an i that g does not divide, i and j are multiples of g
pub sum_pairs_multiples : (g t : ℕ) (F : ℕ → ℕ → Fraction) → 0 < g → ((i j : ℕ) → ¬ (g ∣ i) → F i j ≡ whole 0)
    → sum_pairs (g * t) F ≡ sum_pairs t (λ i j. F (g * i) (g * j))
unfolding sum_pairs
sum_pairs_multiples zero t F pos none = absurd (omega (arith, pos))
sum_pairs_multiples (suc h) zero F pos none =
    let nothing : suc h * 0 ≡ 0 = omega arith in
    rw nothing refl
sum_pairs_multiples (suc h) (suc t) F pos none =
    let nothing : suc h * 0 ≡ 0 = omega arith in
    let size : suc h * suc t ≡ suc (h + suc h * t) = omega arith in
    let one_more : (i : ℕ) → suc h + suc h * i ≡ suc h * suc i = λ i. omega arith in
    let too_small : (i : ℕ) → i < h → ¬ (suc h ∣ suc i) =
    λ i l d. omega (arith, l, le_of_dvd {m = suc h} {n = suc i} (omega arith) d) in
    ap (λ m. sum_pairs m F) size
    ∙ sum_pairs_first (h + suc h * t) F
    ∙ ap₂ (λ x y. x +ℚ y) (ap₂ F (sym nothing) (sym size))
    (skip_pairs h (suc h * t) (λ i j. F (suc i) j) (λ i j l. none (suc i) j (λ d. too_small i l d))
    ∙ sum_pairs_same (suc h * t) _ _ (λ i j e. ap (λ m. F m j) (sym (suc-add h i)))
    ∙ sum_pairs_multiples (suc h) t (λ i j. F (suc h + i) j) pos
    (λ i j n. none (suc h + i) j (λ d. n ((dvd-add_iff_right (suc h) (dvd_refl (suc h))).1 d)))
    ∙ sum_pairs_same t _ _ (λ i j e. ap (λ m. F m (suc h * j)) (one_more i)))
    ∙ sym (sum_pairs_first t (λ i j. F (suc h * i) (suc h * j)))

-- ---- compound sums

-- the sum g * t of claims is the sum t of claims that are g times smaller
module _ (f : ℕ → Fraction) (g : ℕ) (pos : 0 < g) (none : (j : ℕ) → ¬ (g ∣ j) → f j ≡ whole 0) where
  power_of_multiples : (n t : ℕ) → power f n (g * t) ≡ power (λ j. f (g * j)) n t
  unfolding power at_zero
  power_of_multiples zero zero =
      let nothing : g * 0 ≡ 0 = omega arith in
      ap at_zero nothing
  power_of_multiples zero (suc t) =
      let above : g * suc t ≡ suc (g * t + (g - 1)) = omega (arith, pos) in
      ap at_zero above
  power_of_multiples (suc n) t =
      sum_pairs_multiples g t (λ i j. f i *ℚ power f n j) pos (λ i j h. ap (λ x. x *ℚ power f n j) (none i h)
      ∙ zero_times _) ∙ sum_pairs_same t _ _ (λ i j e. ap (λ x. f (g * i) *ℚ x) (power_of_multiples n j))

  pub cell_of_multiples : (w : ℕ → Fraction) (t N : ℕ) → cell w f (g * t) N ≡ cell w (λ j. f (g * j)) t N
  cell_of_multiples w t N = sum_to_same N _ _ (λ n b. ap (λ x. w n *ℚ x) (power_of_multiples n t))

-- the probabilities of some amounts add up to no more than those of all
pub multiples_within : (f : ℕ → Fraction) (g : ℕ) → 0 < g → IsWithinOne f → IsWithinOne (λ j. f (g * j))
unfolding sum_to
multiples_within f g pos h n = le_trans _ _ _ (some_of n) (h (g * n))
  where
    some_of : (n : ℕ) → sum_to n (λ j. f (g * j)) ≤ℚ sum_to (g * n) f
    some_of zero =
        let first : g * 0 ≡ 0 = omega arith in
        rw first (le_refl _)
    some_of (suc t) =
        let past : g * suc t ≡ suc (g * t + (g - 1)) = omega (arith, pos) in
        rw past (grw (order, some_of t, sum_to_grows (g * t) (g * t + (g - 1)) f (omega arith)))

-- ---- a severity

-- the common divisor divides each amount
pub common_divides : (d : ℕ) (items : List Item) → All (λ (item : Item). divisor_from d items ∣ item.amount) items
common_divides d [] = All-nil (λ (item : Item). divisor_from d [] ∣ item.amount)
common_divides d (x ∷ xs) =
    All-cons (λ (item : Item). divisor_from d (x ∷ xs) ∣ item.amount) x xs (dvd_trans (divisor_from d (x ∷ xs))
    (divides_start (gcd d x.amount) xs) (gcd_is d x.amount).1) (common_divides (gcd d x.amount) xs)

-- an amount that its divisor does not divide is not there
no_amount : (sev : Sev) (g j : ℕ) → common_amount sev.items ≡ g → ¬ (g ∣ j) → probability_of sev j ≡ whole 0
no_amount sev g j is p = ap (λ k. k over sev.total) (no_weight_between sev.items 0 j (λ q. p (subst (λ d. d ∣ j) is q)))
    ∙ over_zero sev.total (total_pos sev.items sev.total sev.weighted)

no_multiple : (g d y m : ℕ) → d ≡ g → ¬ (g ∣ y) → y ≢ m * d
no_multiple g d y m is p e = p (subst (λ k. g ∣ k) (sym (e ∙ ap (λ d. m * d) is)) (dvd-mul_left g m))

-- a grid that encloses the sums of the amounts over g at its multiples of g, and has the low end 0 between them
pub multiples_enclose : (sev : Sev) (w : ℕ → Fraction) (g S n rows : ℕ) (lo hi : ℕ → ℕ)
    → common_amount sev.items ≡ g → 0 < g → 0 < S → n ≤ g * rows → ((s : ℕ) → ¬ (g ∣ s) → lo s ≡ 0)
    → Encloses S rows (λ t. lo (g * t)) (λ t. hi (g * t)) (compound w (λ j. probability_of sev (g * j)))
    → Encloses S n lo hi (compound w (probability_of sev))
multiples_enclose sev w g S n rows lo hi is pos scale far none H y within =
    let f : ℕ → Fraction = probability_of sev in
    let off : (j : ℕ) → ¬ (g ∣ j) → probability_of sev j ≡ whole 0 = λ j. no_amount sev g j is in
    elim (dec_dvd g y) [
      | yes p ↦
          let t = y / g in
          let e : g * t ≡ y = omega (arith, multiple_of g y p) in
          let h = H t (lt_of_mul-lt-mul_left g (omega (arith, within, far, e))) in
          subst (λ s. Holds (cell w f s) (λ N. sum_to N w) (lo s over S) (hi s over S)) e
          (subst (λ Q. Holds Q (λ N. sum_to N w) (lo (g * t) over S) (hi (g * t) over S))
          (sym (fun_ext (cell_of_multiples f g pos off w t))) h)
      | no p ↦ (
        λ N u b. rw (none y p, over_zero S scale, zero_times) (zero_le u),
        λ N u b. rw (no_cell_between sev w y N (λ m. no_multiple g (common_amount sev.items) y m is p)) (zero_le _),
      )
    ]
