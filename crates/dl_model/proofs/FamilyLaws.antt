-- A convolution with outward rounding encloses the product of families, and powers of families.
use Rattle.dl_model.proofs.Common.{◌≡◌, ℕ, suc, zero, ◌+◌, ◌*◌, ◌/◌, ◌^◌, ◌<◌, ◌≤◌, List, length, min, arith, refl, sym, ap, subst, subst₂, ◌∙◌, mul-pos, inl, inr, mul-le-mul_right, fun_ext, min-eq_right, cases_lt, pow_pos, Fraction, whole, ◌over◌, ◌*ℚ◌, ◌^ℚ◌, sum_to, sum_pairs, over_le, one_pos, le_refl, le_trans, le_of_eq, plus_le_both, le_plus, one_times, times_one, times_le_both, sum_to_le, sum_to_times, sum_to_swap, item_le_sum, Series, Rises, AtMost, AtLeast, Holds, times, at_zero, power, IsWithinOne, count_pairs, Family, compound, product, nothing, times_itself, IsProper, Encloses, pairs_in_units, pow_plus, ◌⊎◌, div-mul-le_self, div_ceil, Iv, low_at, high_at, GridEncloses, above, order, div_ceil_times, IsConvolution}
use Rattle.dl_model.proofs.Declared.{at_most_plus, at_least_plus, at_most_wider, at_least_wider, holds_times}
use Rattle.dl_model.proofs.Cauchy.{cauchy_low}
use Rattle.dl_model.proofs.CompoundLaws.{sum_at_zero, power_within_one}
use Rattle.dl_model.proofs.Powers.{power_plus, at_zero_convolve, convolve_comm}

-- a sum of rising series over one R
pub sum_rises : (n : ℕ) (P : ℕ → ℕ → Series) → ((i j : ℕ) → i + j ≡ n → Rises (P i j))
    → Rises (λ N. sum_pairs n (λ i j. P i j N))
unfolding sum_pairs
sum_rises zero P r N = r zero zero (omega arith) N
sum_rises (suc n) P r N = plus_le_both _ _ _ _ (r zero (suc n) (omega arith) N)
    (sum_rises n (λ i j. P (suc i) j) (λ i j e. r (suc i) j (omega arith)) N)

pub sum_at_most : (n : ℕ) (P : ℕ → ℕ → Series) (R : Series) (h : ℕ → ℕ → Fraction)
    → ((i j : ℕ) → i + j ≡ n → AtMost (P i j) R (h i j)) → AtMost (λ N. sum_pairs n (λ i j. P i j N)) R (sum_pairs n h)
unfolding sum_pairs
sum_at_most zero P R h a = a zero zero (omega arith)
sum_at_most (suc n) P R h a = at_most_plus _ _ R _ _ (a zero (suc n) (omega arith))
    (sum_at_most n (λ i j. P (suc i) j) R (λ i j. h (suc i) j) (λ i j e. a (suc i) j (omega arith)))

pub sum_at_least : (n : ℕ) (P : ℕ → ℕ → Series) (R : Series) (l : ℕ → ℕ → Fraction)
    → ((i j : ℕ) → i + j ≡ n → Rises (P i j)) → ((i j : ℕ) → i + j ≡ n → AtLeast (P i j) R (l i j))
    → AtLeast (λ N. sum_pairs n (λ i j. P i j N)) R (sum_pairs n l)
unfolding sum_pairs
sum_at_least zero P R l r a = a zero zero (omega arith)
sum_at_least (suc n) P R l r a = at_least_plus _ _ R _ _ (r zero (suc n) (omega arith))
    (sum_rises n (λ i j. P (suc i) j) (λ i j e. r (suc i) j (omega arith)))
    (a zero (suc n) (omega arith)) (sum_at_least n (λ i j. P (suc i) j) R (λ i j. l (suc i) j)
    (λ i j e. r (suc i) j (omega arith)) (λ i j e. a (suc i) j (omega arith)))

pub sum_holds : (n : ℕ) (P : ℕ → ℕ → Series) (R : Series) (l h : ℕ → ℕ → Fraction)
    → ((i j : ℕ) → i + j ≡ n → Rises (P i j)) → ((i j : ℕ) → i + j ≡ n → Holds (P i j) R (l i j) (h i j))
    → Holds (λ N. sum_pairs n (λ i j. P i j N)) R (sum_pairs n l) (sum_pairs n h)
sum_holds n P R l h r a = (sum_at_least n P R l r (λ i j e. (a i j e).0), sum_at_most n P R h (λ i j e. (a i j e).1))

-- ---- proper families

pub rises_times : (Q R : Series) → Rises Q → Rises R → Rises (times Q R)
rises_times Q R q r n = times_le_both _ _ _ _ (q n) (r n)

pub proper_product : (F G : Family) → IsProper F → IsProper G → IsProper (product F G)
proper_product F G p q = record {
  cells_rise = λ y. sum_rises y (λ i j. times (F.cells i) (G.cells j))
      (λ i j e. rises_times _ _ (p.cells_rise i) (q.cells_rise j));
  all_rises = rises_times _ _ p.all_rises q.all_rises;
  within = λ y N. le_trans _ _ _ (cauchy_low y (λ i. F.cells i N) (λ j. G.cells j N))
      (times_le_both _ _ _ _ (p.within y N) (q.within y N));
}

pub cell_at_most_one : (F : Family) → IsProper F → (y : ℕ) → AtMost (F.cells y) F.all (whole 1)
cell_at_most_one F p y n u b =
    rw one_times (le_trans _ _ _ (item_le_sum y (λ i. F.cells i n)) (le_trans _ _ _ (p.within y n) (b n)))

-- the partial sums of weights never fall
pub sum_rises_to : (w : ℕ → Fraction) → Rises (λ N. sum_to N w)
unfolding sum_to
sum_rises_to w n = le_plus _ _

pub compound_proper : (w f : ℕ → Fraction) → IsWithinOne f → IsProper (compound w f)
compound_proper w f h = record {
  cells_rise = λ y. sum_rises_to (λ n. w n *ℚ power f n y);
  all_rises = sum_rises_to w;
  within = λ y N. rw (sum_to_swap y N (λ i n. w n *ℚ power f n i)) (sum_to_le N _ w (λ n e.
      rw (sum_to_times y (w n) (power f n)) (grw (order, power_within_one f h n y) (le_of_eq _ _ (times_one _)))));
}

pub nothing_proper : IsProper nothing
nothing_proper =
    record { cells_rise = λ y N. le_refl _; all_rises = λ N. le_refl _; within = λ y N. le_of_eq _ _ (sum_at_zero y) }

pub itself_proper : (F : Family) → IsProper F → (n : ℕ) → IsProper (times_itself F n)
unfolding power ◌^ℚ◌
itself_proper F p zero = nothing_proper
itself_proper F p (suc n) = proper_product F (times_itself F n) p (itself_proper F p n)

-- ---- outward rounding

module _ (S K : ℕ) (lo hi lo' hi' : ℕ → ℕ) (F G : Family) (pos : 0 < S) (p : IsProper F) (q : IsProper G)
    (e : Encloses S K lo hi F) (e' : Encloses S K lo' hi' G) where
  product_holds : (y : ℕ) → y < K → Holds ((product F G).cells y) (product F G).all
      (sum_pairs y (λ i j. lo i over S *ℚ lo' j over S)) (sum_pairs y (λ i j. hi i over S *ℚ hi' j over S))
  product_holds y b = sum_holds y (λ i j. times (F.cells i) (G.cells j))
      (times F.all G.all) _ _ (λ i j s. rises_times _ _ (p.cells_rise i) (q.cells_rise j))
      (λ i j s. holds_times (F.cells i) F.all (G.cells j) G.all (lo i over S) (lo' j over S) (hi i over S)
      (hi' j over S) (p.cells_rise i) p.all_rises (q.cells_rise j) q.all_rises (e i (omega arith)) (e' j (omega arith)))

  -- no cell is above the whole weight
  pub encloses_product : (low high : ℕ → ℕ) → ((y : ℕ) → y < K → low y * S ≤ count_pairs y (λ i j. lo i * lo' j))
      → ((y : ℕ) → y < K → (count_pairs y (λ i j. hi i * hi' j) ≤ high y * S) ⊎ (S ≤ high y))
      → Encloses S K low high (product F G)
  encloses_product low high below above y b = (
    at_least_wider _ _ _ _ (product_holds y b).0 (rw (pairs_in_units y S lo lo' pos)
        (over_le _ _ _ _ pos (mul-pos pos pos) (omega (arith, mul-le-mul_right S (below y b))))),
    elim (above y b) [
      | inl h ↦ at_most_wider _ _ _ _ (product_holds y b).1 (rw (pairs_in_units y S hi hi' pos)
          (over_le _ _ _ _ (mul-pos pos pos) pos (omega (arith, mul-le-mul_right S h))))
      | inr h ↦ at_most_wider _ _ (whole 1) (high y over S)
          (cell_at_most_one (product F G) (proper_product F G p q) y)
          (over_le _ _ _ _ one_pos pos (omega arith))
    ],
  )

  -- one floor and one ceiling for each cell, and no high end above S
  pub encloses_rounded : Encloses S K (λ y. count_pairs y (λ i j. lo i * lo' j) / S)
      (λ y. min S (div_ceil (count_pairs y (λ i j. hi i * hi' j)) S)) (product F G)
  encloses_rounded = encloses_product _ _ (λ y b. div-mul-le_self _ S) (λ y b.
      let n = count_pairs y (λ i j. hi i * hi' j) in
      elim (cases_lt S (div_ceil n S)) [
        | inl far ↦ inr (omega arith)
        | inr near ↦ inl (subst (λ k. n ≤ k * S) (sym (min-eq_right near)) (div_ceil_times n S pos).0)
      ])

-- a grid that is the convolution of two that enclose encloses the product
pub convolution_encloses : {B : ℕ} (a b g : List (Iv B)) (n : ℕ) (F G : Family) → IsProper F → IsProper G
    → n ≤ length a → n ≤ length b → length g ≡ n → IsConvolution n a b g
    → GridEncloses a F → GridEncloses b G → GridEncloses g (product F G)
convolution_encloses {B} a b g n F G p q in_a in_b e convolution of_a of_b y inside =
    let within : y < n = omega (arith, e) in
    subst₂ (λ l h. Holds ((product F G).cells y) (product F G).all (l over 2 ^ B) (h over 2 ^ B))
    (sym (convolution.low y within)) (sym (convolution.high y within))
    (encloses_rounded (2 ^ B) n (low_at a) (high_at a) (low_at b) (high_at b) F G (pow_pos B) p q
    (λ x h. of_a x (omega arith)) (λ x h. of_b x (omega arith)) y within)

-- ---- families with equal cells and whole weights

pub encloses_same : (S K : ℕ) (lo hi : ℕ → ℕ) (F G : Family) → ((y N : ℕ) → F.cells y N ≡ G.cells y N)
    → ((N : ℕ) → F.all N ≡ G.all N) → Encloses S K lo hi F → Encloses S K lo hi G
encloses_same S K lo hi F G cells all e y b =
    subst₂ (λ Q R. Holds Q R (lo y over S) (hi y over S)) (fun_ext (cells y)) (fun_ext all) (e y b)

-- ---- powers

pub itself_none : (F : Family) (y N : ℕ) → (times_itself F 0).cells y N ≡ nothing.cells y N
unfolding power
itself_none F y N = refl

pub itself_one : (F : Family) (y N : ℕ) → (times_itself F 1).cells y N ≡ F.cells y N
unfolding power
itself_one F y N = ap (λ g. g y) (convolve_comm (λ j. F.cells j N) at_zero ∙ at_zero_convolve (λ j. F.cells j N))

-- m times and n times are m + n times
pub itself_plus : (F : Family) (m n y N : ℕ)
    → (product (times_itself F m) (times_itself F n)).cells y N ≡ (times_itself F (m + n)).cells y N
itself_plus F m n y N = ap (λ g. g y) (sym (power_plus (λ j. F.cells j N) m n))

pub itself_plus_all : (F : Family) (m n N : ℕ)
    → (product (times_itself F m) (times_itself F n)).all N ≡ (times_itself F (m + n)).all N
itself_plus_all F m n N = sym (pow_plus (F.all N) m n)

pub encloses_power : (S K : ℕ) (lo hi : ℕ → ℕ) (F : Family) (m n : ℕ)
    → Encloses S K lo hi (product (times_itself F m) (times_itself F n)) → Encloses S K lo hi (times_itself F (m + n))
encloses_power S K lo hi F m n = encloses_same S K lo hi _ _ (itself_plus F m n) (itself_plus_all F m n)
