-- Products of lists that begin and end with zeros.
use Rattle.dl_product.proofs.Common.{ℕ, zero, suc, ◌≡◌, ◌+◌, ◌-◌, ◌*◌, ◌<◌, ◌≤◌, inl, inr, arith, refl, sym, ap, ap₂, ◌∙◌, cases_lt, count_pairs, pairs_same, times_nothing, add_assoc, add-suc, add-zero, suc-add, zero-add, below_none, below_pairs, nothing_times}

-- no sum of products that are each 0
pub no_products : (n : ℕ) (f g : ℕ → ℕ) → ((i : ℕ) → i ≤ n → f i * g (n - i) ≡ 0) → count_pairs n (λ i j. f i * g j) ≡ 0
no_products n f g none =
    sym (below_pairs n (λ i j. f i * g j)) ∙ below_none (suc n) (λ i. f i * g (n - i)) (λ i b. none i (omega arith))

-- no product where all first items up to there are 0
pub low_first : (n : ℕ) (f g : ℕ → ℕ) → ((i : ℕ) → i ≤ n → f i ≡ 0) → count_pairs n (λ i j. f i * g j) ≡ 0
low_first n f g h = no_products n f g (λ i b. nothing_times (f i) (g (n - i)) (h i b))

pub low_second : (n : ℕ) (f g : ℕ → ℕ) → ((j : ℕ) → j ≤ n → g j ≡ 0) → count_pairs n (λ i j. f i * g j) ≡ 0
low_second n f g h = no_products n f g (λ i b. times_nothing (f i) (g (n - i)) (h (n - i) (omega arith)))

nothing_more : (x y : ℕ) → x ≡ 0 → x + y ≡ y
nothing_more x y e = omega (arith, e)

-- zeros before the first list move the product
pub shift_first : (p s : ℕ) (f g : ℕ → ℕ) → ((i : ℕ) → i < p → f i ≡ 0)
    → count_pairs (p + s) (λ i j. f i * g j) ≡ count_pairs s (λ i j. f (p + i) * g j)
unfolding count_pairs
shift_first zero s f g h =
    ap (λ n. count_pairs n (λ i j. f i * g j)) (zero-add s)
    ∙ pairs_same s _ _ (λ i j. ap (λ n. f n * g j) (sym (zero-add i)))
shift_first (suc p) s f g h =
    ap (λ n. count_pairs n (λ i j. f i * g j)) (suc-add p s)
    ∙ nothing_more (f zero * g (suc (p + s))) (count_pairs (p + s) (λ i j. f (suc i) * g j))
    (nothing_times (f zero) (g (suc (p + s))) (h zero (omega arith)))
    ∙ shift_first p s (λ i. f (suc i)) g (λ i b. h (suc i) (omega arith))
    ∙ pairs_same s _ _ (λ i j. ap (λ n. f n * g j) (sym (suc-add p i)))

pub only_last : (n : ℕ) (f g : ℕ → ℕ) → ((j : ℕ) → j < n → g j ≡ 0)
    → count_pairs n (λ i j. f i * g j) ≡ f zero * g n
unfolding count_pairs
only_last zero f g h = refl
only_last (suc n) f g h = omega (arith, low_second n (λ i. f (suc i)) g (λ j b. h j (omega arith)))

-- and so do zeros before the second
pub shift_second : (q s : ℕ) (f g : ℕ → ℕ) → ((j : ℕ) → j < q → g j ≡ 0)
    → count_pairs (q + s) (λ i j. f i * g j) ≡ count_pairs s (λ i j. f i * g (q + j))
unfolding count_pairs
shift_second q zero f g h =
    ap (λ n. count_pairs n (λ i j. f i * g j)) (add-zero q) ∙ only_last q f g h ∙ ap (λ n. f zero * g n)
    (sym (add-zero q))
shift_second q (suc s) f g h =
    ap (λ n. count_pairs n (λ i j. f i * g j)) (add-suc q s)
    ∙ ap₂ (λ x y. x + y) (ap (λ n. f zero * g n) (sym (add-suc q s))) (shift_second q s (λ i. f (suc i)) g h)

-- no product before the sum of the first places
pub before_both : (p q s : ℕ) (f g : ℕ → ℕ) → ((i : ℕ) → i < p → f i ≡ 0) → ((j : ℕ) → j < q → g j ≡ 0) → s < p + q
    → count_pairs s (λ i j. f i * g j) ≡ 0
before_both p q s f g h k b = elim (cases_lt s p) [
  | inl c ↦ low_first s f g (λ i d. h i (omega arith))
  | inr c ↦
      let t = s - p in
      let e : p + t ≡ s = omega arith in
      ap (λ n. count_pairs n (λ i j. f i * g j)) (sym e)
      ∙ shift_first p t f g h ∙ low_second t (λ i. f (p + i)) g (λ j d. k j (omega arith))
]

-- from there on the products are those of the rests
pub shift_both : (p q s : ℕ) (f g : ℕ → ℕ) → ((i : ℕ) → i < p → f i ≡ 0) → ((j : ℕ) → j < q → g j ≡ 0)
    → count_pairs (p + q + s) (λ i j. f i * g j) ≡ count_pairs s (λ i j. f (p + i) * g (q + j))
shift_both p q s f g h k =
    ap (λ n. count_pairs n (λ i j. f i * g j)) (add_assoc p q s)
    ∙ shift_first p (q + s) f g h ∙ shift_second q s (λ i. f (p + i)) g k

-- no product past the sum of the lengths
pub past_both : (m n s : ℕ) (f g : ℕ → ℕ) → ((i : ℕ) → m ≤ i → f i ≡ 0) → ((j : ℕ) → n ≤ j → g j ≡ 0) → m + n ≤ s
    → count_pairs s (λ i j. f i * g j) ≡ 0
past_both m n s f g h k b = no_products s f g (λ i d. elim (cases_lt i m) [
  | inl before ↦ times_nothing (f i) (g (s - i)) (k (s - i) (omega (arith, before)))
  | inr past ↦ nothing_times (f i) (g (s - i)) (h i past)
])
