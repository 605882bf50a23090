-- The laws of sums.
use Rattle.dl_exact.proofs.Common.{◌≡◌, inl, inr, ℕ, suc, zero, ◌+◌, ◌-◌, ◌<◌, ◌≤◌, List, [], ◌∷◌, arith, refl, sym, ap, ap₂, subst, ◌∙◌, sub-zero, suc-sub-suc, le_ind, cases_lt, Fraction, ◌+ℚ◌, ◌*ℚ◌, ◌≤ℚ◌, whole, sum_to, sum_below, sum_pairs, sum_over, ◌++◌, map, add-suc, add-zero, fun_ext}
use Rattle.dl_exact.proofs.Laws.{ring, plus_assoc, plus_comm, plus_times, times_plus, times_zero, zero_plus, plus_zero, zero_times, whole_plus, whole_suc, le_refl, le_trans, plus_le_both, le_plus}

-- ---- sum_to

pub sum_to_same : (n : ℕ) (f g : ℕ → Fraction) → ((i : ℕ) → i ≤ n → f i ≡ g i) → sum_to n f ≡ sum_to n g
unfolding sum_to
sum_to_same zero f g h = h zero (omega arith)
sum_to_same (suc n) f g h = ap₂ (λ s t. s +ℚ t) (sum_to_same n f g (λ i b. h i (omega arith))) (h (suc n) (omega arith))

pub sum_to_plus : (n : ℕ) (f g : ℕ → Fraction) → sum_to n (λ i. f i +ℚ g i) ≡ sum_to n f +ℚ sum_to n g
unfolding sum_to
sum_to_plus zero f g = refl
sum_to_plus (suc n) f g = ap (λ t. t +ℚ (f (suc n) +ℚ g (suc n))) (sum_to_plus n f g) ∙ simp ring

pub sum_to_times : (n : ℕ) (k : Fraction) (f : ℕ → Fraction) → sum_to n (λ i. k *ℚ f i) ≡ k *ℚ sum_to n f
unfolding sum_to
sum_to_times zero k f = refl
sum_to_times (suc n) k f = ap (λ t. t +ℚ k *ℚ f (suc n)) (sum_to_times n k f) ∙ simp ring

pub sum_to_times_right : (n : ℕ) (k : Fraction) (f : ℕ → Fraction) → sum_to n (λ i. f i *ℚ k) ≡ sum_to n f *ℚ k
unfolding sum_to
sum_to_times_right zero k f = refl
sum_to_times_right (suc n) k f = ap (λ t. t +ℚ f (suc n) *ℚ k) (sum_to_times_right n k f) ∙ simp ring

pub sum_to_swap : (n m : ℕ) (f : ℕ → ℕ → Fraction)
    → sum_to n (λ i. sum_to m (λ j. f i j)) ≡ sum_to m (λ j. sum_to n (λ i. f i j))
unfolding sum_to
sum_to_swap zero m f = refl
sum_to_swap (suc n) m f = ap (λ t. t +ℚ sum_to m (λ j. f (suc n) j)) (sum_to_swap n m f) ∙ sym (sum_to_plus m _ _)

pub sum_to_product : (n m : ℕ) (f g : ℕ → Fraction)
    → sum_to n (λ i. sum_to m (λ j. f i *ℚ g j)) ≡ sum_to n f *ℚ sum_to m g
sum_to_product n m f g = simp (sum_to_times, sum_to_times_right)

-- the first item apart
pub sum_to_first : (n : ℕ) (f : ℕ → Fraction) → sum_to (suc n) f ≡ f zero +ℚ sum_to n (λ i. f (suc i))
unfolding sum_to
sum_to_first zero f = refl
sum_to_first (suc n) f = ap (λ t. t +ℚ f (suc (suc n))) (sum_to_first n f) ∙ plus_assoc _ _ _

pub sum_to_le : (n : ℕ) (f g : ℕ → Fraction) → ((i : ℕ) → i ≤ n → f i ≤ℚ g i) → sum_to n f ≤ℚ sum_to n g
unfolding sum_to
sum_to_le zero f g h = h zero (omega arith)
sum_to_le (suc n) f g h = plus_le_both _ _ _ _ (sum_to_le n f g (λ i b. h i (omega arith))) (h (suc n) (omega arith))

pub sum_to_grows : (n m : ℕ) (f : ℕ → Fraction) → n ≤ m → sum_to n f ≤ℚ sum_to m f
unfolding sum_to
sum_to_grows n m f h = le_ind (λ k. sum_to n f ≤ℚ sum_to k f) (le_refl _) (λ k _ p. le_trans _ _ _ p (le_plus _ _)) m h

-- items that at least halve from K on add up to no more than those up to K and item K once more
pub halving_bound : (w : ℕ → Fraction) (K : ℕ) → ((n : ℕ) → K ≤ n → w (suc n) +ℚ w (suc n) ≤ℚ w n)
    → (N : ℕ) → sum_to N w ≤ℚ sum_to K w +ℚ w K
unfolding sum_to
halving_bound w K h N = le_trans _ _ _ (sum_to_grows N (K + N) w (omega arith)) (le_trans _ _ _ (le_plus _ _) (falls N))
  where
    falls : (m : ℕ) → sum_to (K + m) w +ℚ w (K + m) ≤ℚ sum_to K w +ℚ w K
    falls zero = subst (λ k. sum_to k w +ℚ w k ≤ℚ sum_to K w +ℚ w K) (sym (add-zero K)) (le_refl _)
    falls (suc m) = subst (λ k. sum_to k w +ℚ w k ≤ℚ sum_to K w +ℚ w K) (sym (add-suc K m))
        (le_trans _ _ _ (subst (λ t. t ≤ℚ sum_to (K + m) w +ℚ w (K + m)) (sym (plus_assoc _ _ _))
        (plus_le_both _ _ _ _ (le_refl (sum_to (K + m) w)) (h (K + m) (omega arith)))) (falls m))

-- ---- sum_pairs

pub sum_pairs_same : (n : ℕ) (f g : ℕ → ℕ → Fraction) → ((i j : ℕ) → i + j ≡ n → f i j ≡ g i j)
    → sum_pairs n f ≡ sum_pairs n g
unfolding sum_pairs
sum_pairs_same zero f g h = h zero zero (omega arith)
sum_pairs_same (suc n) f g h = ap₂ (λ s t. s +ℚ t) (h zero (suc n) (omega arith))
    (sum_pairs_same n _ _ (λ i j e. h (suc i) j (omega arith)))

pub sum_pairs_plus : (n : ℕ) (f g : ℕ → ℕ → Fraction)
    → sum_pairs n (λ i j. f i j +ℚ g i j) ≡ sum_pairs n f +ℚ sum_pairs n g
unfolding sum_pairs
sum_pairs_plus zero f g = refl
sum_pairs_plus (suc n) f g = ap (λ t. f zero (suc n) +ℚ g zero (suc n) +ℚ t) (sum_pairs_plus n _ _) ∙ simp ring

pub sum_pairs_times : (n : ℕ) (k : Fraction) (f : ℕ → ℕ → Fraction)
    → sum_pairs n (λ i j. k *ℚ f i j) ≡ k *ℚ sum_pairs n f
unfolding sum_pairs
sum_pairs_times zero k f = refl
sum_pairs_times (suc n) k f = ap (λ t. k *ℚ f zero (suc n) +ℚ t) (sum_pairs_times n k _) ∙ simp ring

pub sum_pairs_times_right : (n : ℕ) (k : Fraction) (f : ℕ → ℕ → Fraction)
    → sum_pairs n (λ i j. f i j *ℚ k) ≡ sum_pairs n f *ℚ k
unfolding sum_pairs
sum_pairs_times_right zero k f = refl
sum_pairs_times_right (suc n) k f = ap (λ t. f zero (suc n) *ℚ k +ℚ t) (sum_pairs_times_right n k _) ∙ simp ring

-- the first pair apart
pub sum_pairs_first : (n : ℕ) (f : ℕ → ℕ → Fraction)
    → sum_pairs (suc n) f ≡ f zero (suc n) +ℚ sum_pairs n (λ i j. f (suc i) j)
unfolding sum_pairs
sum_pairs_first n f = refl

-- the last pair apart
pub sum_pairs_last : (n : ℕ) (f : ℕ → ℕ → Fraction)
    → sum_pairs (suc n) f ≡ sum_pairs n (λ i j. f i (suc j)) +ℚ f (suc n) zero
unfolding sum_pairs
sum_pairs_last zero f = refl
sum_pairs_last (suc n) f = ap (λ t. f zero (suc (suc n)) +ℚ t) (sum_pairs_last n (λ i j. f (suc i) j))
    ∙ sym (plus_assoc _ _ _)

pub sum_pairs_turn : (n : ℕ) (f : ℕ → ℕ → Fraction) → sum_pairs n (λ i j. f j i) ≡ sum_pairs n f
unfolding sum_pairs
sum_pairs_turn zero f = refl
sum_pairs_turn (suc n) f = sum_pairs_last n (λ i j. f j i)
    ∙ ap (λ t. t +ℚ f zero (suc n)) (sum_pairs_turn n (λ i j. f (suc i) j)) ∙ plus_comm _ _

-- three numbers that add up to n, taken together in two ways
pub sum_pairs_assoc : (n : ℕ) (f : ℕ → ℕ → ℕ → Fraction)
    → sum_pairs n (λ i j. sum_pairs i (λ k l. f k l j)) ≡ sum_pairs n (λ k m. sum_pairs m (λ l j. f k l j))
unfolding sum_pairs
sum_pairs_assoc zero f = refl
sum_pairs_assoc (suc n) f =
    let a : sum_pairs n (λ i j. f zero (suc i) j +ℚ sum_pairs i (λ k l. f (suc k) l j)) ≡ sum_pairs n
    (λ i j. f zero (suc i) j) +ℚ sum_pairs n (λ k m. sum_pairs m (λ l j. f (suc k) l j)) =
    sum_pairs_plus n _ _ ∙ ap (λ t. sum_pairs n (λ i j. f zero (suc i) j) +ℚ t)
    (sum_pairs_assoc n (λ k l j. f (suc k) l j)) in
    ap (λ t. f zero zero (suc n) +ℚ t) a ∙ sym (plus_assoc _ _ _)

pub sum_pairs_sum_to : (n m : ℕ) (f : ℕ → ℕ → ℕ → Fraction)
    → sum_pairs n (λ i j. sum_to m (λ k. f i j k)) ≡ sum_to m (λ k. sum_pairs n (λ i j. f i j k))
unfolding sum_pairs
sum_pairs_sum_to zero m f = refl
sum_pairs_sum_to (suc n) m f = ap (λ t. sum_to m (λ k. f zero (suc n) k) +ℚ t)
    (sum_pairs_sum_to n m (λ i j k. f (suc i) j k)) ∙ sym (sum_to_plus m _ _)

pub sum_pairs_swap : (n m : ℕ) (f : ℕ → ℕ → ℕ → ℕ → Fraction)
    → sum_pairs n (λ i j. sum_pairs m (λ k l. f i j k l)) ≡ sum_pairs m (λ k l. sum_pairs n (λ i j. f i j k l))
unfolding sum_pairs
sum_pairs_swap zero m f = refl
sum_pairs_swap (suc n) m f = ap (λ t. sum_pairs m (λ k l. f zero (suc n) k l) +ℚ t)
    (sum_pairs_swap n m (λ i j k l. f (suc i) j k l)) ∙ sym (sum_pairs_plus m _ _)

-- n + 1 times a sum over i + j = n + 1, split into i and j
pub sum_pairs_weighed : (n : ℕ) (h : ℕ → ℕ → Fraction)
    → whole (suc n) *ℚ sum_pairs (suc n) h ≡ sum_pairs n (λ i j. whole (suc i) *ℚ h (suc i) j) +ℚ sum_pairs n
    (λ i j. whole (suc j) *ℚ h i (suc j))
sum_pairs_weighed n h =
    sym (sum_pairs_times (suc n) (whole (suc n)) h)
    ∙ sum_pairs_same (suc n) _ _ (λ i j e. ap (λ t. whole t *ℚ h i j) (sym e) ∙ ap (λ t. t *ℚ h i j) (whole_plus i j)
    ∙ plus_times _ _ _)
    ∙ sum_pairs_plus (suc n) (λ i j. whole i *ℚ h i j) (λ i j. whole j *ℚ h i j)
    ∙ ap₂ (λ x y. x +ℚ y) (first n) (sum_pairs_last n (λ i j. whole j *ℚ h i j)
    ∙ ap (λ t. sum_pairs n (λ i j. whole (suc j) *ℚ h i (suc j)) +ℚ t) (zero_times _) ∙ plus_zero _)
  where
    first : (n : ℕ) → sum_pairs (suc n) (λ i j. whole i *ℚ h i j) ≡ sum_pairs n (λ i j. whole (suc i) *ℚ h (suc i) j)
    first n = sum_pairs_first n (λ i j. whole i *ℚ h i j)
        ∙ ap (λ t. t +ℚ sum_pairs n (λ i j. whole (suc i) *ℚ h (suc i) j)) (zero_times _) ∙ zero_plus _

-- ---- sums of nothing

pub sum_to_none : (n : ℕ) → sum_to n (λ i. whole 0) ≡ whole 0
unfolding sum_to
sum_to_none zero = refl
sum_to_none (suc n) = ap (λ t. t +ℚ whole 0) (sum_to_none n) ∙ plus_zero _

pub sum_to_zero : (n : ℕ) (f : ℕ → Fraction) → ((i : ℕ) → i ≤ n → f i ≡ whole 0) → sum_to n f ≡ whole 0
sum_to_zero n f h = sum_to_same n f (λ i. whole 0) h ∙ sum_to_none n

pub sum_pairs_none : (n : ℕ) → sum_pairs n (λ i j. whole 0) ≡ whole 0
unfolding sum_pairs
sum_pairs_none zero = refl
sum_pairs_none (suc n) = ap (λ t. whole 0 +ℚ t) (sum_pairs_none n) ∙ plus_zero _

-- ---- sums that stop growing

-- items that vanish from some place on can be left out
pub sum_to_longer : (n m : ℕ) (f : ℕ → Fraction) → n ≤ m → ((j : ℕ) → n < j → f j ≡ whole 0) → sum_to m f ≡ sum_to n f
unfolding sum_to
sum_to_longer n m f h z = le_ind (λ k. sum_to k f ≡ sum_to n f) refl
    (λ k b e. ap₂ (λ s t. s +ℚ t) e (z (suc k) (omega arith)) ∙ plus_zero _) m h

pub sum_to_either : (n m : ℕ) (f : ℕ → Fraction) → ((j : ℕ) → n < j → f j ≡ whole 0)
    → ((j : ℕ) → m < j → f j ≡ whole 0) → sum_to n f ≡ sum_to m f
sum_to_either n m f a b = elim (cases_lt n m) [
  | inl l ↦ sym (sum_to_longer n m f (omega arith) a)
  | inr l ↦ sum_to_longer m n f l b
]

pub item_le_sum : (n : ℕ) (f : ℕ → Fraction) → f n ≤ℚ sum_to n f
unfolding sum_to
item_le_sum zero f = le_refl _
item_le_sum (suc n) f = subst (λ t. f (suc n) ≤ℚ t) (plus_comm _ _) (le_plus _ _)

pub sum_pairs_le : (n : ℕ) (f g : ℕ → ℕ → Fraction) → ((i j : ℕ) → i + j ≡ n → f i j ≤ℚ g i j)
    → sum_pairs n f ≤ℚ sum_pairs n g
unfolding sum_pairs
sum_pairs_le zero f g h = h zero zero (omega arith)
sum_pairs_le (suc n) f g h = plus_le_both _ _ _ _ (h zero (suc n) (omega arith))
    (sum_pairs_le n _ _ (λ i j e. h (suc i) j (omega arith)))

-- ---- pairs

pub sum_to_pairs : (n : ℕ) (f : ℕ → ℕ → Fraction) → sum_to n (λ i. f i (n - i)) ≡ sum_pairs n f
unfolding sum_to sum_pairs
sum_to_pairs zero f = refl
sum_to_pairs (suc n) f =
    sum_to_first n (λ i. f i (suc n - i))
    ∙ ap₂ (λ s t. s +ℚ t) (ap (f zero) (sub-zero (suc n)))
    (sum_to_same n _ _ (λ i b. ap (f (suc i)) (suc-sub-suc n i)) ∙ sum_to_pairs n (λ i j. f (suc i) j))

-- ---- sums over a list

pub sum_over_map : {A B : Type 0} (g : A → B) (f : B → Fraction) (xs : List A)
    → sum_over (map g xs) f ≡ sum_over xs (λ x. f (g x))
unfolding sum_over
sum_over_map g f [] = refl
sum_over_map g f (x ∷ xs) = ap (λ s. f (g x) +ℚ s) (sum_over_map g f xs)

pub sum_over_same : {A : Type 0} (f g : A → Fraction) (xs : List A) → ((x : A) → f x ≡ g x)
    → sum_over xs f ≡ sum_over xs g
sum_over_same f g xs h = ap (sum_over xs) (fun_ext h)

pub sum_over_append : {A : Type 0} (f : A → Fraction) (xs ys : List A)
    → sum_over (xs ++ ys) f ≡ sum_over xs f +ℚ sum_over ys f
unfolding sum_over
sum_over_append f [] ys = sym (zero_plus _)
sum_over_append f (x ∷ xs) ys = ap (λ s. f x +ℚ s) (sum_over_append f xs ys) ∙ sym (plus_assoc _ _ _)

pub sum_over_times : {A : Type 0} (w : Fraction) (f : A → Fraction) (xs : List A)
    → sum_over xs (λ x. w *ℚ f x) ≡ w *ℚ sum_over xs f
unfolding sum_over
sum_over_times w f [] = sym (times_zero w)
sum_over_times w f (x ∷ xs) = ap (λ s. w *ℚ f x +ℚ s) (sum_over_times w f xs) ∙ sym (times_plus w (f x) (sum_over xs f))

-- ---- sum_below

pub sum_below_constant : (n : ℕ) (k : Fraction) → sum_below n (λ i. k) ≡ whole n *ℚ k
unfolding sum_below
sum_below_constant zero k = sym (zero_times k)
sum_below_constant (suc n) k =
    ap (λ t. t +ℚ k) (sum_below_constant n k) ∙ sym (ap (λ t. t *ℚ k) (whole_suc n) ∙ simp ring)
