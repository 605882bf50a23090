-- Sums of products of lists, behind the items of which all others are alike.
use Rattle.dl_product.proofs.Common.{ℕ, zero, suc, ◌≡◌, ◌+◌, ◌-◌, ◌*◌, ◌<◌, ◌≤◌, List, [], ◌∷◌, length, get_or, arith, refl, sym, ap, ap₂, ◌∙◌, get_or_past, count_pairs, pairs_same, times_nothing, pair_sum, ◌≢◌, ◌^◌, mul-le-mul_right, count_below, below_more, below_nothing, below_pairs, below_same, below_times, pairs_none, Iv, ends_fit, sum_fits, low_at, high_at, high_ends, ends_of_grid, high_at_ends, Head, IsHead}

no_more : (f : ℕ → ℕ → ℕ) → count_pairs zero f ≡ f zero zero
unfolding count_pairs
no_more f = refl

-- the last pair of places by itself
last_pair : (n : ℕ) (f : ℕ → ℕ → ℕ)
    → count_pairs (suc n) f ≡ count_pairs n (λ i j. f i (suc j)) + f (suc n) zero
unfolding count_pairs
last_pair zero f = refl
last_pair (suc n) f = omega (arith, last_pair n (λ i j. f (suc i) j))

-- the products of two functions in either order
pairs_turned : (n : ℕ) (f g : ℕ → ℕ) → count_pairs n (λ i j. f i * g j) ≡ count_pairs n (λ i j. g i * f j)
unfolding count_pairs
pairs_turned zero f g = omega arith
pairs_turned (suc n) f g = omega (arith, last_pair n (λ i j. f i * g j), pairs_turned n f (λ j. g (suc j)))

all_alike : (s r : ℕ) (f : ℕ → ℕ) → count_pairs s (λ i j. f i * r) ≡ r * count_below (suc s) f
all_alike s r f = omega (arith, below_pairs s (λ i j. f i * r), below_times (suc s) r f)

-- the products with the items of a list, and those with what is behind them
second_behind : (ys : List ℕ) (r s : ℕ) (f : ℕ → ℕ) → count_pairs s (λ i j. f i * get_or ys j r)
    ≡ count_pairs s (λ i j. f i * get_or ys j 0) + r * count_below (s + 1 - length ys) f
second_behind [] r s f =
    let many : s + 1 - 0 ≡ suc s = omega arith in
    omega (
      arith,
      pairs_same s _ _ (λ i j. ap (λ t. f i * t) (get_or_past [] j r (omega arith))),
      all_alike s r f,
      pairs_none s (λ i j. f i * get_or [] j 0) (λ i j. times_nothing (f i) _ (get_or_past [] j 0 (omega arith))),
      ap (λ n. r * count_below n f) many,
    )
second_behind (y ∷ ys) r zero f =
    let none : 0 + 1 - length (y ∷ ys) ≡ 0 = omega arith in
    omega (
      arith,
      no_more (λ i j. f i * get_or (y ∷ ys) j r),
      no_more (λ i j. f i * get_or (y ∷ ys) j 0),
      times_nothing r _ (ap (λ n. count_below n f) none ∙ below_nothing f),
    )
second_behind (y ∷ ys) r (suc s) f =
    let many : suc s + 1 - length (y ∷ ys) ≡ s + 1 - length ys = omega arith in
    omega (
      arith,
      last_pair s (λ i j. f i * get_or (y ∷ ys) j r),
      last_pair s (λ i j. f i * get_or (y ∷ ys) j 0),
      second_behind ys r s f,
      ap (λ n. r * count_below n f) many,
    )

first_behind : (xs : List ℕ) (r s : ℕ) (f : ℕ → ℕ) → count_pairs s (λ i j. get_or xs i r * f j)
    ≡ count_pairs s (λ i j. get_or xs i 0 * f j) + r * count_below (s + 1 - length xs) f
first_behind xs r s f =
    pairs_turned s (λ i. get_or xs i r) f ∙ second_behind xs r s f
    ∙ ap (λ t. t + r * count_below (s + 1 - length xs) f) (pairs_turned s f (λ j. get_or xs j 0))

-- a sum over pairs of places asks for those up to its own alone
pairs_up_to : (s : ℕ) (f g h k : ℕ → ℕ) → ((i : ℕ) → i ≤ s → f i ≡ g i) → ((j : ℕ) → j ≤ s → h j ≡ k j)
    → count_pairs s (λ i j. f i * h j) ≡ count_pairs s (λ i j. g i * k j)
pairs_up_to s f g h k first second =
    sym (below_pairs s (λ i j. f i * h j))
    ∙ below_same (suc s) _ _ (λ i b. ap₂ (λ x y. x * y) (first i (omega (arith, b))) (second (s - i) (omega arith)))
    ∙ below_pairs s (λ i j. g i * k j)

module _ {B : ℕ} (g h : List (Iv B)) (n : ℕ) (one other : Head) (is : IsHead n g one) (are : IsHead n h other) where
  -- the products of the low ends of two grids are those of their heads
  pub low_products : (s : ℕ) → s < n
      → pair_sum one.lows.now other.lows.now s ≡ count_pairs s (λ i j. low_at g i * low_at h j)
  low_products s b =
      pairs_up_to s _ _ _ _ (λ i c. is.low i (omega (arith, b, c))) (λ j c. are.low j (omega (arith, b, c)))

  -- those of the high ends are those of their heads, and those with the ends behind them
  pub high_products : (ys : List ℕ) → ((x : ℕ) → get_or ys x 0 ≡ high_at h x) → (s : ℕ) → s < n
      → count_pairs s (λ i j. high_at g i * high_at h j) ≡ pair_sum one.highs.now other.highs.now s
      + one.rest * count_below (s + 1 - length one.highs.now) (λ k. get_or ys k 0)
      + other.rest * count_below (s + 1 - length other.highs.now) (λ k. get_or one.highs.now k 0)
  high_products ys each s b =
      let here = s + 1 - length one.highs.now in
      omega (
        arith,
        pairs_up_to s _ _ _ _ (λ i c. is.high i (omega (arith, b, c))) (λ j c. are.high j (omega (arith, b, c))),
        first_behind one.highs.now one.rest s (λ j. get_or other.highs.now j other.rest),
        second_behind other.highs.now other.rest s (λ i. get_or one.highs.now i 0),
        ap (λ t. one.rest * t) (below_same here (λ k. get_or other.highs.now k other.rest) (λ k. get_or ys k 0)
            (λ k c. are.high k (omega (arith, b, c)) ∙ sym (each k))),
      )

  pub high_fits : 1 ≤ n → n ≤ length g → (s : ℕ) → s < n
      → count_pairs s (λ i j. high_at g i * high_at h j) ≤ 2 ^ 126
  high_fits some within s b =
      let fit = ends_fit g (high_ends g) (high_ends h) n is.grid some within (ends_of_grid g is.grid).small
      (ends_of_grid h are.grid).small in
      omega (
        arith,
        pairs_same s _ _ (λ i j. ap₂ (λ x y. x * y) (high_at_ends g i) (high_at_ends h j)),
        sum_fits s fit b,
      )

-- a running sum with the next item
pub next_sum : (from s sum item : ℕ) (f : ℕ → ℕ) → from ≤ s → sum ≡ count_below (s - from) f → item ≡ f (s - from)
    → sum + item ≡ count_below (s + 1 - from) f
next_sum from s sum item f b so_far next =
    let many : s - from + 1 ≡ s + 1 - from = omega (arith, b) in
    ap₂ (λ x y. x + y) so_far next ∙ sym (below_more (s - from) f) ∙ ap (λ n. count_below n f) many

-- what is added at a place has room there
pub next_fits : (rest from s sum item here old bound : ℕ) (f : ℕ → ℕ) → from ≤ s → sum ≡ count_below (s - from) f
    → item ≡ f (s - from) → here ≡ old → old + rest * count_below (s + 1 - from) f < bound
    → here + rest * (sum + item) < bound
next_fits rest from s sum item here old bound f b so_far next same room =
    omega (arith, ap (λ t. rest * t) (next_sum from s sum item f b so_far next), same, room)

-- before the place from which it is added up it is 0
pub none_yet : (s from : ℕ) (f : ℕ → ℕ) → s ≤ from → count_below (s - from) f ≡ 0
none_yet s from f b =
    let none : s - from ≡ 0 = omega (arith, b) in
    ap (λ n. count_below n f) none ∙ below_nothing f

pub factor_fits : (rest sum others bound : ℕ) → rest ≢ 0 → others + rest * sum < bound → sum < bound
factor_fits rest sum others bound some b = omega (arith, mul-le-mul_right {m = 1} {n = rest} sum (omega (arith, some)), b)
