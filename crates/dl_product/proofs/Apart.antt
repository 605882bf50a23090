-- Lists whose items lie a common step apart, and products of them.
use Rattle.dl_product.proofs.Common.{ℕ, zero, suc, ◌≡◌, ◌+◌, ◌-◌, ◌*◌, ◌/◌, ◌<◌, ◌≤◌, inl, inr, List, length, get_or, arith, sym, ap, ap₂, ◌∙◌, cases_lt, get_or_past, count_pairs, pairs_same, times_nothing, pair_sum, max, ◌%◌, add-mod_left, add-mul-mod_self_right, eq_of_mul-eq-mul_right, le_trans, lt_of_mul-lt-mul_right, mod-eq_of_lt, mod-lt, mod-add-div', mul-le-mul_right, mul-mod_left, suc-add, zero-mul, div_ceil, min, set, get_or-set_same, get_or-set_other, cases_eq, dvd_trans, dvd_of_mod-eq-zero, mod-eq-zero_of_dvd, div_ceil_times, nothing_times, AreMultiples, IsCount, LieApart, LieFrom, IsWindow}
use Prim.Native.Nat.{◌∣◌}
use Rattle.dl_product.proofs.Zeros.{before_both, no_products, past_both, shift_both, shift_first}

-- what is no multiple of a divisor is none of the number
pub off_finer : (g h i : ℕ) → g ∣ h → 0 < i % g → 0 < i % h
off_finer g h i d off = elim (cases_lt 0 (i % h)) [
  | inl b ↦ b
  | inr none ↦
      let at : g ∣ i = dvd_trans g d (dvd_of_mod-eq-zero h (omega (arith, none))) in
      absurd (omega (arith, off, mod-eq-zero_of_dvd g {n = i} at))
]

-- items that lie a step apart lie a divisor of it apart
pub finer : (g h : ℕ) (xs : List ℕ) → g ∣ h → LieApart h xs → LieApart g xs
finer g h xs d apart i off = apart i (off_finer g h i d off)

le_max : (g : ℕ) → max (suc g) 1 ≡ suc g
le_max g = omega arith

-- a step of 0 leaves the first place alone, so that 1 will do
pub some_step : (g : ℕ) (xs : List ℕ) → LieApart g xs → LieApart (max g 1) xs
some_step zero xs apart i off = absurd (omega (arith, off, mod-lt i {m = 1} (omega arith)))
some_step (suc g) xs apart i off = apart i (rw (le_max g) at off)

shifted : (d i : ℕ) → i % suc d ≡ suc (d + i) % suc d
shifted d i = sym (add-mod_left (suc d) i) ∙ ap (λ n. n % suc d) (suc-add d i)

-- the remainder of what is left past a multiple
rest_off : (g s i : ℕ) → i ≤ s → i % g ≡ 0 → (s - i) % g ≡ s % g
rest_off g s i b none =
    sym (add-mul-mod_self_right (s - i) (i / g) g) ∙ ap (λ n. n % g) (omega (arith, b, none, mod-add-div' i g))

next_multiple : (d k : ℕ) → suc k * suc d ≡ suc (d + k * suc d)
next_multiple d k = omega arith

-- the sum at a multiple of the step goes over multiples
multiples_sum : (d k : ℕ) (f h : ℕ → ℕ) → ((i : ℕ) → 0 < i % suc d → f i ≡ 0)
    → count_pairs (k * suc d) (λ i j. f i * h j) ≡ count_pairs k (λ i j. f (i * suc d) * h (j * suc d))
unfolding count_pairs
multiples_sum d zero f h apart =
    ap (λ n. count_pairs n (λ i j. f i * h j)) (zero-mul (suc d)) ∙ ap₂ (λ m n. f m * h n) (sym (zero-mul (suc d))) (sym (zero-mul (suc d)))
multiples_sum d (suc k) f h apart =
    ap (λ n. count_pairs n (λ i j. f i * h j)) (next_multiple d k)
    ∙ ap₂ (λ x y. x + y) (ap₂ (λ m n. f m * h n) (sym (zero-mul (suc d))) (sym (next_multiple d k)))
    (shift_first d (k * suc d) (λ i. f (suc i)) h
    (λ i b. apart (suc i) (omega (arith, mod-eq_of_lt {n = suc i} {m = suc d} (omega arith))))
    ∙ multiples_sum d k (λ i. f (suc (d + i))) h (λ i b. apart (suc (d + i)) (rw (← shifted d i) b))
    ∙ pairs_same k _ _ (λ i j. ap (λ n. f n * h (j * suc d)) (sym (next_multiple d i))))

-- no product at a place that is no multiple
between : (g s : ℕ) (f h : ℕ → ℕ) → ((i : ℕ) → 0 < i % g → f i ≡ 0) → ((j : ℕ) → 0 < j % g → h j ≡ 0) → 0 < s % g
    → count_pairs s (λ i j. f i * h j) ≡ 0
between g s f h first second off = no_products s f h (λ i b. elim (cases_lt 0 (i % g)) [
  | inl c ↦ nothing_times (f i) (h (s - i)) (first i c)
  | inr c ↦ times_nothing (f i) (h (s - i)) (second (s - i) (rw (rest_off g s i b (omega (arith, c))) off))
])

-- the products of items that lie a step apart lie as far apart
pub products_from : (p q d : ℕ) (f h cells others : ℕ → ℕ) → 0 < d → LieFrom p d f cells → LieFrom q d h others
    → LieFrom (p + q) d (λ k. count_pairs k (λ i j. f i * h j)) (λ s. count_pairs s (λ i j. cells i * others j))
products_from p q zero f h cells others some a b = absurd (omega (arith, some))
products_from p q (suc d) f h cells others some a b = record {
  at = λ k. pairs_same k _ _ (λ i j. ap₂ (λ x y. x * y) (a.at i) (b.at j))
      ∙ sym (multiples_sum d k (λ i. cells (p + i)) (λ j. others (q + j)) a.between)
      ∙ sym (shift_both p q (k * suc d) cells others a.before b.before);
  before = λ i inside. before_both p q i cells others a.before b.before inside;
  between = λ i off. shift_both p q i cells others a.before b.before
      ∙ between (suc d) i (λ i. cells (p + i)) (λ j. others (q + j)) a.between b.between off;
}

-- a multiple that is one of the first n / g, rounded up, is before n
pub multiple_inside : (g n k : ℕ) → 0 < g → k < div_ceil n g → k * g < n
multiple_inside g n k some b =
    omega (arith, mul-le-mul_right {m = k + 1} {n = div_ceil n g} g (omega (arith, b)), (div_ceil_times n g some).1)

-- lists of as many items have as many at the multiples
pub same_count : (n m p q k g : ℕ) → n ≡ div_ceil p g → m ≡ div_ceil q g → p ≡ k → q ≡ k → m ≡ n
same_count n m p q k g first second a b = second ∙ ap (λ t. div_ceil t g) (b ∙ sym a) ∙ sym first

pub ceil_within : (g n : ℕ) → 0 < g → div_ceil n g ≤ n
ceil_within g n some = elim (cases_lt n (div_ceil n g)) [
  | inl b ↦ absurd (omega (arith, multiple_inside g n n some b, mul-le-mul_right {m = 1} {n = g} n (omega (arith, some))))
  | inr b ↦ b
]

-- past these the multiples are past n
pub multiple_past : (g n k : ℕ) → 0 < g → div_ceil n g ≤ k → n ≤ k * g
multiple_past g n k some b = le_trans (div_ceil_times n g some).0 (mul-le-mul_right g b)

-- a multiple of the step is that many times the step
place : (g s : ℕ) → s % g ≡ 0 → s / g * g ≡ s
place g s none = omega (arith, none, mod-add-div' s g)

-- the start of a window among m / d items, rounded up, is d times so far within m
pub start_within : (d m n w : ℕ) → 0 < d → n ≡ div_ceil m d → w ≤ n - 1 → w * d ≤ m
start_within d m n w some many early = elim (cases_lt w n) [
  | inl b ↦ omega (arith, multiple_inside d m w some (omega (arith, many, b)))
  | inr none ↦
      let first : w ≡ 0 = omega (arith, early, none) in
      rw first (omega (arith, zero-mul d))
]

-- what is in a window of items that lie a step apart lies as far apart from its own start on
pub in_window : (p d w e : ℕ) (xs items : List ℕ) (cells : ℕ → ℕ) → 0 < d → IsWindow xs w e
    → ((i : ℕ) → get_or items i 0 ≡ get_or xs (w + i) 0) → LieFrom p d (λ k. get_or xs k 0) cells
    → LieFrom (p + w * d) d (λ k. get_or items k 0) cells
in_window p d w e xs items cells some window each l = record {
  at = λ k. each k ∙ l.at (w + k) ∙ ap cells (omega arith);
  before = λ i b. elim (cases_lt i p) [
    | inl c ↦ l.before i c
    | inr c ↦
        let j = i - p in
        let here : p + j ≡ i = omega (arith, c) in
        elim (cases_lt 0 (j % d)) [
          | inl off ↦ ap cells (sym here) ∙ l.between j off
          | inr none ↦
              let k = j / d in
              let whole : k * d ≡ j = place d j (omega (arith, none)) in
              ap cells (omega (arith, here, whole)) ∙ sym (l.at k)
              ∙ window.before k (lt_of_mul-lt-mul_right d (omega (arith, here, whole, b)))
        ]
  ];
  between = λ i off. ap cells (omega arith)
      ∙ l.between (i + w * d) (rw (add-mul-mod_self_right i w d) off);
}

-- items before n that lie a step apart are known from those that are written
pub all_items : (start step n : ℕ) (items out : List ℕ) (f cells : ℕ → ℕ) → LieFrom start step f cells
    → LieFrom start step (λ k. get_or items k 0) (λ s. get_or out s 0)
    → ((k : ℕ) → k < length items → get_or items k 0 ≡ f k)
    → ((k : ℕ) → length items ≤ k → start + k * step < n → f k ≡ 0) → (s : ℕ) → s < n → get_or out s 0 ≡ cells s
all_items start step n items out f cells l o each none s inside = elim (cases_lt s start) [
  | inl b ↦ o.before s b ∙ sym (l.before s b)
  | inr b ↦
      let i = s - start in
      let e : start + i ≡ s = omega (arith, b) in
      elim (cases_lt 0 (i % step)) [
        | inl off ↦ ap (λ t. get_or out t 0) (sym e) ∙ o.between i off ∙ sym (l.between i off) ∙ ap cells e
        | inr c ↦
            let k = i / step in
            let here : start + k * step ≡ s = omega (arith, e, place step i (omega (arith, c))) in
            ap (λ t. get_or out t 0) (sym here) ∙ sym (o.at k)
            ∙ elim (cases_lt k (length items)) [
              | inl d ↦ each k d
              | inr d ↦ get_or_past items k 0 d ∙ sym (none k d (omega (arith, here, inside)))
            ]
            ∙ l.at k ∙ ap cells here
      ]
]

pub count_of : (cells start step m left wanted count : ℕ) → 0 < step → left ≡ cells - start → wanted ≡ div_ceil left step
    → count ≡ min wanted m → IsCount cells start step m count
count_of cells start step m left wanted count some less up e = record {
  within = omega (arith, e, less, up, ceil_within step left some);
  inside = λ k b. omega (arith, less, multiple_inside step left k some (omega (arith, e, up, b)));
  all = λ k b c. elim (cases_lt k wanted) [
    | inl d ↦ omega (arith, e, b, d)
    | inr d ↦ absurd (omega (arith, c, less, multiple_past step left k some (omega (arith, up, d))))
  ];
}

-- the sums of products of two lists, spread out, are those of what the lists hold
pub list_sums : (p q d n m l : ℕ) (xs ys items out : List ℕ) (cells others : ℕ → ℕ) → 0 < d
    → LieFrom p d (λ k. get_or xs k 0) cells → LieFrom q d (λ k. get_or ys k 0) others
    → LieFrom (p + q) d (λ k. get_or items k 0) (λ s. get_or out s 0)
    → ((k : ℕ) → k < length items → get_or items k 0 ≡ pair_sum xs ys k) → IsCount n (p + q) d (m + l) (length items)
    → ((i : ℕ) → m ≤ i → get_or xs i 0 ≡ 0) → ((j : ℕ) → l ≤ j → get_or ys j 0 ≡ 0)
    → (s : ℕ) → s < n → get_or out s 0 ≡ count_pairs s (λ i j. cells i * others j)
list_sums p q d n m l xs ys items out cells others some a b o each count first second =
    all_items (p + q) d n items out (λ k. pair_sum xs ys k) (λ s. count_pairs s (λ i j. cells i * others j))
    (products_from p q d _ _ cells others some a b) o each
    (λ k past inside. past_both m l k (λ i. get_or xs i 0) (λ j. get_or ys j 0) first second (count.all k past inside))

-- k items written from place `start` on, g apart
pub record AreWritten (start g k : ℕ) (items out : List ℕ) : Type 0 where
  pub done : (j : ℕ) → j < k → get_or items j 0 ≡ get_or out (start + j * g) 0
  pub rest : (j : ℕ) → k ≤ j → get_or out (start + j * g) 0 ≡ 0
  pub before : (i : ℕ) → i < start → get_or out i 0 ≡ 0
  pub between : (i : ℕ) → 0 < i % g → get_or out (start + i) 0 ≡ 0

apart_places : (start g j k : ℕ) → 0 < g → start + j * g ≡ start + k * g → j ≡ k
apart_places start g j k some same = eq_of_mul-eq-mul_right g some j k (omega (arith, same))

pub one_written : (start g k : ℕ) (items out : List ℕ) → 0 < g → start + k * g < length out
    → AreWritten start g k items out → AreWritten start g (k + 1) items (set out (start + k * g) (get_or items k 0))
one_written start g k items out some inside w = record {
  done = λ j b. elim (cases_eq j k) [
    | inl e ↦ rw e (sym (get_or-set_same out (start + k * g) (get_or items k 0) 0 inside))
    | inr e ↦ w.done j (omega (arith, b, e))
        ∙ sym (get_or-set_other out (start + k * g) (start + j * g) (get_or items k 0) 0 (λ same. e (apart_places start g j k some same)))
  ];
  rest = λ j b. get_or-set_other out (start + k * g) (start + j * g) (get_or items k 0) 0
      (λ same. absurd (omega (arith, b, apart_places start g j k some same)))
      ∙ w.rest j (omega (arith, b));
  before = λ i b. get_or-set_other out (start + k * g) i (get_or items k 0) 0 (λ same. absurd (omega (arith, b, same)))
      ∙ w.before i b;
  between = λ i off. get_or-set_other out (start + k * g) (start + i) (get_or items k 0) 0
      (λ same. let e : i ≡ k * g = omega (arith, same) in
      absurd (omega (arith, off, ap (λ n. n % g) e ∙ mul-mod_left k g)))
      ∙ w.between i off;
}

-- the items at the multiples, so far
pub all_taken : (g k : ℕ) (xs items : List ℕ) → 0 < g → length items ≡ div_ceil (length xs) g → length items ≤ k
    → ((j : ℕ) → j < k → get_or items j 0 ≡ get_or xs (j * g) 0) → AreMultiples g xs items
all_taken g k xs items some long all done j = elim (cases_lt j k) [
  | inl b ↦ done j b
  | inr b ↦ get_or_past items j 0 (omega (arith, all, b))
      ∙ sym (get_or_past xs (j * g) 0 (multiple_past g (length xs) j some (omega (arith, long, all, b))))
]
