-- One sum of a product of two lists: the products of the items whose places add up to s, place by place of the first.
use Rattle.dl_convolution.proofs.Common.{ℕ, suc, ◌≡◌, ◌+◌, ◌-◌, ◌*◌, ◌^◌, ◌<◌, ◌≤◌, List, length, get_or, arith, sym, ap, ◌∙◌, min, mul-le-mul, count_below, below_none, below_more, below_bound, below_pairs, ItemsFit, pair_sum, max, get_or_past, below_rest, nothing_times, times_nothing}
use Rattle.dl_convolution.proofs.Fits.{end_fits, products_fit}

-- the sum over the first n places
abbrev pub column : List ℕ → List ℕ → (s n : ℕ) → ℕ
column xs ys s n = count_below n (λ k. get_or xs k 0 * get_or ys (s - k) 0)

-- it begins where the second list ends
pub column_begins : (xs ys : List ℕ) (s n : ℕ) → n ≤ s + 1 - length ys → column xs ys s n ≡ 0
column_begins xs ys s n early =
    below_none n (λ k. get_or xs k 0 * get_or ys (s - k) 0)
    (λ k b. times_nothing (get_or xs k 0) (get_or ys (s - k) 0) (get_or_past ys (s - k) 0 (omega (arith, b, early))))

-- past the end of the first list there is none
pub column_rest : (xs ys : List ℕ) (s n m : ℕ) → n ≤ m → min (length xs) m ≤ n → column xs ys s m ≡ column xs ys s n
column_rest xs ys s n m within enough =
    below_rest n m (λ k. get_or xs k 0 * get_or ys (s - k) 0) within
    (λ k b c. nothing_times (get_or xs k 0) (get_or ys (s - k) 0) (get_or_past xs k 0 (omega (arith, enough, b, c))))

-- so it has all where the first list has ended
pub column_ends : (xs ys : List ℕ) (s n : ℕ) → n ≤ s + 1 → min (length xs) (s + 1) ≤ n
    → column xs ys s n ≡ pair_sum xs ys s
column_ends xs ys s n within enough =
    sym (column_rest xs ys s n (suc s) (omega arith) (omega (arith, enough)))
    ∙ below_pairs s (λ i j. get_or xs i 0 * get_or ys j 0)

-- past n there is none before the second list ends
pub column_cut : (xs ys : List ℕ) (s from n i : ℕ) → n ≤ i → i ≤ max n from → from ≤ s + 1 - length ys
    → column xs ys s i ≡ column xs ys s n
column_cut xs ys s from n i b within early =
    below_rest n i (λ k. get_or xs k 0 * get_or ys (s - k) 0) b
    (λ k c d. times_nothing (get_or xs k 0) (get_or ys (s - k) 0)
    (get_or_past ys (s - k) 0 (omega (arith, c, d, within, early))))

-- one product more, exactly
pub column_next : (xs ys : List ℕ) (s i total part : ℕ) → total ≡ column xs ys s i
    → part ≡ get_or xs i 0 * get_or ys (s - i) 0 → total + part ≡ column xs ys s (i + 1)
column_next xs ys s i total part e h = omega (arith, below_more i (λ k. get_or xs k 0 * get_or ys (s - k) 0), e, h)

-- with the product of the first item of the second list it has all
pub column_last : (xs ys : List ℕ) (s n total part : ℕ) → n ≤ s → min (length xs) s ≤ n → total ≡ column xs ys s n
    → part ≡ get_or xs s 0 * get_or ys 0 0 → total + part ≡ pair_sum xs ys s
column_last xs ys s n total part within enough e h =
    let first : 0 ≡ s - s = omega arith in
    column_next xs ys s s total part (e ∙ sym (column_rest xs ys s n s within enough))
    (h ∙ ap (λ j. get_or xs s 0 * get_or ys j 0) first)
    ∙ column_ends xs ys s (s + 1) (omega arith) (omega arith)

-- one product more passes no 128 bits
pub column_fits : (xs ys : List ℕ) (s i n total part : ℕ) → ItemsFit xs ys n → i < n → total ≡ column xs ys s i
    → part ≡ get_or xs i 0 * get_or ys (s - i) 0 → total + part < 2 ^ 128
column_fits xs ys s i n total part f few e h =
    let before : column xs ys s i ≤ i * (f.top * f.top) =
    below_bound i (f.top * f.top) (λ k. get_or xs k 0 * get_or ys (s - k) 0)
    (λ k inside. mul-le-mul (end_fits xs f.top f.first k) (end_fits ys f.top f.second (s - k))) in
    let here : get_or xs i 0 * get_or ys (s - i) 0 ≤ f.top * f.top =
    mul-le-mul (end_fits xs f.top f.first i) (end_fits ys f.top f.second (s - i)) in
    omega (arith, before, here, products_fit f (suc i) few, e, h)
