-- Sums of products of whole numbers: how large they are, and how far two of them lie apart once each is rounded.
use Rattle.dl_grid.proofs.Common.{ℕ, ◌≡◌, ◌+◌, ◌-◌, ◌*◌, ◌<◌, ◌≤◌, arith, ap, ◌∙◌, min, div_ceil, mul-le-mul, le_of_mul-le-mul_right, div_ceil_times, count_below, ◌/◌, mul-le-mul_right, div-mul-le_self, div-add-mod, mul-sub, div-le_of_le-mul, count_pairs}
use Rattle.dl_iv.proofs.Rounding.{ceiling_reaches, floor_le_ceiling}
use Rattle.dl_exact.proofs.Counts.{below_more, below_le, below_plus, below_times, below_constant, pairs_same, pairs_plus, pairs_within}

-- the products at places that add up to s, of numbers that add up to at most one each
pub pairs_top : (s one : ℕ) (a b : ℕ → ℕ) → count_below (s + 1) a ≤ one → count_below (s + 1) b ≤ one
    → count_pairs s (λ i j. a i * b j) ≤ one * one
pairs_top s one a b p q =
    let here = below_more s (λ s. count_pairs s (λ i j. a i * b j)) in
    let all : count_below (s + 1) (λ s. count_pairs s (λ i j. a i * b j)) ≤ count_below (s + 1) a * count_below
    (s + 1) b = pairs_within (s + 1) a b in
    omega (arith, here, all, mul-le-mul p q)

-- of numbers that add up to at most one and at most so many: rounded down, they add up to no more
pub floors_within : (n one most : ℕ) (a b : ℕ → ℕ) → 0 < one → count_below n a ≤ one → count_below n b ≤ most
    → count_below n (λ s. count_pairs s (λ i j. a i * b j) / one) ≤ most
floors_within n one most a b pos p q =
    let scaled : count_below n (λ s. count_pairs s (λ i j. a i * b j) / one * one) ≤ count_below n
    (λ s. count_pairs s (λ i j. a i * b j)) =
    below_le n _ _ (λ s b. div-mul-le_self _ one) in
    let all : count_below n (λ s. count_pairs s (λ i j. a i * b j)) ≤ count_below n a * count_below n b =
    pairs_within n a b in
    let times = below_times n one (λ s. count_pairs s (λ i j. a i * b j) / one) in
    le_of_mul-le-mul_right {k = one} (omega (arith, scaled, all, times, mul-le-mul p q)) pos

-- a floor is at most a ceiling of more, also where that is lowered to one
pub rounded_order : (one low high : ℕ) → 0 < one → low ≤ high → low ≤ one * one
    → low / one ≤ min one (div_ceil high one)
rounded_order one low high pos h top =
    omega (arith, div-le_of_le-mul one top, floor_le_ceiling low high one one pos (omega arith) h)

-- what the products of the high ends at places that add up to s are above those of the low ends a and b, where c and d
-- are the widths
unfoldable pub products_apart : (ℕ → ℕ) → (ℕ → ℕ) → (ℕ → ℕ) → (ℕ → ℕ) → ℕ → ℕ
products_apart a c b d s = count_pairs s (λ i j. a i * d j) +
    (count_pairs s (λ i j. c i * b j) + count_pairs s (λ i j. c i * d j))

pub pairs_apart : (s : ℕ) (a c b d : ℕ → ℕ) → count_pairs s (λ i j. (a i + c i) * (b j + d j))
    ≡ count_pairs s (λ i j. a i * b j) + products_apart a c b d s
unfolding products_apart
pairs_apart s a c b d =
    pairs_same s (λ i j. (a i + c i) * (b j + d j)) (λ i j. a i * b j + (a i * d j + (c i * b j + c i * d j)))
    (λ i j. omega arith)
    ∙ pairs_plus s (λ i j. a i * b j) (λ i j. a i * d j + (c i * b j + c i * d j))
    ∙ ap (λ t. count_pairs s (λ i j. a i * b j) + t) (
    pairs_plus s (λ i j. a i * d j) (λ i j. c i * b j + c i * d j)
    ∙ ap (λ t. count_pairs s (λ i j. a i * d j) + t) (pairs_plus s (λ i j. c i * b j) (λ i j. c i * d j))
    )

-- over the first n places: low ends of at most one in all, widths of at most x and y in all
apart_total : (n one x y : ℕ) (a c b d : ℕ → ℕ) → count_below n a ≤ one → count_below n c ≤ x → count_below n b ≤ one
    → count_below n d ≤ y
    → count_below n (products_apart a c b d) ≤ one * y + (x * one + x * y)
unfolding products_apart
apart_total n one x y a c b d p q r t =
    let first : count_below n (λ s. count_pairs s (λ i j. a i * d j)) ≤ count_below n a * count_below n d =
    pairs_within n a d in
    let second : count_below n (λ s. count_pairs s (λ i j. c i * b j)) ≤ count_below n c * count_below n b =
    pairs_within n c b in
    let third : count_below n (λ s. count_pairs s (λ i j. c i * d j)) ≤ count_below n c * count_below n d =
    pairs_within n c d in
    let split = below_plus n (λ s. count_pairs s (λ i j. a i * d j))
    (λ s. count_pairs s (λ i j. c i * b j) + count_pairs s (λ i j. c i * d j)) in
    let rest = below_plus n (λ s. count_pairs s (λ i j. c i * b j)) (λ s. count_pairs s (λ i j. c i * d j)) in
    let one_y : count_below n a * count_below n d ≤ one * y = mul-le-mul p t in
    let x_one : count_below n c * count_below n b ≤ x * one = mul-le-mul q r in
    let x_y : count_below n c * count_below n d ≤ x * y = mul-le-mul q t in
    omega (arith, first, second, third, split, rest, one_y, x_one, x_y)

-- one floor and one ceiling lie at most two units further apart than what they round
rounded_width : (one low more : ℕ) → 0 < one → (min one (div_ceil (low + more) one) - low / one) * one ≤ more + 2 * one
rounded_width one low more pos =
    let above = (div_ceil_times (low + more) one pos).1 in
    let below = div-add-mod low one in
    let lowered : (min one (div_ceil (low + more) one) - low / one) * one ≤
    (div_ceil (low + more) one - low / one) * one = mul-le-mul_right one (omega arith) in
    let taken = mul-sub one (div_ceil (low + more) one) (low / one) in
    omega (arith, above, below, lowered, taken)

-- what an end in each place comes to, multiplied by one, divided by it
without_one : (one w x y k : ℕ) → 0 < one → w * one ≤ one * y + (x * one + x * y) + k * one
    → w ≤ x + y + div_ceil (x * y) one + k
without_one one w x y k pos h = le_of_mul-le-mul_right {k = one} (omega (arith, h, ceiling_reaches (x * y) one pos)) pos

-- the widths of the convolution add up to at most what the width rule says
pub rounded_spread_le : (n one x y : ℕ) (a c b d : ℕ → ℕ) → 0 < one
    → count_below n a ≤ one → count_below n c ≤ x → count_below n b ≤ one → count_below n d ≤ y
    → count_below n (λ s. min one (div_ceil (count_pairs s (λ i j. (a i + c i) * (b j + d j))) one) - count_pairs s
    (λ i j. a i * b j) / one)
    ≤ x + y + div_ceil (x * y) one + 2 * n
rounded_spread_le n one x y a c b d pos p q r t =
    let w : ℕ → ℕ = λ s. min one (div_ceil (count_pairs s (λ i j. (a i + c i) * (b j + d j))) one) - count_pairs s
    (λ i j. a i * b j) / one in
    let each : count_below n (λ s. w s * one) ≤ count_below n (λ s. products_apart a c b d s + 2 * one) =
    below_le n (λ s. w s * one) (λ s. products_apart a c b d s + 2 * one)
    (λ s inside. rw (pairs_apart s a c b d) (rounded_width one (count_pairs s (λ i j. a i * b j))
    (products_apart a c b d s) pos)) in
    let split = below_plus n (products_apart a c b d) (λ s. 2 * one) in
    let whole = apart_total n one x y a c b d p q r t in
    without_one one (count_below n w) x y (2 * n) pos
    (omega (arith, each, split, whole, below_times n one w, below_constant n (2 * one)))
