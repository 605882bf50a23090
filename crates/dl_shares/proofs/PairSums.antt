-- Sums of y * f y * g z over all y + z up to q, in plain numbers: one walk over them, how large they are, and how far
-- apart two of them lie once rounded.
use Rattle.dl_shares.proofs.Common.{List, get_or, more, ℕ, zero, suc, ◌≡◌, ◌+◌, ◌-◌, ◌*◌, ◌/◌, ◌<◌, ◌≤◌, arith, refl, sym, ap, ◌∙◌, add-one, div_ceil, mul-le-mul, le_trans, count_pairs, count_below, below_first, below_grows, below_same, below_plus, below_times, pairs_same, pairs_plus, pairs_within, sums_of, weighted_to}
use Rattle.dl_shares.proofs.Nested.{running, nested, next_nested, all_nested, listed}
use Rattle.dl_shares.proofs.WeightedSums.{weighted_under, rounded, divided, enough}

-- ---- pairs

one_pair : (a : ℕ) (f g : ℕ → ℕ) → f zero ≡ a * g zero → count_below 1 f ≡ a * count_below 1 g
unfolding count_below
one_pair a f g e = omega arith

-- over all totals up to q: the sum of g up to what the first place leaves
pub all_pairs : (q : ℕ) (a g : ℕ → ℕ) → count_below (suc q) (λ x. count_pairs x (λ y z. a y * g z))
    ≡ count_pairs q (λ y z. a y * count_below (suc z) g)
unfolding count_pairs
all_pairs zero a g = one_pair (a zero) (λ x. count_pairs x (λ y z. a y * g z)) g refl
all_pairs (suc q) a g =
    let G = count_below (suc (suc q)) g in
    let rows = below_first (suc q) (λ x. count_pairs x (λ y z. a y * g z)) in
    let split = below_plus (suc q) (λ x. a zero * g (suc x)) (λ x. count_pairs x (λ y z. a (suc y) * g z)) in
    let head : count_below (suc q) (λ x. a zero * g (suc x)) ≡ count_below (suc q) (λ x. g (suc x)) * a zero =
    below_same (suc q) (λ x. a zero * g (suc x)) (λ x. g (suc x) * a zero) (λ i b. omega arith)
    ∙ below_times (suc q) (a zero) (λ x. g (suc x)) in
    let all = ap (λ t. a zero * t) (below_first (suc q) g) in
    omega (arith, all_pairs q (λ y. a (suc y)) g)

-- ---- a walk, as the others' part of the total grows

pub next_to : (q z end other tail sum w : ℕ) (f g : ℕ → ℕ) → z < q → end ≡ count_below z g → other ≡ g z
    → tail ≡ running q f (sums_of g) z → sum ≡ nested q f (sums_of g) z → w ≡ f (q - z) * (end + other)
    → (tail + w ≡ running q f (sums_of g) (z + 1)) × (sum + (tail + w) ≡ nested q f (sums_of g) (z + 1))
    × (sum + (tail + w) ≤ weighted_to f g q)
next_to q z end other tail sum w f g inside before here ran nests is =
    let step = next_nested q z tail sum w f (sums_of g) inside ran nests
    (is ∙ ap (λ t. f (q - z) * t) (more g z end other before here)) in
    (step.0, step.1, omega (arith, step.2, all_pairs q (λ y. y * f y) g))

pub all_places : (q n sum : ℕ) (f g : ℕ → ℕ) → n ≡ q → sum ≡ nested q f (sums_of g) n → sum ≡ weighted_to f g q
all_places q n sum f g all is = all_nested q n sum f (sums_of g) all is ∙ sym (all_pairs q (λ y. y * f y) g)

-- a running sum is at most the last
pub end_within : (q z end other : ℕ) (g : ℕ → ℕ) → z < q → end ≡ count_below z g → other ≡ g z
    → end + other ≤ count_below q g
end_within q z end other g inside before here =
    omega (arith, more g z end other before here, below_grows (suc z) q g (omega arith))

-- over lists with these items
pub listed_to : (own other : List ℕ) (f g : ℕ → ℕ) (q : ℕ) → ((y : ℕ) → get_or own y 0 ≡ f y)
    → ((z : ℕ) → get_or other z 0 ≡ g z)
    → weighted_to (λ y. get_or own y 0) (λ z. get_or other z 0) q ≡ weighted_to f g q
listed_to own other f g q e h = below_same (suc q) _ _ (λ x b. listed own other f g x e h)

-- ---- how large it is

pub sums_top : (q p r : ℕ) (f g : ℕ → ℕ) → count_below (q + 1) f ≤ p → count_below (q + 1) g ≤ r
    → count_below (suc q) (λ x. count_pairs x (λ y z. y * f y * g z)) ≤ q * p * r
sums_top q p r f g h k =
    le_trans (pairs_within (suc q) (λ y. y * f y) g)
    (mul-le-mul
    (omega (arith, ap (λ k. count_below k (λ y. y * f y)) (add-one q), weighted_under q p f h))
    (omega (arith, ap (λ k. count_below k g) (add-one q))))

-- ---- the width

sums_apart : (q : ℕ) (a c b d : ℕ → ℕ)
    → count_below (suc q) (λ x. count_pairs x (λ y z. y * (a y + c y) * (b z + d z)))
    ≡ count_below (suc q) (λ x. count_pairs x (λ y z. y * a y * b z))
    + (count_below (suc q) (λ x. count_pairs x (λ y z. y * a y * d z))
    + (count_below (suc q) (λ x. count_pairs x (λ y z. y * c y * b z))
    + count_below (suc q) (λ x. count_pairs x (λ y z. y * c y * d z))))
sums_apart q a c b d =
    let pairs = λ (f g : ℕ → ℕ) (x : ℕ). count_pairs x (λ y z. y * f y * g z) in
    below_same (suc q) (pairs (λ y. a y + c y) (λ z. b z + d z))
    (λ x. pairs a b x + (pairs a d x + (pairs c b x + pairs c d x))) (λ x h.
    pairs_same x (λ y z. y * (a y + c y) * (b z + d z))
    (λ y z. y * a y * b z + (y * a y * d z + (y * c y * b z + y * c y * d z))) (λ y z. omega arith)
    ∙ pairs_plus x (λ y z. y * a y * b z) (λ y z. y * a y * d z + (y * c y * b z + y * c y * d z))
    ∙ ap (λ t. pairs a b x + t) (pairs_plus x (λ y z. y * a y * d z) (λ y z. y * c y * b z + y * c y * d z)
    ∙ ap (λ t. pairs a d x + t) (pairs_plus x (λ y z. y * c y * b z) (λ y z. y * c y * d z))))
    ∙ below_plus (suc q) (pairs a b) (λ x. pairs a d x + (pairs c b x + pairs c d x))
    ∙ ap (λ t. count_below (suc q) (pairs a b) + t) (below_plus (suc q) (pairs a d) (λ x. pairs c b x + pairs c d x)
    ∙ ap (λ t. count_below (suc q) (pairs a d) + t) (below_plus (suc q) (pairs c b) (pairs c d)))

pub sums_width : (q n one v w : ℕ) (a c b d : ℕ → ℕ) → q < n → 0 < one
    → count_below (q + 1) a ≤ one → count_below (q + 1) c ≤ v → count_below (q + 1) b ≤ one → count_below (q + 1) d ≤ w
    → div_ceil (count_below (suc q) (λ x. count_pairs x (λ y z. y * (a y + c y) * (b z + d z)))) one
    - count_below (suc q) (λ x. count_pairs x (λ y z. y * a y * b z)) / one
    ≤ n * (v + w + div_ceil (v * w) one + 2 * n)
sums_width q n one v w a c b d inside pos h i j k =
    let sum = λ (f g : ℕ → ℕ). count_below (suc q) (λ x. count_pairs x (λ y z. y * f y * g z)) in
    let low = sum a b in
    let more = sum a d + (sum c b + sum c d) in
    let parts : sum (λ y. a y + c y) (λ z. b z + d z) ≡ low + more = sums_apart q a c b d in
    let top : more ≤ q * (one * w + (v * one + v * w)) =
    omega (arith, sums_top q one w a d h k, sums_top q v one c b i j, sums_top q v w c d i k) in
    let near : div_ceil (low + more) one * one ≤ (low / one + 2) * one + more = rounded one low more pos in
    let whole = divided q one v w more (low / one + 2) (div_ceil (low + more) one) pos near top in
    rw parts (omega (arith, enough q n (v + w + div_ceil (v * w) one) inside))
