-- Weighted sums by running sums, in plain numbers: as y falls from q to 1, each product is in one more running sum, so
-- that the product at y is in y of them.
use Rattle.dl_shares.proofs.Common.{ℕ, zero, suc, ◌≡◌, ◌+◌, ◌-◌, ◌*◌, ◌<◌, ◌≤◌, arith, refl, sym, ap, ap₂, ◌∙◌, List, get_or, mul-le-mul_right, count_below, below_grows, below_le, below_more, below_plus, below_same, below_pairs, pairs_same, count_pairs}
use Rattle.std.proofs.Common.{add-one}

-- the sum of the first n products
abbrev pub running : (q : ℕ) (f g : ℕ → ℕ) → ℕ → ℕ
running q f g n = count_below n (λ k. f (q - k) * g k)

-- the sum of the first n such sums
abbrev pub nested : (q : ℕ) (f g : ℕ → ℕ) → ℕ → ℕ
nested q f g n = count_below n (λ k. (n - k) * (f (q - k) * g k))

nested_more : (n : ℕ) (a : ℕ → ℕ) → count_below (n + 1) (λ k. (n + 1 - k) * a k)
    ≡ count_below n (λ k. (n - k) * a k) + count_below (n + 1) a
nested_more n a =
    let each = below_same n (λ k. (n + 1 - k) * a k) (λ k. (n - k) * a k + a k) (λ k h. once_more k h) in
    let last : (n + 1 - n) * a n ≡ 1 * a n = ap (λ t. t * a n) (omega arith) in
    omega (
      arith,
      below_more n (λ k. (n + 1 - k) * a k),
      each,
      below_plus n (λ k. (n - k) * a k) a,
      below_more n a,
      last,
    )
  where
    once_more : (k : ℕ) → k < n → (n + 1 - k) * a k ≡ (n - k) * a k + a k
    once_more k h =
        let next : n + 1 - k ≡ n - k + 1 = omega arith in ap (λ t. t * a k) next ∙ omega arith

pairs_last : (n : ℕ) (f : ℕ → ℕ → ℕ) → count_pairs (suc n) f ≡ count_pairs n (λ i j. f i (suc j)) + f (suc n) zero
unfolding count_pairs
pairs_last zero f = omega arith
pairs_last (suc n) f = omega (arith, pairs_last n (λ i j. f (suc i) j))

pairs_turn : (n : ℕ) (f : ℕ → ℕ → ℕ) → count_pairs n (λ i j. f j i) ≡ count_pairs n f
unfolding count_pairs
pairs_turn zero f = refl
pairs_turn (suc n) f =
    ap (λ t. f (suc n) zero + t) (pairs_turn n (λ i j. f i (suc j)))
    ∙ swap (f (suc n) zero) (count_pairs n (λ i j. f i (suc j))) ∙ sym (pairs_last n f)
  where
    swap : (a b : ℕ) → a + b ≡ b + a
    swap a b = omega arith

-- all of them
pub all_nested : (q n sum : ℕ) (f g : ℕ → ℕ) → n ≡ q → sum ≡ nested q f g n
    → sum ≡ count_pairs q (λ y z. y * f y * g z)
all_nested q n sum f g all is =
    let each : ℕ → ℕ = λ k. (q - k) * (f (q - k) * g k) in
    let last : (q - q) * (f (q - q) * g q) ≡ 0 * (f (q - q) * g q) =
    ap (λ t. t * (f (q - q) * g q)) (omega arith) in
    let whole : count_below q each ≡ count_below (q + 1) each = omega (arith, below_more q each, last) in
    is ∙ ap (nested q f g) all ∙ whole ∙ ap (λ n. count_below n each) (add-one q)
    ∙ below_pairs q (λ z y. y * (f y * g z))
    ∙ pairs_turn q (λ y z. y * (f y * g z))
    ∙ pairs_same q _ _ (λ y z. omega arith)

nested_le : (q n : ℕ) (f g : ℕ → ℕ) → n ≤ q → nested q f g n ≤ count_pairs q (λ y z. y * f y * g z)
nested_le q n f g h =
    let each : ℕ → ℕ = λ k. (q - k) * (f (q - k) * g k) in
    let more : nested q f g n ≤ count_below n each =
    below_le n _ each (λ k b. mul-le-mul_right (f (q - k) * g k) (omega arith)) in
    omega (arith, more, below_grows n q each h, all_nested q q (count_below q each) f g refl refl)

-- one product more
pub next_nested : (q z tail sum w : ℕ) (f g : ℕ → ℕ) → z < q → tail ≡ running q f g z → sum ≡ nested q f g z
    → w ≡ f (q - z) * g z → (tail + w ≡ running q f g (z + 1)) × (sum + (tail + w) ≡ nested q f g (z + 1))
    × (sum + (tail + w) ≤ count_pairs q (λ y z. y * f y * g z))
next_nested q z tail sum w f g inside before nests is =
    let a : ℕ → ℕ = λ k. f (q - k) * g k in
    let ran : tail + w ≡ count_below (z + 1) a = omega (arith, below_more z a, before, is) in
    let grown : sum + (tail + w) ≡ nested q f g (z + 1) = omega (arith, nested_more z a, nests, ran) in
    (ran, grown, omega (arith, grown, nested_le q (z + 1) f g (omega arith)))

-- over lists with these items
pub listed : (own other : List ℕ) (f g : ℕ → ℕ) (x : ℕ) → ((y : ℕ) → get_or own y 0 ≡ f y)
    → ((z : ℕ) → get_or other z 0 ≡ g z)
    → count_pairs x (λ y z. y * get_or own y 0 * get_or other z 0) ≡ count_pairs x (λ y z. y * f y * g z)
listed own other f g x e h = pairs_same x _ _ (λ y z. ap₂ (λ s t. y * s * t) (e y) (h z))
