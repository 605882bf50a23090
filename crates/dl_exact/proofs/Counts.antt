-- The laws of sums of whole numbers, and of those over the pairs of places that add up to another.
use Rattle.dl_exact.proofs.Common.{ℕ, zero, suc, inl, inr, ◌≡◌, ◌+◌, ◌-◌, ◌*◌, ◌<◌, ◌≤◌, arith, refl, sym, ap, ap₂, ◌∙◌, add-one, le_ind, sub-zero, suc-sub-suc, mul-le-mul_left, cases_lt, count_below, count_pairs}
use Rattle.std.proofs.Common.{◌≢◌}
use mathlib.Core.Path.{fun_ext}
use Rattle.std.proofs.Math.Nat.{le_refl}

pub below_nothing : (f : ℕ → ℕ) → count_below 0 f ≡ 0
unfolding count_below
below_nothing f = refl

pub below_more : (n : ℕ) (f : ℕ → ℕ) → count_below (n + 1) f ≡ count_below n f + f n
unfolding count_below
below_more n f = ap (λ k. count_below k f) (add-one n)

pub below_first : (n : ℕ) (f : ℕ → ℕ) → count_below (suc n) f ≡ f zero + count_below n (λ i. f (suc i))
unfolding count_below
below_first zero f = omega arith
below_first (suc n) f = omega (arith, below_first n f)

pub below_none : (n : ℕ) (f : ℕ → ℕ) → ((i : ℕ) → i < n → f i ≡ 0) → count_below n f ≡ 0
unfolding count_below
below_none zero f h = refl
below_none (suc n) f h = omega (arith, below_none n f (λ i b. h i (omega arith)), h n (omega arith))

-- none from n on
pub below_rest : (n m : ℕ) (f : ℕ → ℕ) → n ≤ m → ((k : ℕ) → n ≤ k → k < m → f k ≡ 0)
    → count_below m f ≡ count_below n f
unfolding count_below
below_rest n zero f b h = let e : zero ≡ n = omega arith in ap (λ t. count_below t f) e
below_rest n (suc m) f b h = elim (cases_lt m n) [
  | inl c ↦ let e : suc m ≡ n = omega (arith, b, c) in ap (λ t. count_below t f) e
  | inr c ↦ omega (arith, below_rest n m f c (λ k d e. h k d (omega arith)), h m c (omega arith))
]

-- products with nothing
pub nothing_times : (x y : ℕ) → x ≡ 0 → x * y ≡ 0
nothing_times x y e = ap (λ t. t * y) e ∙ none y
  where
    none : (y : ℕ) → 0 * y ≡ 0
    none y = omega arith

pub times_nothing : (x y : ℕ) → y ≡ 0 → x * y ≡ 0
times_nothing x y e = ap (λ t. x * t) e ∙ none x
  where
    none : (x : ℕ) → x * 0 ≡ 0
    none x = omega arith

pub below_same : (n : ℕ) (f g : ℕ → ℕ) → ((i : ℕ) → i < n → f i ≡ g i) → count_below n f ≡ count_below n g
unfolding count_below
below_same zero f g h = refl
below_same (suc n) f g h = omega (arith, below_same n f g (λ i b. h i (omega arith)), h n (omega arith))

pub below_le : (n : ℕ) (f g : ℕ → ℕ) → ((i : ℕ) → i < n → f i ≤ g i) → count_below n f ≤ count_below n g
unfolding count_below
below_le zero f g h = omega arith
below_le (suc n) f g h = omega (arith, below_le n f g (λ i b. h i (omega arith)), h n (omega arith))

pub below_bound : (n m : ℕ) (f : ℕ → ℕ) → ((i : ℕ) → i < n → f i ≤ m) → count_below n f ≤ n * m
unfolding count_below
below_bound zero m f h = omega arith
below_bound (suc n) m f h = omega (arith, below_bound n m f (λ i b. h i (omega arith)), h n (omega arith))

pub below_plus : (n : ℕ) (f g : ℕ → ℕ) → count_below n (λ i. f i + g i) ≡ count_below n f + count_below n g
unfolding count_below
below_plus zero f g = refl
below_plus (suc n) f g = omega (arith, below_plus n f g)

pub below_times : (n k : ℕ) (f : ℕ → ℕ) → count_below n (λ i. f i * k) ≡ count_below n f * k
unfolding count_below
below_times zero k f = omega arith
below_times (suc n) k f = omega (arith, below_times n k f)

pub below_constant : (n k : ℕ) → count_below n (λ i. k) ≡ n * k
unfolding count_below
below_constant zero k = omega arith
below_constant (suc n) k = omega (arith, below_constant n k)

-- one loop adds up the pairs of places that add up to n
pub below_pairs : (n : ℕ) (f : ℕ → ℕ → ℕ) → count_below (suc n) (λ i. f i (n - i)) ≡ count_pairs n f
unfolding count_below count_pairs
below_pairs zero f = omega arith
below_pairs (suc n) f =
    below_first (suc n) (λ i. f i (suc n - i))
    ∙ ap₂ (λ s t. s + t) (ap (f zero) (sub-zero (suc n)))
    (ap (count_below (suc n)) (fun_ext (λ i. ap (f (suc i)) (suc-sub-suc n i))) ∙ below_pairs n (λ i j. f (suc i) j))

pub pairs_le : (n : ℕ) (f g : ℕ → ℕ → ℕ) → ((i j : ℕ) → f i j ≤ g i j) → count_pairs n f ≤ count_pairs n g
unfolding count_pairs
pairs_le zero f g h = h zero zero
pairs_le (suc n) f g h = omega (
  arith,
  h zero (suc n),
  pairs_le n (λ i j. f (suc i) j) (λ i j. g (suc i) j) (λ i j. h (suc i) j),
)

pub pairs_same : (n : ℕ) (f g : ℕ → ℕ → ℕ) → ((i j : ℕ) → f i j ≡ g i j) → count_pairs n f ≡ count_pairs n g
pairs_same n f g h = ap (count_pairs n) (fun_ext (λ i. fun_ext (λ j. h i j)))

pub pairs_plus : (n : ℕ) (f g : ℕ → ℕ → ℕ) → count_pairs n (λ i j. f i j + g i j) ≡ count_pairs n f + count_pairs n g
unfolding count_pairs
pairs_plus zero f g = refl
pairs_plus (suc n) f g = omega (arith, pairs_plus n (λ i j. f (suc i) j) (λ i j. g (suc i) j))

pub below_grows : (n m : ℕ) (f : ℕ → ℕ) → n ≤ m → count_below n f ≤ count_below m f
unfolding count_below
below_grows n m f h = le_ind (λ k. count_below n f ≤ count_below k f) (le_refl _) (λ k b p. omega (arith, p)) m h

pub pairs_none : (n : ℕ) (f : ℕ → ℕ → ℕ) → ((i k : ℕ) → f i k ≡ 0) → count_pairs n f ≡ 0
unfolding count_pairs
pairs_none zero f h = h zero zero
pairs_none (suc n) f h = omega (arith, h zero (suc n), pairs_none n (λ i k. f (suc i) k) (λ i k. h (suc i) k))

-- one i alone counts
pub pairs_only : (n j k : ℕ) (f : ℕ → ℕ → ℕ) → j + k ≡ n → ((i l : ℕ) → i ≢ j → f i l ≡ 0) → count_pairs n f ≡ f j k
unfolding count_pairs
pairs_only zero j k f e h =
    let a : j ≡ zero = omega arith in
    let b : k ≡ zero = omega arith in
    ap₂ f (sym a) (sym b)
pairs_only (suc n) zero k f e h =
    let b : suc n ≡ k = omega arith in
    let r : count_pairs n (λ i l. f (suc i) l) ≡ 0 = pairs_none n _ (λ i l. h (suc i) l (λ q. omega (arith, q))) in
    omega (arith, r, ap (f zero) b)
pairs_only (suc n) (suc j) k f e h =
    let a : f zero (suc n) ≡ 0 = h zero (suc n) (λ q. omega (arith, q)) in
    let r : count_pairs n (λ i l. f (suc i) l) ≡ f (suc j) k =
    pairs_only n j k (λ i l. f (suc i) l) (omega arith) (λ i l q. h (suc i) l (λ t. q (omega (arith, t)))) in
    omega (arith, a, r)

-- where that i is past the end, none does
pub pairs_past : (n j : ℕ) (f : ℕ → ℕ → ℕ) → n < j → ((i l : ℕ) → i ≢ j → f i l ≡ 0) → count_pairs n f ≡ 0
unfolding count_pairs
pairs_past zero j f e h = h zero zero (λ q. omega (arith, q))
pairs_past (suc n) zero f e h = absurd (omega arith)
pairs_past (suc n) (suc j) f e h =
    let a : f zero (suc n) ≡ 0 = h zero (suc n) (λ q. omega (arith, q)) in
    let r : count_pairs n (λ i l. f (suc i) l) ≡ 0 =
    pairs_past n j (λ i l. f (suc i) l) (omega arith) (λ i l q. h (suc i) l (λ t. q (omega (arith, t)))) in
    omega (arith, a, r)

-- a row of products with the first number, and a rest among the products of the later ones
row_and_rest : (f g F G row tail rest total : ℕ) → total ≡ f * g + (row + rest) → row ≡ tail * f → tail + g ≡ G
    → rest ≤ F * G → total ≤ (f + F) * G
row_and_rest f g F G row tail rest total e h k le =
    let first : f * (tail + g) ≡ f * G = ap (λ t. f * t) k in
    omega (arith, first)

-- the products of a place of f and one of g that add up to less than n are among those of the first n places of each
pub pairs_within : (n : ℕ) (f g : ℕ → ℕ)
    → count_below n (λ s. count_pairs s (λ i j. f i * g j)) ≤ count_below n f * count_below n g
unfolding count_pairs
pairs_within zero f g = omega (arith, below_nothing (λ s. count_pairs s (λ i j. f i * g j)))
pairs_within (suc n) f g =
    let rows = below_first n (λ s. count_pairs s (λ i j. f i * g j)) in
    let split = below_plus n (λ s. f zero * g (suc s)) (λ s. count_pairs s (λ i j. f (suc i) * g j)) in
    let rest : count_below n (λ s. count_pairs s (λ i j. f (suc i) * g j)) ≤ count_below n
    (λ i. f (suc i)) * count_below n g = pairs_within n (λ i. f (suc i)) g in
    let grown : count_below n (λ i. f (suc i)) * count_below n g ≤ count_below n (λ i. f (suc i)) * count_below
    (suc n) g =
    mul-le-mul_left (count_below n (λ i. f (suc i))) (below_grows n (suc n) g (omega arith)) in
    rw (below_first n f) (row_and_rest (f zero) (g zero) (count_below n (λ i. f (suc i))) (count_below (suc n) g)
    (count_below n (λ s. f zero * g (suc s))) (count_below n (λ s. g (suc s)))
    (count_below n (λ s. count_pairs s (λ i j. f (suc i) * g j)))
    (count_below (suc n) (λ s. count_pairs s (λ i j. f i * g j)))
    (omega (arith, rows, split))
    (below_same n (λ s. f zero * g (suc s)) (λ s. g (suc s) * f zero) (λ i b. omega arith)
    ∙ below_times n (f zero) (λ s. g (suc s)))
    (omega (arith, below_first n g))
    (omega (arith, rest, grown)))
