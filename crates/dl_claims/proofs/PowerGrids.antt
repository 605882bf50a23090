-- Grids of the powers of a severity: that of no claim, the next one, and those of what a grid's own low ends are.
use Rattle.dl_claims.proofs.Common.{ℕ, zero, suc, ◌≡◌, ◌+◌, ◌*◌, ◌/◌, ◌^◌, ◌<◌, ◌≤◌, List, [], ◌∷◌, ◌++◌, length, get_or, arith, sym, ap, subst, inl, inr, ◌∙◌, min, All, div_ceil, get_or-append_seam, mul-le-mul_right, cases_lt, get_or_append_left, get_or_default, pow_pos, Fraction, whole, ◌over◌, ◌≤ℚ◌, over_le, over_same, one_pos, le_refl, le_trans, le_of_eq, Iv, low_at, high_at, mass_low, all_at_zero, count_pairs, low_le_high, low_within, convolve, at_zero, power, IsWithinOne, power_within_one, power_plus, item_le_sum, Between, AreBetween, ArePowers, length-append, to_over, All-push}
use Rattle.dl_claims.proofs.BlockEnds.{product_between}

-- a grid's own low ends are probabilities that it holds
abbrev pub own : {B : ℕ} → List (Iv B) → ℕ → Fraction
own {B} base x = low_at base x over 2 ^ B

pub own_within : {B : ℕ} (base : List (Iv B)) → mass_low base ≤ 2 ^ B → IsWithinOne (own base)
own_within {B} base mass n =
    rw (to_over n (2 ^ B) (low_at base) (pow_pos B))
    (over_le _ _ _ _ (pow_pos B) one_pos (omega (arith, low_within (suc n) base)))

pub own_between : {B : ℕ} (base : List (Iv B)) (K : ℕ) → Between K base (own base)
own_between {B} base K = record {
  low = λ s inside. le_refl _;
  high = λ s inside. over_le _ _ _ _ (pow_pos B) (pow_pos B) (mul-le-mul_right (2 ^ B) (low_le_high base s));
}

-- the grid at a place
pub grid_at : {B : ℕ} (K n : ℕ) (c : ℕ → ℕ → Fraction) (grids : List (List (Iv B))) (g : List (Iv B))
    → n < length grids → g ≡ get_or grids n g → AreBetween K c grids → Between K g (c n)
grid_at K n c grids g inside is of_c = rw (get_or_default grids n [] g inside ∙ sym is) at (of_c n inside)

pub more_between : {B : ℕ} (K n : ℕ) (c : ℕ → ℕ → Fraction) (xs ys : List (List (Iv B))) (g : List (Iv B))
    → ys ≡ xs ++ g ∷ [] → length xs ≡ n → AreBetween K c xs → Between K g (c n) → AreBetween K c ys
more_between {B} K n c xs ys g e many before here i inside = elim (cases_lt i n) [
  | inl less ↦ rw (e, get_or_append_left xs (g ∷ []) [] i (omega (arith, many, less)))
      (before i (omega (arith, many, less)))
  | inr past ↦
      let at : n ≡ i = omega (arith, past, inside, ap length e, length-append xs (g ∷ []), many) in
      rw (e, ← at, ← many, get_or-append_seam xs g [] [], many) here
]

-- no claim
pub no_claim : {B : ℕ} (g : List (Iv B)) (K : ℕ) (f : ℕ → Fraction) → ((x : ℕ) → low_at g x ≡ all_at_zero (2 ^ B) x)
    → ((x : ℕ) → high_at g x ≡ all_at_zero (2 ^ B) x)
    → Between K g (power f 0)
unfolding power all_at_zero at_zero
no_claim {B} g K f low high = record {
  low = λ s inside. rw (low s) (le_of_eq _ _ (surely s));
  high = λ s inside. rw (high s) (le_of_eq _ _ (sym (surely s)));
}
  where
    surely : (s : ℕ) → all_at_zero (2 ^ B) s over 2 ^ B ≡ at_zero s
    surely zero = over_same _ _ 1 1 (pow_pos B) one_pos (omega arith)
    surely (suc s) = over_same _ _ 0 1 (pow_pos B) one_pos (omega arith)

-- the product of two powers
pub joined_powers : {B : ℕ} (a b g : List (Iv B)) (K m n k : ℕ) (f : ℕ → Fraction) → m + n ≡ k → IsWithinOne f
    → ((s : ℕ) → s < K → low_at g s ≡ count_pairs s (λ i j. low_at a i * low_at b j) / 2 ^ B)
    → ((s : ℕ) → s < K → high_at g s ≡ min (2 ^ B)
    (div_ceil (count_pairs s (λ i j. high_at a i * high_at b j)) (2 ^ B)))
    → Between K a (power f m) → Between K b (power f n) → Between K g (power f k)
joined_powers {B} a b g K m n k f sum q low high of_a of_b =
    let same : convolve (power f m) (power f n) ≡ power f k = sym (power_plus f m n) ∙ ap (power f) sum in
    rw (← same)
    (product_between (2 ^ B) (pow_pos B) K (low_at a) (high_at a) (low_at b) (high_at b) (low_at g) (high_at g)
    (power f m) (power f n) of_a of_b
    (λ s. subst (λ c. c s ≤ℚ whole 1) (sym same) (le_trans _ _ _ (item_le_sum s (power f k)) (power_within_one f q k s))) low high)

-- lists of grids as a loop makes them
pub none_between : {B : ℕ} (K : ℕ) (c : ℕ → ℕ → Fraction) (grids : List (List (Iv B))) → grids ≡ []
    → AreBetween K c grids
none_between K c grids e n inside = absurd (omega (arith, inside, ap length e))

pub no_grids : {B : ℕ} (grids : List (List (Iv B))) (K : ℕ) → grids ≡ [] → All (λ t. length t ≤ K) grids
no_grids grids K e n d inside = absurd (omega (arith, inside, ap length e))

pub all_more : {B : ℕ} (xs ys : List (List (Iv B))) (g : List (Iv B)) (K : ℕ) → ys ≡ xs ++ g ∷ []
    → All (λ t. length t ≤ K) xs → length g ≤ K → All (λ t. length t ≤ K) ys
all_more xs ys g K e before here = subst (All (λ t. length t ≤ K)) (sym e)
    (All-push (λ t. length t ≤ K) xs g before here)

-- so many grids, each of at most K cells
pub record AreShort {B : ℕ} (K n : ℕ) (grids : List (List (Iv B))) : Type 0 where
  pub many : length grids ≡ n
  pub few : All (λ t. length t ≤ K) grids

pub none_short : {B : ℕ} (grids : List (List (Iv B))) (K : ℕ) → grids ≡ [] → AreShort K 0 grids
none_short grids K e = record { many = ap length e; few = no_grids grids K e }

pub one_more_short : {B : ℕ} (xs ys : List (List (Iv B))) (g : List (Iv B)) (K n : ℕ) → ys ≡ xs ++ g ∷ []
    → AreShort K n xs → length g ≤ K → AreShort K (n + 1) ys
one_more_short xs ys g K n e before here = record {
  many = omega (arith, ap length e, length-append xs (g ∷ []), before.many);
  few = all_more xs ys g K e before.few here;
}

pub few_in : {B : ℕ} {xs ys : List (List (Iv B))} {K : ℕ} → xs ≡ ys → All (λ t. length t ≤ K) ys
    → All (λ t. length t ≤ K) xs
few_in {K = K} e = subst (All (λ t. length t ≤ K)) (sym e)

pub next_at : {B : ℕ} (K : ℕ) (f : ℕ → Fraction) (xs ys : List (List (Iv B))) (g : List (Iv B)) → xs ≡ ys
    → (ArePowers K f xs → Between K g (power f (length xs)))
    → ArePowers K f ys → Between K g (power f (length ys))
next_at K f xs ys g e = rw e (λ next. next)
