-- The ends of the cells of a grid, and the convolution's rounding read as the grid's own facts.
use Rattle.dl_convolution.proofs.Common.{ℕ, suc, ◌≡◌, ◌+◌, ◌-◌, ◌*◌, ◌/◌, ◌^◌, ◌<◌, ◌≤◌, List, [], ◌∷◌, length, arith, refl, ap, ap₂, inl, inr, ◌∙◌, get_or, All, min, div_ceil, mul-le-mul, mul-le-mul_right, get_or-eq_default, pow_pos, cases_lt, get_or_default_zero, count_pairs, count_below, size_of, below_bound, below_same, below_pairs, pairs_same, sum, high_le, below_first, pairs_le}
use Rattle.std.proofs.lemmas.List.Sums.{sum_by-cons}
use Rattle.dl_iv.specs.declared.interval.Iv.{Iv}
use Rattle.dl_grid.specs.Prelude.{low_at, high_at, spread, IsGrid, AreEnds, IsConvolution, convolution_spread}
use Rattle.dl_grid.proofs.Room.{grid_room, size_within}
use Rattle.dl_grid.proofs.EndLists.{low_le_high}
use Rattle.dl_grid.proofs.PlaceSums.{width_at, high_is, low_within, width_within, whole_spread}
use Rattle.dl_grid.proofs.WidthLaws.{cv_is}
use Rattle.dl_grid.proofs.Products.{pairs_top, floors_within, rounded_order, rounded_spread_le}

-- the sums of products of low ends and of high ends
abbrev pub lows : {B : ℕ} → List (Iv B) → List (Iv B) → ℕ → ℕ
lows a b s = count_pairs s (λ i j. low_at a i * low_at b j)

abbrev pub highs : {B : ℕ} → List (Iv B) → List (Iv B) → ℕ → ℕ
highs a b s = count_pairs s (λ i j. high_at a i * high_at b j)

-- a cell's ends are in order
pub ends_order : {B : ℕ} (a b : List (Iv B)) (s : ℕ) → IsGrid a → IsGrid b
    → lows a b s / 2 ^ B ≤ min (2 ^ B) (div_ceil (highs a b s) (2 ^ B))
ends_order {B} a b s p q = rounded_order (2 ^ B) (lows a b s) (highs a b s) (pow_pos B)
    (pairs_le s _ _ (λ i j. mul-le-mul (low_le_high a i) (low_le_high b j)))
    (pairs_top s (2 ^ B) (low_at a) (low_at b) (omega (arith, low_within (s + 1) a, p.mass))
    (omega (arith, low_within (s + 1) b, q.mass)))

-- and their widths to at most what the width rule says
pub convolved_spread : {B : ℕ} (a b cells : List (Iv B)) (n : ℕ) → IsGrid a → IsGrid b → length cells ≡ n
    → IsConvolution n a b cells → spread cells ≤ convolution_spread (2 ^ B) n (spread a) (spread b)
convolved_spread {B} a b cells n p q e rounded_ends =
    let rounded = rounded_spread_le n (2 ^ B) (spread a) (spread b) (low_at a) (width_at a) (low_at b)
    (width_at b) (pow_pos B)
    (omega (arith, low_within n a, p.mass)) (width_within n a) (omega (arith, low_within n b, q.mass))
    (width_within n b) in
    let parts : (s : ℕ) → highs a b s ≡ count_pairs s
    (λ i j. (low_at a i + width_at a i) * (low_at b j + width_at b j)) =
    λ s. pairs_same s _ _ (λ i j. ap₂ (λ u v. u * v) (high_is a i) (high_is b j)) in
    let each : (s : ℕ) → s < n
    → width_at cells s ≡ min (2 ^ B)
    (div_ceil (count_pairs s (λ i j. (low_at a i + width_at a i) * (low_at b j + width_at b j))) (2 ^ B)) - lows a
    b s / 2 ^ B =
    λ s inside. ap₂ (λ u v. u - v) (rounded_ends.high s inside ∙ ap (λ t. min (2 ^ B) (div_ceil t (2 ^ B))) (parts s))
    (rounded_ends.low s inside) in
    omega (
      arith,
      rounded,
      whole_spread n cells e,
      below_same n (width_at cells) _ each,
      cv_is (2 ^ B) n (spread a) (spread b) (pow_pos B),
    )

-- a list of numbers by its places
pub sum_total : (xs : List ℕ) → sum xs ≡ count_below (length xs) (λ k. get_or xs k 0)
unfolding count_below
sum_total [] = refl
sum_total (x ∷ xs) = omega (
  arith,
  sum_by-cons (λ (e : ℕ). e) x xs,
  below_first (length xs) (λ k. get_or (x ∷ xs) k 0),
  sum_total xs,
)

-- two lists that hold the rounded sums of the first cells are the ends of a grid
pub convolved_ends : {B : ℕ} (a b : List (Iv B)) (downs ups : List ℕ) (n : ℕ) → IsGrid a → IsGrid b → 1 ≤ n
    → n ≤ length a → length downs ≡ n
    → length ups ≡ n → ((s : ℕ) → s < n → get_or downs s 0 ≡ lows a b s / 2 ^ B)
    → ((s : ℕ) → s < n → get_or ups s 0 ≡ min (2 ^ B) (div_ceil (highs a b s) (2 ^ B))) → AreEnds B downs ups
convolved_ends {B} a b downs ups n p q some within e h low high =
    let top = floors_within n (2 ^ B) (2 ^ B) (low_at a) (low_at b) (pow_pos B) (omega (arith, low_within n a, p.mass))
    (omega (arith, low_within n b, q.mass)) in
    record {
      size = rw e (size_within (size_of a p) some within);
      paired = omega (arith, e, h);
      ordered = λ s. elim (cases_lt s n) [
        | inl inside ↦ rw (low s inside, high s inside) (ends_order a b s p q)
        | inr past ↦ omega (arith, get_or-eq_default downs 0 {n = s} (omega (arith, e)))
      ];
      small = λ k d inside. omega (arith, get_or_default_zero ups k d inside, high k (omega (arith, h)));
      mass = omega (
        arith,
        sum_total downs,
        ap (λ t. count_below t (λ k. get_or downs k 0)) e,
        below_same n (λ k. get_or downs k 0) (λ s. lows a b s / 2 ^ B) low,
        top,
      );
    }

pub highs_fit : {B : ℕ} (a b : List (Iv B)) (s : ℕ) → IsGrid a → IsGrid b → s < length a → highs a b s ≤ 2 ^ 127
highs_fit {B} a b s p q inside =
    let bound : count_below (suc s) (λ i. high_at a i * high_at b (s - i)) ≤ suc s * (2 ^ B * 2 ^ B) =
    below_bound (suc s) (2 ^ B * 2 ^ B) (λ i. high_at a i * high_at b (s - i))
    (λ i _. mul-le-mul (high_le a i (2 ^ B) p.small) (high_le b (s - i) (2 ^ B) q.small)) in
    let room : suc s * (2 ^ B * 2 ^ B) ≤ length a * (2 ^ B * 2 ^ B) = mul-le-mul_right (2 ^ B * 2 ^ B) inside in
    omega (arith, below_pairs s (λ i j. high_at a i * high_at b j), bound, room, (grid_room (size_of a p)).sums)

pub all_fit : {B : ℕ} (a b : List (Iv B)) (sums : List ℕ) (n : ℕ) → IsGrid a → IsGrid b → n ≤ length a → length sums ≡ n
    → ((s : ℕ) → s < n → get_or sums s 0 ≡ highs a b s) → All (λ sum. sum ≤ 2 ^ 127) sums
all_fit a b sums n p q within long holds k d inside =
    omega (
      arith,
      get_or_default_zero sums k d inside,
      holds k (omega (arith, long)),
      highs_fit a b k p q (omega (arith, long, within)),
    )
