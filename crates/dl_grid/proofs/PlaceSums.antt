-- The mass and the spread of a list of cells as sums over its places.
use Rattle.dl_grid.proofs.Common.{ℕ, zero, suc, ◌≡◌, ◌+◌, ◌-◌, ◌<◌, ◌≤◌, List, [], ◌∷◌, ◌++◌, length, get_or, map, sum_by, take, arith, refl, sym, ap, take_all, sum_by-cons, sum_by-take-le, Iv, low_at, high_at, mass_low, spread, count_below, map-append, get_or_append_left, low_ends, high_ends}
use Rattle.dl_exact.proofs.Counts.{below_first, below_none, below_nothing}
use Rattle.std.proofs.Math.Seq.{get_or-append_seam}
use Rattle.dl_grid.proofs.EndLists.{low_at_ends, high_at_ends, low_ends_long, high_ends_long, low_le_high}

-- the width of cell x, 0 past the end
abbrev pub width_at : {B : ℕ} → List (Iv B) → ℕ → ℕ
width_at cells x = high_at cells x - low_at cells x

pub high_is : {B : ℕ} (cells : List (Iv B)) (x : ℕ) → high_at cells x ≡ low_at cells x + width_at cells x
high_is cells x = omega (arith, low_le_high cells x)

width_at_list : {B : ℕ} (cells : List (Iv B)) (x : ℕ) → get_or (map (λ cell. cell.hi - cell.lo) cells) x 0 ≡ width_at cells x
unfolding low_at high_at
width_at_list [] x = refl
width_at_list (c ∷ cs) zero = refl
width_at_list (c ∷ cs) (suc x) = width_at_list cs x

-- a number of each cell, by its place and of each of the first n cells
places_sum : {B : ℕ} (f : Iv B → ℕ) (at : ℕ → ℕ) (n : ℕ) (cells : List (Iv B))
    → ((x : ℕ) → get_or (map f cells) x 0 ≡ at x) → count_below n at ≡ sum_by f (take n cells)
places_sum f at zero cells e = below_nothing at
places_sum f at (suc n) [] e = below_none (suc n) at (λ x inside. sym (e x))
places_sum f at (suc n) (c ∷ cs) e = omega (
  arith,
  below_first n at,
  e 0,
  places_sum f (λ x. at (suc x)) n cs (λ x. e (suc x)),
  sum_by-cons f c (take n cs),
)

pub low_sum : {B : ℕ} (n : ℕ) (cells : List (Iv B)) → count_below n (low_at cells) ≡ mass_low (take n cells)
low_sum n cells = places_sum (λ cell. cell.lo) (low_at cells) n cells (low_at_ends cells)

pub width_sum : {B : ℕ} (n : ℕ) (cells : List (Iv B)) → count_below n (width_at cells) ≡ spread (take n cells)
width_sum n cells = places_sum (λ cell. cell.hi - cell.lo) (width_at cells) n cells (width_at_list cells)

-- the first cells have no more mass and no more spread than all
pub low_within : {B : ℕ} (n : ℕ) (cells : List (Iv B)) → count_below n (low_at cells) ≤ mass_low cells
low_within {B} n cells = omega (arith, low_sum n cells, sum_by-take-le (λ (cell : Iv B). cell.lo) cells n)

pub width_within : {B : ℕ} (n : ℕ) (cells : List (Iv B)) → count_below n (width_at cells) ≤ spread cells
width_within {B} n cells = omega (arith, width_sum n cells, sum_by-take-le (λ (cell : Iv B). cell.hi - cell.lo) cells n)

-- a list of n cells
pub whole_mass : {B : ℕ} (n : ℕ) (cells : List (Iv B)) → length cells ≡ n
    → mass_low cells ≡ count_below n (low_at cells)
whole_mass {B} n cells e = omega (arith, low_sum n cells, ap (λ t. mass_low t) (take_all n cells (omega arith)))

pub whole_spread : {B : ℕ} (n : ℕ) (cells : List (Iv B)) → length cells ≡ n
    → spread cells ≡ count_below n (width_at cells)
whole_spread {B} n cells e = omega (arith, width_sum n cells, ap (λ t. spread t) (take_all n cells (omega arith)))

-- the ends after a push
pub low_at_front : {B : ℕ} (cells more : List (Iv B)) (x : ℕ) → x < length cells
    → low_at (cells ++ more) x ≡ low_at cells x
low_at_front cells more x h = rw (← low_at_ends (cells ++ more) x, ← low_at_ends cells x, map-append)
    (get_or_append_left (low_ends cells) (low_ends more) 0 x (omega (arith, low_ends_long cells)))

pub high_at_front : {B : ℕ} (cells more : List (Iv B)) (x : ℕ) → x < length cells
    → high_at (cells ++ more) x ≡ high_at cells x
high_at_front cells more x h = rw (← high_at_ends (cells ++ more) x, ← high_at_ends cells x, map-append)
    (get_or_append_left (high_ends cells) (high_ends more) 0 x (omega (arith, high_ends_long cells)))

pub low_at_pushed : {B : ℕ} (cells : List (Iv B)) (cell : Iv B) (x : ℕ) → x ≡ length cells
    → low_at (cells ++ cell ∷ []) x ≡ cell.lo
low_at_pushed cells cell x e = rw (e, ← low_at_ends, map-append, ← low_ends_long cells)
    (get_or-append_seam (low_ends cells) cell.lo [] 0)

pub high_at_pushed : {B : ℕ} (cells : List (Iv B)) (cell : Iv B) (x : ℕ) → x ≡ length cells
    → high_at (cells ++ cell ∷ []) x ≡ cell.hi
high_at_pushed cells cell x e = rw (e, ← high_at_ends, map-append, ← high_ends_long cells)
    (get_or-append_seam (high_ends cells) cell.hi [] 0)
