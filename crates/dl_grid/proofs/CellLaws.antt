-- What the ends of a list of cells are at one place, and how large they can be.
use Rattle.dl_grid.proofs.Common.{ℕ, zero, suc, ◌≡◌, ◌-◌, ◌*◌, ◌^◌, ◌<◌, ◌≤◌, List, [], ◌∷◌, length, get_or, take, arith, refl, sym, ap, ◌∙◌, get_or-map, low_ends, high_ends, All, le_trans, mul-le-mul_right, pow-le-pow_right, sum_by-le, sum_by-take-le, Iv, low_at, high_at, IsGrid, IsGridSize, sum_by}
use Rattle.dl_grid.proofs.Room.{mass_fits}

-- an end by its place in the list of ends
pub low_at_ends : {B : ℕ} (cells : List (Iv B)) (x : ℕ) → get_or (low_ends cells) x 0 ≡ low_at cells x
unfolding low_at
low_at_ends [] x = refl
low_at_ends (c ∷ cs) zero = refl
low_at_ends (c ∷ cs) (suc x) = low_at_ends cs x

pub high_at_ends : {B : ℕ} (cells : List (Iv B)) (x : ℕ) → get_or (high_ends cells) x 0 ≡ high_at cells x
unfolding high_at
high_at_ends [] x = refl
high_at_ends (c ∷ cs) zero = refl
high_at_ends (c ∷ cs) (suc x) = high_at_ends cs x

-- the ends of a cell by its place, and of one that was read
pub low_at_get : {B : ℕ} (cells : List (Iv B)) (x : ℕ) (d : Iv B) → x < length cells
    → (get_or cells x d).lo ≡ low_at cells x
low_at_get cells x d h = sym (get_or-map (λ cell. cell.lo) cells x d 0 h) ∙ low_at_ends cells x

pub high_at_get : {B : ℕ} (cells : List (Iv B)) (x : ℕ) (d : Iv B) → x < length cells
    → (get_or cells x d).hi ≡ high_at cells x
high_at_get cells x d h = sym (get_or-map (λ cell. cell.hi) cells x d 0 h) ∙ high_at_ends cells x

pub low_at_read : {B : ℕ} (cells : List (Iv B)) (x : ℕ) (cell : Iv B) → x < length cells → cell ≡ get_or cells x cell
    → cell.lo ≡ low_at cells x
low_at_read cells x cell h e = ap (λ t. t.lo) e ∙ low_at_get cells x cell h

pub high_at_read : {B : ℕ} (cells : List (Iv B)) (x : ℕ) (cell : Iv B) → x < length cells → cell ≡ get_or cells x cell
    → cell.hi ≡ high_at cells x
high_at_read cells x cell h e = ap (λ t. t.hi) e ∙ high_at_get cells x cell h

-- a scale with an interval is from 1 to 56
pub scale_of : {B : ℕ} (cells : List (Iv B)) → 1 ≤ length cells → (1 ≤ B) × (B ≤ 56)
scale_of [] h = absurd (omega arith)
scale_of (c ∷ cs) h = (c.scale_above, c.scale_below)

-- a grid's size is one
pub size_of : {B : ℕ} (cells : List (Iv B)) → IsGrid cells → IsGridSize B (length cells)
size_of cells grid =
    let scale = scale_of cells grid.some in
    record { scale_above = scale.0; scale_below = scale.1; some = grid.some; few = grid.few }

pub one_fits : (B : ℕ) → B ≤ 56 → 2 ^ B ≤ 2 ^ 56
one_fits B h = pow-le-pow_right {n = 2} (omega arith) {i = B} {j = 56} h

pub one_in_range : (B : ℕ) → B ≤ 56 → 2 ^ B ≤ 2 ^ 127
one_in_range B h = omega (arith, one_fits B h)

-- no end is above 2^56
pub high_le : {B : ℕ} (cells : List (Iv B)) (x m : ℕ) → All (λ cell. cell.hi ≤ m) cells → high_at cells x ≤ m
unfolding high_at
high_le [] x m small = omega arith
high_le (c ∷ cs) zero m small = small 0 c (omega arith)
high_le (c ∷ cs) (suc x) m small = high_le cs x m (λ k d h. small (suc k) d (omega arith))

-- the sum of a number of at most 1 for some of the cells
pub cells_fit : {B : ℕ} (cells : List (Iv B)) (n : ℕ) → IsGrid cells → n ≤ length cells → n * 2 ^ B ≤ 2 ^ 70
cells_fit {B} cells n grid inside = le_trans (mul-le-mul_right (2 ^ B) inside) (mass_fits (size_of cells grid))

pub width_within : {B : ℕ} (cell : Iv B) → cell.hi - cell.lo ≤ cell.hi
width_within cell = omega arith
