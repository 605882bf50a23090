-- Items that have room for the sums of their products.
use Rattle.dl_convolution.proofs.Common.{ℕ, suc, ◌-◌, ◌*◌, ◌^◌, ◌<◌, ◌≤◌, List, length, get_or, arith, inl, inr, All, le_trans, mul-le-mul, mul-le-mul_right, cases_lt, count_below, below_bound, below_pairs, pair_sum, size_of, ItemsFit, get_or_past}
use Rattle.dl_iv.specs.declared.interval.Iv.{Iv}
use Rattle.dl_grid.specs.Cells.{IsGrid}
use Rattle.dl_grid.proofs.Room.{grid_room, size_few, size_within}

pub end_fits : (xs : List ℕ) (top : ℕ) → All (λ x. x ≤ top) xs → (k : ℕ) → get_or xs k 0 ≤ top
end_fits xs top small k = elim (cases_lt k (length xs)) [
  | inl inside ↦ small k 0 inside
  | inr past ↦ omega (arith, get_or_past xs k 0 past)
]

-- so many products have room
pub products_fit : {a b : List ℕ} {n : ℕ} (f : ItemsFit a b n) (m : ℕ) → m ≤ n → m * (f.top * f.top) ≤ 2 ^ 126
products_fit f m within = le_trans (mul-le-mul_right (f.top * f.top) within) f.room.sums

-- fewer items of the product
pub fewer_fit : {a b : List ℕ} {n : ℕ} (m : ℕ) → m ≤ n → ItemsFit a b n → ItemsFit a b m
fewer_fit m within f = record {
  top = f.top;
  first = f.first;
  second = f.second;
  room = record { word = f.room.word; sums = products_fit f m within };
  few = le_trans within f.few;
}

-- the ends of a grid with those of another one
pub ends_fit : {B : ℕ} (cells : List (Iv B)) (a b : List ℕ) (n : ℕ) → IsGrid cells → 1 ≤ n → n ≤ length cells
    → All (λ x. x ≤ 2 ^ B) a → All (λ y. y ≤ 2 ^ B) b → ItemsFit a b n
ends_fit {B} cells a b n grid some within first second =
    let size = size_within (size_of cells grid) some within in
    record { top = 2 ^ B; first = first; second = second; room = grid_room size; few = size_few size }

-- no sum of n products passes 126 bits
pub sum_bound : {a b : List ℕ} {n : ℕ} (f : ItemsFit a b n) (s : ℕ) → pair_sum a b s ≤ suc s * (f.top * f.top)
sum_bound {a} {b} f s =
    let bound : count_below (suc s) (λ i. get_or a i 0 * get_or b (s - i) 0) ≤ suc s * (f.top * f.top) =
    below_bound (suc s) (f.top * f.top) (λ i. get_or a i 0 * get_or b (s - i) 0)
    (λ i inside. mul-le-mul (end_fits a f.top f.first i) (end_fits b f.top f.second (s - i))) in
    omega (arith, below_pairs s (λ i j. get_or a i 0 * get_or b j 0), bound)

pub sum_fits : {a b : List ℕ} {n : ℕ} (s : ℕ) → ItemsFit a b n → s < n → pair_sum a b s ≤ 2 ^ 126
sum_fits s f inside = le_trans (sum_bound f s) (products_fit f (suc s) inside)
