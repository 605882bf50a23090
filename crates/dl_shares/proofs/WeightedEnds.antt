-- The joint mean from the grids of a unit and of the others: how large its ends are, and how far apart they lie.
use Rattle.dl_shares.proofs.Common.{ℕ, ◌≡◌, ◌+◌, ◌-◌, ◌*◌, ◌/◌, ◌^◌, ◌<◌, ◌≤◌, List, length, arith, ap₂, div_ceil, mul-le-mul, mul-le-mul_left, mul-le-mul_right, mul-pos, le_trans, pow_pos, div_ceil_least, low_at, high_at, spread, IsGrid, count_pairs, count_below, size_of, cells_fit, grid_room, size_within, below_same, below_plus, pairs_le, pairs_same, low_weighted, high_weighted, cv_is}
use Rattle.dl_iv.specs.declared.interval.Iv.{Iv}
use Rattle.dl_grid.specs.Prelude.{convolution_spread, HasRoom}
use Rattle.dl_grid.proofs.PlaceSums.{width_at, high_is, low_within, width_within}
use Rattle.dl_shares.proofs.WeightedSums.{weighted_top, weighted_width}

-- ---- how large they are

-- the high ends of a narrow grid add up to less than 2
pub high_mass : {B : ℕ} (cells : List (Iv B)) (n : ℕ) → IsGrid cells → spread cells < 2 ^ B
    → count_below n (high_at cells) ≤ 2 * 2 ^ B
high_mass cells n grid narrow =
    let wide = below_same n (high_at cells) (λ x. low_at cells x + width_at cells x) (λ x b. high_is cells x) in
    omega (arith, below_plus n (low_at cells) (width_at cells), low_within n cells, width_within n cells)

top : (S x : ℕ) → x * (2 * S) * (2 * S) ≡ 4 * x * S * S
top S x = omega arith

-- where the sums of the weights are at most 2, all sums fit
pub fits : (S x sum : ℕ) → 0 < S → HasRoom (x + 1) S → sum ≤ x * (2 * S) * (2 * S) → sum < 2 ^ 128
fits S x sum some room h = omega (arith, top S x, room.sums, mul-pos some some)

pub room_of : {B : ℕ} (cells : List (Iv B)) (x : ℕ) → IsGrid cells → x < length cells → HasRoom (x + 1) (2 ^ B)
room_of cells x grid inside = grid_room (size_within (size_of cells grid) (omega arith) (omega arith))

module _ {B : ℕ} (unit others : List (Iv B)) (x : ℕ) (p : IsGrid unit) (q : IsGrid others) (v : spread unit < 2 ^ B)
    (w : spread others < 2 ^ B) where
  high_most : high_weighted unit others x ≤ x * (2 * 2 ^ B) * (2 * 2 ^ B)
  high_most = weighted_top x (2 * 2 ^ B) (2 * 2 ^ B) (high_at unit) (high_at others)
      (high_mass unit (x + 1) p v) (high_mass others (x + 1) q w)

  pub high_room : x < length unit → high_weighted unit others x < 2 ^ 128
  high_room inside = fits (2 ^ B) x _ (pow_pos B) (room_of unit x p inside) high_most

  pub end_top : div_ceil (high_weighted unit others x) (2 ^ B) ≤ 4 * x * 2 ^ B
  end_top = div_ceil_least _ (2 ^ B) (4 * x * 2 ^ B) (pow_pos B) (omega (arith, top (2 ^ B) x, high_most))

  pub end_fits : x < length unit → div_ceil (high_weighted unit others x) (2 ^ B) ≤ 2 ^ 127
  end_fits inside = omega (arith, end_top, cells_fit unit x p (omega arith))

-- and where that has room in the square of the units, it can be divided by a probability
pub end_divisible : (one x hi : ℕ) → hi ≤ 4 * x * one → 4 * x * one * one ≤ 2 ^ 127 → hi * one ≤ 2 ^ 127
end_divisible one x hi h room = le_trans (mul-le-mul_right one h) room

pub sums_order : {B : ℕ} (unit others : List (Iv B)) (x : ℕ) → low_weighted unit others x ≤ high_weighted unit others x
sums_order unit others x =
    pairs_le x (λ y z. y * low_at unit y * low_at others z) (λ y z. y * high_at unit y * high_at others z)
    (λ y z. mul-le-mul (mul-le-mul_left y (omega (arith, high_is unit y))) (omega (arith, high_is others z)))

-- ---- how wide they are

pub joint_width : {B : ℕ} (unit others : List (Iv B)) (x : ℕ) → IsGrid unit → IsGrid others → x < length unit
    → div_ceil (high_weighted unit others x) (2 ^ B) - low_weighted unit others x / 2 ^ B
    ≤ length unit * convolution_spread (2 ^ B) (length unit) (spread unit) (spread others)
joint_width {B} unit others x p q inside =
    let n = length unit in
    let parts : high_weighted unit others x
    ≡ count_pairs x (λ y z. y * (low_at unit y + width_at unit y) * (low_at others z + width_at others z)) =
    pairs_same x _ _ (λ y z. ap₂ (λ u v. y * u * v) (high_is unit y) (high_is others z)) in
    rw (parts, cv_is (2 ^ B) n (spread unit) (spread others) (pow_pos B))
    (weighted_width x n (2 ^ B) (spread unit) (spread others)
    (low_at unit) (width_at unit) (low_at others) (width_at others) inside (pow_pos B)
    (omega (arith, low_within (x + 1) unit)) (width_within (x + 1) unit)
    (omega (arith, low_within (x + 1) others)) (width_within (x + 1) others))
