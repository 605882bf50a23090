-- What a grid of an allowed size has room for: the only proofs that see how many cells are allowed at a scale.
use Rattle.dl_grid.proofs.Common.{ℕ, ◌*◌, ◌^◌, ◌≤◌, inl, inr, arith, le_trans, mul-le-mul, mul-le-mul_right, pow-le-pow_right, IsGridSize, HasRoom, leb_tells, most_cells, long_bits, most_cells_at}

one_below : {B c : ℕ} → B ≤ c → 2 ^ B ≤ 2 ^ c
one_below {B} {c} h = pow-le-pow_right {n = 2} (omega arith) {i = B} {j = c} h

-- what holds of 65,536 cells at scales of up to 2^48, and of 16,384 at finer ones, holds of the cells of any scale
at_each_scale : (P : ℕ → Type 0) (B : ℕ) → (B ≤ 48 → P 65536) → P 16384 → P (most_cells_at B)
unfolding most_cells_at
at_each_scale P B coarse fine = elim (leb_tells B long_bits) [
  | inl within ↦ rw within.0 (coarse within.1)
  | inr beyond ↦ rw beyond.0 fine
]

whole_cells : (B : ℕ) → most_cells_at B ≤ most_cells
whole_cells B = at_each_scale (λ n. n ≤ most_cells) B (λ coarse. omega arith) (omega arith)

whole_mass : (B : ℕ) → B ≤ 56 → most_cells_at B * 2 ^ B ≤ 2 ^ 70
whole_mass B h = at_each_scale (λ n. n * 2 ^ B ≤ 2 ^ 70) B
    (λ coarse. omega (arith, one_below {B = B} {c = 48} coarse))
    (omega (arith, one_below {B = B} {c = 56} h))

whole_sums : (B : ℕ) → B ≤ 56 → most_cells_at B * (2 ^ B * 2 ^ B) ≤ 2 ^ 126
whole_sums B h = at_each_scale (λ n. n * (2 ^ B * 2 ^ B) ≤ 2 ^ 126) B
    (λ coarse. omega (arith, mul-le-mul (one_below {B = B} {c = 48} coarse) (one_below {B = B} {c = 48} coarse)))
    (omega (arith, mul-le-mul (one_below {B = B} {c = 56} h) (one_below {B = B} {c = 56} h)))

whole_squares : (B : ℕ) → B ≤ 56 → most_cells_at B * (most_cells_at B * 2 ^ B) ≤ 2 ^ 84
whole_squares B h = at_each_scale (λ n. n * (n * 2 ^ B) ≤ 2 ^ 84) B
    (λ coarse. omega (arith, one_below {B = B} {c = 48} coarse))
    (omega (arith, one_below {B = B} {c = 56} h))

-- no scale has more cells than any grid may have
pub size_few : {B n : ℕ} → IsGridSize B n → n ≤ most_cells
size_few {B} s = le_trans s.few (whole_cells B)

-- one cell or more, of a grid of this size, are the size of a grid
pub size_within : {B m n : ℕ} → IsGridSize B n → 1 ≤ m → m ≤ n → IsGridSize B m
size_within s some within = record {
  scale_above = s.scale_above;
  scale_below = s.scale_below;
  some = some;
  few = le_trans within s.few;
}

-- the sum of a number of at most 1 for each cell
pub mass_fits : {B n : ℕ} → IsGridSize B n → n * 2 ^ B ≤ 2 ^ 70
mass_fits {B} s = le_trans (mul-le-mul_right (2 ^ B) s.few) (whole_mass B s.scale_below)

-- so many times that sum
pub masses_fit : {B n : ℕ} → IsGridSize B n → n * (n * 2 ^ B) ≤ 2 ^ 84
masses_fit {B} {n} s = le_trans (mul-le-mul s.few (mul-le-mul_right (2 ^ B) s.few)) (whole_squares B s.scale_below)

-- the sum of a product of two such numbers for each cell
pub grid_room : {B n : ℕ} → IsGridSize B n → HasRoom n (2 ^ B)
grid_room {B} s = record {
  word = one_below {B = B} {c = 56} s.scale_below;
  sums = le_trans (mul-le-mul_right (2 ^ B * 2 ^ B) s.few) (whole_sums B s.scale_below);
}
