-- The joint means of a unit at all totals up to q, added up: what the ends hold, how large they are, and how far apart
-- they lie.
use Rattle.dl_shares.proofs.Common.{ℕ, suc, ◌≡◌, ◌+◌, ◌-◌, ◌*◌, ◌/◌, ◌^◌, ◌<◌, ◌≤◌, List, length, arith, ap₂, subst₂, div_ceil, pow_pos, mul-pos, ◌over◌, sum_to, count_pairs, count_below, le_refl, div_ceil_least, below_le, below_same, pairs_same, Iv, low_at, high_at, spread, IsGrid, cells_fit, width_at, high_is, low_within, width_within, cv_is, Series, Rises, Holds, at_least_wider, at_most_wider, to_holds, beside_width, to_over, round_down, round_up, low_weighted, high_weighted, low_sums, high_sums}
use Rattle.dl_shares.proofs.WeightedEnds.{high_mass, sums_order as weighted_order, fits, room_of}
use Rattle.dl_shares.proofs.PairSums.{sums_top, sums_width}

-- ---- how large they are

top : (S q : ℕ) → q * (2 * S) * (2 * S) ≡ 4 * q * S * S
top S q = omega arith

pub sums_order : {B : ℕ} (unit others : List (Iv B)) (q : ℕ) → low_sums unit others q ≤ high_sums unit others q
sums_order unit others q =
    below_le (suc q) (low_weighted unit others) (high_weighted unit others) (λ x h. weighted_order unit others x)

module _ {B : ℕ} (unit others : List (Iv B)) (q : ℕ) (p : IsGrid unit) (r : IsGrid others)
    (inside : q < length unit) where
  module _ (narrow : spread unit < 2 ^ B) (thin : spread others < 2 ^ B) where
    most : high_sums unit others q ≤ q * (2 * 2 ^ B) * (2 * 2 ^ B)
    most = sums_top q (2 * 2 ^ B) (2 * 2 ^ B) (high_at unit) (high_at others) (high_mass unit (q + 1) p narrow)
        (high_mass others (q + 1) r thin)

    pub high_room : high_sums unit others q < 2 ^ 128
    high_room = fits (2 ^ B) q _ (pow_pos B) (room_of unit q p inside) most

    pub high_fits : div_ceil (high_sums unit others q) (2 ^ B) ≤ 2 ^ 127
    high_fits = omega (
      arith,
      div_ceil_least (high_sums unit others q) (2 ^ B) (4 * q * 2 ^ B) (pow_pos B) (omega (arith, top (2 ^ B) q, most)),
      cells_fit unit q p (omega arith),
    )

  -- ---- how wide they are

  pub sums_narrow : div_ceil (high_sums unit others q) (2 ^ B) - low_sums unit others q / 2 ^ B
      ≤ beside_width (2 ^ B) (length unit) (spread unit) (spread others)
  sums_narrow =
      let n = length unit in
      let parts : high_sums unit others q ≡ count_below (suc q) (λ x. count_pairs x
      (λ y z. y * (low_at unit y + width_at unit y) * (low_at others z + width_at others z))) =
      below_same (suc q) (high_weighted unit others) _ (λ x h.
      pairs_same x _ _ (λ y z. ap₂ (λ u v. y * u * v) (high_is unit y) (high_is others z))) in
      rw (parts, cv_is (2 ^ B) n (spread unit) (spread others) (pow_pos B))
      (sums_width q n (2 ^ B) (spread unit) (spread others)
      (low_at unit) (width_at unit) (low_at others) (width_at others) inside (pow_pos B)
      (omega (arith, low_within (q + 1) unit)) (width_within (q + 1) unit)
      (omega (arith, low_within (q + 1) others)) (width_within (q + 1) others))

-- ---- what they hold

-- ends in units of 1/S^2, rounded outward
pub outward_holds : (Q R : Series) (S low high : ℕ) → 0 < S → Holds Q R (low over (S * S)) (high over (S * S))
    → Holds Q R ((low / S) over S) (div_ceil high S over S)
outward_holds Q R S low high s exact = (
  at_least_wider Q R _ _ exact.0 (round_down low S S _ s s (le_refl _)),
  at_most_wider Q R _ _ exact.1 (round_up high S S _ s s (le_refl _)),
)

pub sums_hold : {B : ℕ} (unit others : List (Iv B)) (q : ℕ) (P : ℕ → Series) (R : Series) → ((x : ℕ) → Rises (P x))
    → ((x : ℕ) → x ≤ q → Holds (P x) R (low_weighted unit others x over (2 ^ B * 2 ^ B))
    (high_weighted unit others x over (2 ^ B * 2 ^ B)))
    → Holds (λ N. sum_to q (λ x. P x N)) R
    ((low_sums unit others q / 2 ^ B) over 2 ^ B) (div_ceil (high_sums unit others q) (2 ^ B) over 2 ^ B)
sums_hold {B} unit others q P R rise each =
    let S = 2 ^ B in
    let s = pow_pos B in
    let Q = λ (N : ℕ). sum_to q (λ x. P x N) in
    let exact : Holds Q R (low_sums unit others q over (S * S)) (high_sums unit others q over (S * S)) =
    subst₂ (λ l h. Holds Q R l h) (to_over q (S * S) (low_weighted unit others) (mul-pos s s))
    (to_over q (S * S) (high_weighted unit others) (mul-pos s s))
    (to_holds q P R (λ x. low_weighted unit others x over (S * S)) (λ x. high_weighted unit others x over (S * S)) rise
    each) in
    outward_holds Q R S (low_sums unit others q) (high_sums unit others q) s exact
