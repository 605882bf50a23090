-- The grid of one trial: cell 0 is written last, and what comes of it is a grid of small spread.
use Rattle.dl_unit.proofs.Common.{ℕ, ◌≡◌, ◌+◌, ◌-◌, ◌*◌, ◌/◌, ◌^◌, ◌<◌, ◌≤◌, List, length, arith, inl, inr, ap, ◌∙◌, min, div_ceil, cases_lt, pow_pos, Fraction, div_ceil_least, part_within, Iv, low_at, high_at, spread, all_at_zero, IsGrid, below_nothing, below_same, below_le, below_plus, IsWithinOne, fixed, binomial, compound, GridEncloses, Item, weight_at, low_trial, high_trial, set, get_or, high_at_get, low_at_read, high_at_read, below_more, width_at, low_within, width_within, whole_mass, whole_spread, low_added, high_added, high_kept, high_joined, low_le_high}
use Rattle.dl_unit.proofs.Places.{places}
use Rattle.dl_unit.proofs.Trials.{trial_mass, trial_width, zero_below, trial_encloses}

high_small : {B : ℕ} (cells : List (Iv B)) (y : ℕ) (d : Iv B) → IsGrid cells → y < length cells
    → high_at cells y ≤ 2 ^ B
high_small cells y d grid inside = omega (arith, grid.small y d inside, high_at_get cells y d inside)

-- the rest has room in cell 0
pub room_at_zero : {B : ℕ} (claim : List (Iv B)) (q : Fraction) → IsGrid claim → q.num ≤ q.den
    → low_at claim 0 * q.num / q.den + 2 ^ B * (q.den - q.num) / q.den ≤ 2 ^ B
unfolding all_at_zero
room_at_zero {B} claim q grid within =
    omega (
      arith,
      trial_mass (2 ^ B) 1 q (low_at claim) within (omega (arith, low_within 1 claim, grid.mass)),
      below_more 0 (low_trial (2 ^ B) q (low_at claim)),
      below_nothing (low_trial (2 ^ B) q (low_at claim)),
    )

-- the cells of a claim times q, and cell 0 written anew from what it was
module _ {B : ℕ} (claim list : List (Iv B)) (q : Fraction) (first v : Iv B) (of_claim : IsGrid claim)
    (within : q.num ≤ q.den)
    (many : length list ≡ length claim) (here : first ≡ get_or list 0 first) where
  some : 1 ≤ length list
  some = omega (arith, many, of_claim.some)

  pub first_small : ((y : ℕ) → y < length claim → high_at list y ≡ div_ceil (high_at claim y * q.num) q.den)
      → first.hi ≤ 2 ^ B
  first_small high =
      omega (
        arith,
        high_at_read list 0 first some here,
        high 0 of_claim.some,
        part_within (high_at claim 0) q.num q.den q.positive within,
        high_small claim 0 v of_claim of_claim.some,
      )

  pub trial_low : ((y : ℕ) → y < length claim → low_at list y ≡ low_at claim y * q.num / q.den)
      → v.lo ≡ min (first.lo + 2 ^ B * (q.den - q.num) / q.den) (2 ^ B)
      → (y : ℕ) → y < length claim → low_at (set list 0 v) y ≡ low_trial (2 ^ B) q (low_at claim) y
  trial_low low e y inside =
      let more : ℕ = 2 ^ B * (q.den - q.num) / q.den in
      let held : v.lo ≡ low_at list 0 + more = omega (
        arith,
        e,
        low_at_read list 0 first some here,
        low 0 of_claim.some,
        room_at_zero claim q of_claim within,
      ) in
      low_added list v more some held y ∙ ap (λ t. t + all_at_zero more y) (low y inside)

  pub trial_high : ((y : ℕ) → y < length claim → high_at list y ≡ div_ceil (high_at claim y * q.num) q.den)
      → v.hi ≡ min (first.hi + div_ceil (2 ^ B * (q.den - q.num)) q.den) (2 ^ B)
      → (y : ℕ) → y < length claim → high_at (set list 0 v) y ≡ high_trial (2 ^ B) q (high_at claim) y
  trial_high high e y inside =
      let more : ℕ = div_ceil (2 ^ B * (q.den - q.num)) q.den in
      let held : v.hi ≡ min (high_at list 0 + more) (2 ^ B) = omega (arith, e, high_at_read list 0 first some here) in
      let small : high_at list y ≤ 2 ^ B = omega (
        arith,
        high y inside,
        part_within (high_at claim y) q.num q.den q.positive within,
        high_small claim y v of_claim inside,
      ) in
      omega (
        arith,
        high_joined (high_at list) (high_at (set list 0 v)) more (2 ^ B) (high_added list v _ some held)
            (high_kept list v) y small,
        ap (λ t. min (2 ^ B) (t + all_at_zero more y)) (high y inside),
      )

-- a claim's weight is in the cells that hold something
weight_there : (S w total : ℕ) → 0 < total → min (div_ceil (S * w) total) 1 ≤ min w 1
weight_there S w total pos = elim (cases_lt 0 w) [
  | inl some ↦ omega (arith, some)
  | inr none ↦
      let nothing : w ≡ 0 = omega (arith, none) in
      omega (arith, div_ceil_least (S * w) total 0 pos (omega (arith, ap (λ t. S * t) nothing)))
]

module _ {B : ℕ} (claim g : List (Iv B)) (q : Fraction) (within : q.num ≤ q.den) (of_claim : IsGrid claim)
    (many : length g ≡ length claim)
    (low : (y : ℕ) → y < length claim → low_at g y ≡ low_trial (2 ^ B) q (low_at claim) y)
    (high : (y : ℕ) → y < length claim → high_at g y ≡ high_trial (2 ^ B) q (high_at claim) y) where
  pub trial_grid : IsGrid g
  trial_grid = record {
    some = omega (arith, many, of_claim.some);
    few = omega (arith, many, of_claim.few);
    small = λ k d inside. omega (arith, high_at_get g k d inside, high k (omega (arith, many)));
    mass = omega (
      arith,
      whole_mass (length claim) g many,
      below_same (length claim) (low_at g) (low_trial (2 ^ B) q (low_at claim)) low,
      trial_mass (2 ^ B) (length claim) q (low_at claim) within
          (omega (arith, low_within (length claim) claim, of_claim.mass)),
    );
  }

  pub trial_spread : (items : List Item) (total : ℕ) → 0 < total
      → ((y : ℕ) → y < length claim → high_at claim y ≡ div_ceil (2 ^ B * weight_at items y) total)
      → spread claim ≤ length items → spread g ≤ 3 * (length items + 1)
  trial_spread items total pos held narrow =
      let n : ℕ = length claim in
      let there : ℕ → ℕ = λ y. min (weight_at items y) 1 in
      let each = below_le n (width_at g) (λ y. width_at claim y + there y + all_at_zero 1 y)
      (λ y inside. widths y inside) in
      omega (
        arith,
        whole_spread n g many,
        each,
        below_plus n (λ y. width_at claim y + there y) (all_at_zero 1),
        below_plus n (width_at claim) there,
        width_within n claim,
        places items n,
        zero_below n 1,
        narrow,
      )
    where
      widths : (y : ℕ) → y < length claim → width_at g y ≤ width_at claim y + min
          (weight_at items y) 1 + all_at_zero 1 y
      widths y inside =
          omega (
            arith,
            low y inside,
            high y inside,
            trial_width (2 ^ B) q (low_at claim) (high_at claim) y within (low_le_high claim y),
            weight_there (2 ^ B) (weight_at items y) total pos,
            ap (λ t. min t 1) (held y inside),
          )

-- it encloses the sum of one trial
pub grid_encloses : {B : ℕ} (claim g : List (Iv B)) (q : Fraction) (f : ℕ → Fraction) → q.num ≤ q.den → IsWithinOne f
    → length g ≡ length claim
    → ((y : ℕ) → y < length claim → low_at g y ≡ low_trial (2 ^ B) q (low_at claim) y)
    → ((y : ℕ) → y < length claim → high_at g y ≡ high_trial (2 ^ B) q (high_at claim) y)
    → GridEncloses claim (compound (fixed 1) f) → GridEncloses g (compound (binomial 1 q.num q.den) f)
grid_encloses {B} claim g q f within proper many low high of_claim y inside =
    let here : y < length claim = omega (arith, many) in
    rw (low y here, high y here)
    (trial_encloses (2 ^ B) (length claim) q (low_at claim) (high_at claim) f (pow_pos B) within proper of_claim y here)
