-- Why a grid gives no share in the tail mean, and what that says of the total.
use Rattle.dl_shares.proofs.Common.{ℕ, ◌≡◌, inl, inr, ◌+◌, ◌*◌, ◌^◌, ◌<◌, ◌≤◌, List, length, arith, refl, sym, subst, Some, mul-le-mul_right, cases_lt, pow_pos, Fraction, ◌over◌, ◌+ℚ◌, ◌<ℚ◌, lt_not_le, over_add, over_lt, Iv, low_at, high_at, spread, below_more, width_at, high_is, width_within, Loss, partial_sums, total, GridEncloses, AreDeclared, IsQuantile, are_units, IsFirstAtLeast, IsFirstFound, low_cdf, is_bracket, is_tight, is_around, IsBracketIn, IsPast, IsOpen, IsRare, MayBeAbsent}

-- ---- one bracket

first_one : (f : ℕ → Fraction) (p : Fraction) (n x y : ℕ) → IsFirstAtLeast f p n x → IsFirstAtLeast f p n y → x ≡ y
first_one f p n x y a b = elim (cases_lt x y) [
  | inl less ↦ absurd (lt_not_le _ _ (b.before x less) (a.reached (omega arith)))
  | inr rest ↦ elim (cases_lt y x) [
    | inl more ↦ absurd (lt_not_le _ _ (a.before y more) (b.reached (omega arith)))
    | inr same ↦ omega (arith, same)
  ]
]

pub not_past : {B : ℕ} (grid : List (Iv B)) (p : Fraction) (x : ℕ)
    → IsFirstFound (low_cdf (2 ^ B) (low_at grid)) p (length grid) (Some x) → IsPast grid p → ⊥
not_past {B} grid p x found past =
    let same : length grid ≡ x =
    first_one (low_cdf (2 ^ B) (low_at grid)) p (length grid) (length grid) x past found.1 in
    absurd (omega (arith, same))

-- a cell is no wider than the grid
pub cell_narrow : {B : ℕ} (grid : List (Iv B)) (q : ℕ) → high_at grid q ≤ low_at grid q + spread grid
cell_narrow grid q =
    omega (arith, high_is grid q, width_within (q + 1) grid, below_more q (width_at grid))

module _ {B : ℕ} (grid : List (Iv B)) (p : Fraction) (q : ℕ) (inside : q < length grid)
    (bracket : IsBracketIn grid p q (Some q)) where
  pub not_open : IsOpen grid p → ⊥
  not_open o =
      let lo = first_one _ p (length grid) q o.lo bracket.first o.bracket.first in
      let hi = first_one (low_cdf (2 ^ B) (low_at grid)) p (length grid) q o.hi bracket.found.1 o.bracket.found.1 in
      absurd (omega arith)

  pub not_rare : (2 ^ B ≤ low_at grid q * 65536) → IsRare grid p → ⊥
  not_rare enough r =
      let same = first_one _ p (length grid) r.q q r.bracket.first bracket.first in
      absurd (omega (arith, subst (λ x. low_at grid x * 65536 < 2 ^ B) same r.rare))

  -- ---- the quantile that a bracket settles

  pub settles : (us : List Loss) (x : ℕ) → AreDeclared us → GridEncloses grid (total us)
      → IsQuantile (partial_sums us) x p → x ≡ q
  settles us x d e is =
      let around = is_around grid p q (Some q) bracket.first bracket.found us x d e is in
      omega (arith, around.1 q refl)

  pub is_quantile : (us : List Loss) → AreDeclared us → GridEncloses grid (total us) → IsQuantile (partial_sums us) q p
  is_quantile us d e =
      let held = is_bracket grid p q (Some q) bracket.first bracket.found us (are_units us d) e in
      record { reached = held.reached q refl; before = held.before }

  pub absent_rare : (us : List Loss) → AreDeclared us → GridEncloses grid (total us)
      → low_at grid q * 65536 < 2 ^ B → MayBeAbsent (partial_sums us) (length grid) p (spread grid over 2 ^ B)
  absent_rare us d e rare = inr (record {
    q = q;
    inside = inside;
    quantile = is_quantile us d e;
    rare = (high_at grid q over 2 ^ B, short, (e q inside).1);
  })
    where
      numbers : (S l w h : ℕ) → 0 < S → l * 65536 < S → h ≤ l + w → h * (65536 * S) < (1 * S + w * 65536) * S
      numbers S l w h pos few le =
          let less : h * 65536 + 1 ≤ S + w * 65536 = omega arith in
          omega (arith, mul-le-mul_right S less)

      short : high_at grid q over 2 ^ B <ℚ 1 over 65536 +ℚ spread grid over 2 ^ B
      short = subst (λ t. high_at grid q over 2 ^ B <ℚ t)
          (sym (over_add 1 65536 (spread grid) (2 ^ B) (omega arith) (pow_pos B)))
          (over_lt _ _ _ _ (pow_pos B) (omega (arith, pow_pos B))
          (numbers (2 ^ B) (low_at grid q) (spread grid) (high_at grid q) (pow_pos B) rare
          (cell_narrow grid q)))

-- ---- an open bracket

pub absent_open : {B : ℕ} (grid : List (Iv B)) (p : Fraction) (us : List Loss) → AreDeclared us
    → GridEncloses grid (total us) → IsOpen grid p
    → MayBeAbsent (partial_sums us) (length grid) p (spread grid over 2 ^ B)
absent_open grid p us d e o =
    let ends : o.hi < length grid = o.bracket.found.0 in
    let near = is_tight grid p o.lo (Some o.hi) o.bracket.first o.bracket.found us (are_units us d) e o.lo (omega arith)
    (omega arith) (λ y is. subst (λ t. o.lo < t) (same o.hi y is) o.apart) in
    inl (record { x = o.lo; inside = omega arith; at_most = near.0; at_least = near.1 })
  where
    same : (x y : ℕ) → Some x ≡ Some y → x ≡ y
    same x y e = cc
