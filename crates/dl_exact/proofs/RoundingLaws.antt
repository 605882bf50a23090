-- Quotients of whole numbers are floors and ceilings, and there is one of each.
use Rattle.dl_exact.proofs.Common.{◌≡◌, ℕ, ◌*◌, ◌/◌, ◌<◌, ◌≤◌, arith, inl, inr, subst, mul-le-mul_left, cases_lt, div_ceil, Fraction, ◌over◌, ◌≤ℚ◌, whole, IsFloor, IsCeiling, le-div, div_ceil_times, up}
use Rattle.std.proofs.Math.Nat.{div-mul-le_self, mul-le-mul_right}
use Rattle.dl_exact.proofs.Over.{over_le, le_over, over_self}
use Rattle.dl_exact.proofs.Laws.{one_pos}

-- whole numbers stand as their fractions do
pub whole_le : (m n : ℕ) → m ≤ n → whole m ≤ℚ whole n
whole_le m n h = over_le m 1 n 1 one_pos one_pos (omega arith)

pub le_whole : (m n : ℕ) → whole m ≤ℚ whole n → m ≤ n
le_whole m n h = omega (arith, le_over m 1 n 1 one_pos one_pos h)

-- the least number whose product with d reaches n
pub div_ceil_least : (n d m : ℕ) → 0 < d → n ≤ m * d → div_ceil n d ≤ m
div_ceil_least n d m pos h = elim (cases_lt m (div_ceil n d)) [
  | inl far ↦ absurd (omega (arith, (div_ceil_times n d pos).1, mul-le-mul_right d far))
  | inr near ↦ near
]

-- the least whole number that is not below x is not below x
pub up_above : (x : Fraction) → x ≤ℚ whole (up x)
unfolding up
up_above x = subst (λ y. y ≤ℚ whole (up x)) (over_self x) (over_le x.num x.den (div_ceil x.num x.den) 1 x.positive one_pos
    (omega (arith, (div_ceil_times x.num x.den x.positive).0)))

-- and no whole number that is not is less
pub up_least : (x : Fraction) (n : ℕ) → x ≤ℚ whole n → up x ≤ n
unfolding up
up_least x n h = div_ceil_least x.num x.den n x.positive
    (omega (arith, le_over x.num x.den n 1 x.positive one_pos (rw (over_self x) h)))

-- a part of a number, rounded up, is not above it
pub part_within : (n a b : ℕ) → 0 < b → a ≤ b → div_ceil (n * a) b ≤ n
part_within n a b pos within = div_ceil_least (n * a) b n pos (mul-le-mul_left n within)

pub floor_div : (n d : ℕ) → 0 < d → IsFloor (n over d) (n / d)
floor_div n d pos = record {
  below = over_le (n / d) 1 n d one_pos pos (omega (arith, div-mul-le_self n d));
  greatest = λ m h. le-div m n d pos (omega (arith, le_over m 1 n d one_pos pos h));
}

pub ceiling_div : (n d : ℕ) → 0 < d → IsCeiling (n over d) (div_ceil n d)
ceiling_div n d pos = record {
  above = over_le n d (div_ceil n d) 1 pos one_pos (omega (arith, (div_ceil_times n d pos).0));
  least = λ m h. div_ceil_least n d m pos (omega (arith, le_over n d m 1 pos one_pos h));
}

-- there is one floor and one ceiling
pub floor_one : (x : Fraction) (m n : ℕ) → IsFloor x m → IsFloor x n → m ≡ n
floor_one x m n p q = omega (arith, p.greatest n q.below, q.greatest m p.below)

pub ceiling_one : (x : Fraction) (m n : ℕ) → IsCeiling x m → IsCeiling x n → m ≡ n
ceiling_one x m n p q = omega (arith, p.least n q.above, q.least m p.above)
