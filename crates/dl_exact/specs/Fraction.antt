-- Fractions of whole numbers, at least 0, in lowest terms: equal fractions are one.
use Rattle.std.specs.Prelude.{ℕ, zero, ◌≡◌, ◌≢◌, ◌⊎◌, ◌==◌, ◌+◌, ◌-◌, ◌*◌, ◌/◌, ◌<◌, ◌≤◌, min, true, false}
use Rattle.std.proofs.Common.{inl, inr, refl}
use Rattle.std.proofs.Math.Nat.{zero-lt-suc, eq-zero-or-pos}
use Rattle.std.proofs.lemmas.Bool.Decides.{eqb_tells}
use Rattle.dl_exact.specs.Gcd.{euclid, gcd}

-- a number over a number above 0, with no common divisor but 1
pub record Fraction : Type 0 where
  pub num : ℕ
  pub den : ℕ
  pub positive : 0 < den
  pub lowest : gcd num den ≡ 1

-- 0 over 1
unfoldable pub nought : Fraction
unfolding gcd euclid
nought = record { num = 0; den = 1; positive = zero-lt-suc zero; lowest = refl }

-- two numbers in lowest terms, the second above 0, as a fraction; any others are read as 0
unfoldable pub read_as : (n d : ℕ) → (d ≡ 0) ⊎ (0 < d)
    → (((gcd n d == 1) ≡ true) × (gcd n d ≡ 1)) ⊎ (((gcd n d == 1) ≡ false) × (gcd n d ≢ 1))
    → Fraction
read_as n d (inl none) lowest = nought
read_as n d (inr positive) (inl lowest) =
    record { num = n; den = d; positive = positive; lowest = lowest.1 }
read_as n d (inr positive) (inr common) = nought

infix 72 ◌over◌
infixl 65 ◌+ℚ◌ ◌-ℚ◌
infixl 70 ◌*ℚ◌ ◌/ℚ◌
infix 50 ◌≤ℚ◌ ◌<ℚ◌
-- `n` over `d` with the common divisor taken out, and 0 where `d` is 0
unfoldable pub ◌over◌ : ℕ → ℕ → Fraction
n over d =
    let common : ℕ = gcd n d in
    read_as (n / common) (d / common) (eq-zero-or-pos (d / common))
    (eqb_tells (gcd (n / common) (d / common)) 1)

-- the sum
unfoldable pub ◌+ℚ◌ : Fraction → Fraction → Fraction
x +ℚ y = (x.num * y.den + y.num * x.den) over (x.den * y.den)

-- the difference, 0 where `y` is above `x`
unfoldable pub ◌-ℚ◌ : Fraction → Fraction → Fraction
x -ℚ y = (x.num * y.den - y.num * x.den) over (x.den * y.den)

-- the product
unfoldable pub ◌*ℚ◌ : Fraction → Fraction → Fraction
x *ℚ y = (x.num * y.num) over (x.den * y.den)

-- the quotient, 0 where `y` is 0
unfoldable pub ◌/ℚ◌ : Fraction → Fraction → Fraction
x /ℚ y = (x.num * y.den) over (x.den * y.num)

-- the order, by cross multiplication
unfoldable pub ◌≤ℚ◌ : Fraction → Fraction → Type 0
x ≤ℚ y = x.num * y.den ≤ y.num * x.den

-- the strict order, by cross multiplication
unfoldable pub ◌<ℚ◌ : Fraction → Fraction → Type 0
x <ℚ y = x.num * y.den < y.num * x.den

-- the whole number `n` as a fraction
abbrev pub whole : ℕ → Fraction
whole n = n over 1

-- the lesser of two fractions
unfoldable pub lesser : Fraction → Fraction → Fraction
lesser x y = min (x.num * y.den) (y.num * x.den) over (x.den * y.den)
