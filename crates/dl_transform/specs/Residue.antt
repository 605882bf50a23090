-- Remainders by p.
use Rattle.std.specs.Prelude.{ℕ, ◌≡◌, ◌+◌, ◌*◌, ◌%◌, ◌^◌, ◌<◌, ◌≤◌, List, slice_index}

-- a and b leave the same remainder by p
pub record Same (p a b : ℕ) : Type 0 where
  pub is : a % p ≡ b % p

-- p has 62 bits, with room for a few times p in a word, and two such numbers pass 2^123 together
pub record IsModulus (p : ℕ) : Type 0 where
  pub large : 3 * 2 ^ 60 ≤ p
  pub small : p < 2 ^ 62

-- p is such a number, and k the inverse of -p modulo 2^64
pub record HasInverse (p k : ℕ) : Type 0 where
  pub modulus : IsModulus p
  pub inverse : (p * k + 1) % 2 ^ 64 ≡ 0

-- q is the quotient that a product by the factor w needs: w * 2^64 / p, rounded down
pub record IsFactor (p w q : ℕ) : Type 0 where
  pub below : w < p
  pub low : q * p ≤ w * 2 ^ 64
  pub high : w * 2 ^ 64 < q * p + p

-- w and v with their quotients q and r: the square of w is s, and v is the inverse of w
pub record IsPair (p w q v r s : ℕ) : Type 0 where
  pub factor : IsFactor p w q
  pub inverse_factor : IsFactor p v r
  pub inverse : Same p (w * v) 1
  pub square : Same p (w * w) s

-- w is item k of a list, and q its quotient
pub record IsFactorAt (p : ℕ) (xs : List ℕ) (k w q : ℕ) : Type 0 where
  pub value : w ≡ slice_index xs k
  pub factor : IsFactor p w q
