-- Series of fractions, and the value that one declares over another: a quotient of least upper
-- bounds, said without real numbers.
use Rattle.std.specs.Prelude.{ℕ, suc, ◌≡◌, ◌↔◌}
use Rattle.dl_exact.specs.Fraction.{Fraction, whole, ◌+ℚ◌, ◌*ℚ◌, ◌≤ℚ◌, ◌<ℚ◌}

-- a fraction for each level N, the bound on the number of claims
abbrev pub Series : Type 0
Series = ℕ → Fraction

-- no term of R is above u
abbrev pub IsBound : Series → Fraction → Type 0
IsBound R u = (N : ℕ) → R N ≤ℚ u

-- The declared value of Q over R is the least upper bound of Q divided by that of R.
-- it is at most h
abbrev pub AtMost : Series → Series → Fraction → Type 0
AtMost Q R h = (N : ℕ) (u : Fraction) → IsBound R u → Q N ≤ℚ h *ℚ u

-- it is at least l
abbrev pub AtLeast : Series → Series → Fraction → Type 0
AtLeast Q R l = (N : ℕ) (u : Fraction) → IsBound Q u → l *ℚ R N ≤ℚ u

-- it lies from l to h
abbrev pub Holds : Series → Series → Fraction → Fraction → Type 0
Holds Q R l h = AtLeast Q R l × AtMost Q R h

-- it is below v
abbrev pub Below : Series → Series → Fraction → Type 0
Below Q R v = (h : Fraction) × (h <ℚ v) × AtMost Q R h

-- Q never falls
abbrev pub Rises : Series → Type 0
Rises Q = (N : ℕ) → Q N ≤ℚ Q (suc N)

-- the sum, level by level
abbrev pub plus : Series → Series → Series
plus Q R N = Q N +ℚ R N

-- the product, level by level
abbrev pub times : Series → Series → Series
times Q R N = Q N *ℚ R N

-- Q and R have the same upper bounds, so the same least one
abbrev pub SameBounds : Series → Series → Type 0
SameBounds Q R = (u : Fraction) → IsBound Q u ↔ IsBound R u

-- the declared value of Q over R is that of Q' over R'
abbrev pub SameValue : Series → Series → Series → Series → Type 0
SameValue Q R Q' R' = ((l : Fraction) → AtLeast Q R l ↔ AtLeast Q' R' l) ×
    ((h : Fraction) → AtMost Q R h ↔ AtMost Q' R' h)

-- L is the least upper bound of Q
abbrev pub IsLeastBound : Series → Fraction → Type 0
IsLeastBound Q L = IsBound Q L × ((u : Fraction) → IsBound Q u → L ≤ℚ u)

-- R comes near its least upper bound: for each part p of 1, some term is at least p times every
-- term
abbrev pub Settles : Series → Type 0
Settles R = (p q : Fraction) → p +ℚ q ≡ whole 1 → whole 0 <ℚ q
    → (level : ℕ) × ((N : ℕ) → p *ℚ R N ≤ℚ R level)
