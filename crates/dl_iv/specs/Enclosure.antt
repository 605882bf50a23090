-- When an interval holds a fraction.
use Rattle.std.specs.Prelude.{ℕ, List, [], ◌∷◌, ◌^◌}
use Rattle.dl_exact.specs.Fraction.{Fraction, ◌over◌, ◌≤ℚ◌}
use Rattle.dl_iv.specs.declared.interval.Iv.{Iv}

-- x is at least `lo / 2^B` and at most `hi / 2^B`
pub record LiesIn {B : ℕ} (x : Fraction) (interval : Iv B) : Type 0 where
  pub low : interval.lo over 2 ^ B ≤ℚ x
  pub high : x ≤ℚ interval.hi over 2 ^ B

-- each fraction of a list lies in the interval at its place in another
pub data EachLiesIn {B : ℕ} : List Fraction → List (Iv B) → Type 0 where
  nothing : EachLiesIn [] []
  then : {x : Fraction} {xs : List Fraction} {interval : Iv B} {intervals : List (Iv B)}
      → LiesIn x interval → EachLiesIn xs intervals → EachLiesIn (x ∷ xs) (interval ∷ intervals)
