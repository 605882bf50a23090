-- Values in money as whole numbers of buckets.
use Rattle.std.specs.Prelude.{ℕ, ◌≡◌, ◌<◌, ◌≤◌, ⊤, List, length, map, All, slice_index_or}
use Rattle.dl_limits.specs.Limits.{amount_bound}
use Rattle.dl_exact.specs.Fraction.{Fraction, whole, ◌/ℚ◌, ◌<ℚ◌}
use Rattle.dl_plan.specs.Fine.{IsWhole}
use Rattle.dl_severity.specs.declared.fault.AmountFault.{AmountFault}
use Rattle.dl_severity.specs.declared.fault.AmountFault.TheVariants.{OffGrid, TooFar, OutOfMemory}

-- both parts are below 10^18
pub record HasPartsOf18Digits (x : Fraction) : Type 0 where
  pub num : x.num < amount_bound
  pub den : x.den < amount_bound

-- the value in buckets of size bs
abbrev pub buckets : Fraction → Fraction → Fraction
buckets bs x = x /ℚ bs

-- the element at i is the first that P holds of
pub record IsFirstWhere (P : Fraction → Type 0) (xs : List Fraction) (i : ℕ) : Type 0 where
  pub inside : i < length xs
  pub here : (d : Fraction) → P (slice_index_or xs i d)
  pub before : (k : ℕ) (d : Fraction) → k < i → ¬ P (slice_index_or xs k d)

-- the amounts are the values in buckets, each at most top
pub record AreInBuckets (values : List Fraction) (bs : Fraction) (top : ℕ) (made : List ℕ)
    : Type 0 where
  pub same : map whole made ≡ map (buckets bs) values
  pub near : All (λ amount. amount ≤ top) made

-- the first value that is no whole number of buckets; else the first above top of them
abbrev pub RefusesAmounts : List Fraction → Fraction → ℕ → AmountFault → Type 0
RefusesAmounts values bs top (OffGrid i) = IsFirstWhere (λ x. ¬ IsWhole (buckets bs x)) values i
RefusesAmounts values bs top (TooFar i) = All (λ x. IsWhole (buckets bs x)) values
    × IsFirstWhere (λ x. whole top <ℚ buckets bs x) values i
RefusesAmounts values bs top OutOfMemory = ⊤
