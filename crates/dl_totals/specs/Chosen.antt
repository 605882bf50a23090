-- Some of the units, picked by their places.
use Rattle.std.specs.Prelude.{ℕ, zero, suc, ◌≡◌, ◌<◌, ◌≤◌, nat_lt, Bool, false, if◌then◌else◌, List, [], ◌∷◌, length, get_or, Some}
use Rattle.std.specs.List.{sum_by}
use Rattle.dl_iv.specs.declared.interval.Iv.{Iv}
use Rattle.dl_model.specs.Program.{Loss}
use Rattle.dl_totals.specs.Shared.{IsSumOfPart}

-- the units whose place passes the test, in order
abbrev pub chosen : List Loss → (ℕ → Bool) → List Loss
chosen [] p = []
chosen (u ∷ us) p =
    if p zero then u ∷ chosen us (λ i. p (suc i)) else chosen us (λ i. p (suc i))

-- how many of the tests a place passes
abbrev pub passed : List (ℕ → Bool) → ℕ → ℕ
passed tests i = sum_by (λ p. if p i then 1 else 0) tests

-- a place passes some test
abbrev pub in_some : List (ℕ → Bool) → ℕ → Bool
in_some tests i = nat_lt 0 (passed tests i)

-- no place passes two of them
abbrev pub AreApart : List (ℕ → Bool) → Type 0
AreApart tests = (i : ℕ) → passed tests i ≤ 1

-- the test that no place passes
abbrev pub no_choice : ℕ → Bool
no_choice i = false

-- each of the sums, of k cells, encloses the sum of the units that its test picks
pub record AreSumsOfChosen {B : ℕ} (k : ℕ) (grids sums : List (List (Iv B)))
    (tests : List (ℕ → Bool)) : Type 0 where
  pub as_many : length tests ≡ length sums
  pub each : (j : ℕ) → j < length sums
      → IsSumOfPart k grids (λ us. chosen us (get_or tests j no_choice)) (Some (get_or sums j []))

-- each of the sums encloses that of some units, and every unit is in as many of them as it is in by
-- these tests
pub record KeepsChosen {B : ℕ} (k : ℕ) (grids sums : List (List (Iv B)))
    (tests : List (ℕ → Bool)) : Type 0 where
  pub now : List (ℕ → Bool)
  pub are : AreSumsOfChosen k grids sums now
  pub same : (i : ℕ) → passed now i ≡ passed tests i
