-- Between whose ends numbers lie, and grids of the powers of a severity. Ends are in units of 1/S.
use Rattle.std.specs.Prelude.{ℕ, suc, ◌+◌, ◌^◌, ◌*◌, ◌<◌, List, [], length, get_or, sum_by, zip}
use Rattle.dl_exact.specs.Fraction.{Fraction, ◌over◌, ◌≤ℚ◌}
use Rattle.dl_iv.specs.declared.interval.Iv.{Iv}
use Rattle.dl_grid.specs.Cells.{low_at, high_at}
use Rattle.dl_model.specs.Prelude.{power, cell_from, fixed, compound, GridEncloses, probability_at, IsWithinOne}
use Rattle.dl_plan.specs.declared.item.Item.{Item}

-- what `base` holds of one claim, `grid` holds of the sum of such claims whose number the table
-- lists
abbrev pub EnclosesListed : {B : ℕ} → List (Iv B) → List Item → List (Iv B) → Type 0
EnclosesListed base table grid = (f : ℕ → Fraction) → IsWithinOne f
    → GridEncloses base (compound (fixed 1) f)
    → GridEncloses grid (compound (probability_at table) f)

-- the first K values lie between ends in units of 1/S
pub record LieBetween (S K : ℕ) (lo hi : ℕ → ℕ) (c : ℕ → Fraction) : Type 0 where
  pub low : (s : ℕ) → s < K → lo s over S ≤ℚ c s
  pub high : (s : ℕ) → s < K → c s ≤ℚ hi s over S

-- they lie between the ends of the first K cells of a grid
abbrev pub Between : {B : ℕ} → ℕ → List (Iv B) → (ℕ → Fraction) → Type 0
Between {B} K grid c = LieBetween (2 ^ B) K (low_at grid) (high_at grid) c

-- between the ends of each grid of a list lies its own of many sequences
abbrev pub AreBetween : {B : ℕ} → ℕ → (ℕ → ℕ → Fraction) → List (List (Iv B)) → Type 0
AreBetween K c grids = (n : ℕ) → n < length grids → Between K (get_or grids n []) (c n)

-- grids of no claim, of one claim, of two claims and so on: the powers of f lie between their ends
abbrev pub ArePowers : {B : ℕ} → ℕ → (ℕ → Fraction) → List (List (Iv B)) → Type 0
ArePowers K f grids = AreBetween K (power f) grids

-- the sum of the grids' ends at one place, each times its weight
abbrev pub mixture_end : {B : ℕ} → List ℕ → List (List (Iv B)) → (List (Iv B) → ℕ) → ℕ
mixture_end weights grids end = sum_by (λ pair. pair.0 * end pair.1) (zip weights grids)

-- a grid for each block of m + 1 counts: between the ends of grid i lies the sum over k from 0 to m
-- of w (i * (m + 1) + k) * power f k
abbrev pub AreParts : {B : ℕ} → ℕ → (w f : ℕ → Fraction) → ℕ → List (List (Iv B)) → Type 0
AreParts K w f m parts = AreBetween K (λ i s. cell_from w f (i * suc m) s m) parts

-- such blocks, and the grid of m + 1 claims, by which two neighbours are joined; all of them are
-- probabilities
pub record ArePairable {B : ℕ} (K : ℕ) (w f : ℕ → Fraction) (m : ℕ) (parts : List (List (Iv B)))
    (step : List (Iv B)) : Type 0 where
  pub counts : IsWithinOne w
  pub amounts : IsWithinOne f
  pub of_parts : AreParts K w f m parts
  pub of_step : Between K step (power f (suc m))

-- a block of counts, a step and the counts after: between the ends of three grids lie the sum over
-- i from 0 to m of w (k + i) * power f i, the power of m + 1 claims, and the sum over i from 0 to n
-- of w (k + m + 1 + i) * power f i; all weights and amounts are probabilities
pub record IsStep {B : ℕ} (K : ℕ) (w f : ℕ → Fraction) (k m n : ℕ)
    (block step later : List (Iv B)) : Type 0 where
  pub counts : IsWithinOne w
  pub amounts : IsWithinOne f
  pub of_block : Between K block (λ s. cell_from w f k s m)
  pub of_step : Between K step (power f (suc m))
  pub of_later : Between K later (λ s. cell_from w f (k + suc m) s n)
