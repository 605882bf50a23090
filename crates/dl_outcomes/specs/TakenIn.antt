-- Where a clause takes the cells of a grid. The ends of the cells are f s at the sum s, in units of
-- 1 / S.
use Rattle.std.specs.Prelude.{ℕ, ◌≡◌, ◌-◌, ◌^◌, ◌≤◌, min, nat_eq, if◌then◌else◌, Some, List, length}
use Rattle.dl_iv.specs.declared.interval.Iv.{Iv}
use Rattle.dl_grid.specs.Cells.{low_at, high_at}
use Rattle.dl_plan.specs.Clause.{Clause, kept}
use Rattle.dl_exact.specs.Count.{count_below}
use Rattle.dl_model.specs.Plans.{outcome_after}

-- the width of cell s, 0 past the end
abbrev pub width_at : {B : ℕ} → List (Iv B) → ℕ → ℕ
width_at cells s = high_at cells s - low_at cells s

-- the end at s where the outcome of s is a whole number, else 0: no other sum of claims
-- occurs
unfoldable pub where_whole : Clause → (ℕ → ℕ) → ℕ → ℕ
where_whole clause f s = if nat_eq (kept clause s).den 1 then f s else 0

-- the sum of the ends at the sums of claims below n whose outcome is y
abbrev pub sum_kept : Clause → ℕ → (ℕ → ℕ) → ℕ → ℕ
sum_kept clause n f y = count_below n (λ s. if nat_eq (outcome_after (Some clause) s) y
    then where_whole clause f s else 0)

-- the same for those whose outcome is another
abbrev pub sum_elsewhere : Clause → ℕ → (ℕ → ℕ) → ℕ → ℕ
sum_elsewhere clause n f y = count_below n (λ s. if nat_eq (outcome_after (Some clause) s) y then 0
    else where_whole clause f s)

-- cell y of a grid is the sum of the cells of all sums of claims whose outcome is y; its high end
-- is at most 1
pub record IsTakenIn {B : ℕ} (clause : Clause) (sums grid : List (Iv B)) (y : ℕ) : Type 0 where
  pub low : low_at grid y ≡ sum_kept clause (length sums) (low_at sums) y
  pub high : high_at grid y ≡ min (2 ^ B) (sum_kept clause (length sums) (high_at sums) y)

-- cell y is 1 less the cells of all sums with another outcome, whose low ends add up to at most 1
pub record IsLeft {B : ℕ} (clause : Clause) (sums grid : List (Iv B)) (y : ℕ) : Type 0 where
  pub low : low_at grid y ≡ 2 ^ B - sum_elsewhere clause (length sums) (high_at sums) y
  pub high : high_at grid y ≡ 2 ^ B - sum_elsewhere clause (length sums) (low_at sums) y
  pub within : sum_elsewhere clause (length sums) (low_at sums) y ≤ 2 ^ B
