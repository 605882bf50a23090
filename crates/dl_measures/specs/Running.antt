-- The running sums of the ends of a grid's cells, with marks at every 64th cell.
use Rattle.std.specs.Prelude.{ℕ, suc, ◌≡◌, ◌<◌, ◌≤◌, ◌+◌, ◌-◌, ◌*◌, ◌^◌, List, length, get_or, All}
use Rattle.dl_limits.specs.Limits.{most_cell_end}
use Rattle.dl_exact.specs.Count.{count_below}
use Rattle.dl_measures.specs.declared.marks.Mark.{Mark}

-- an end by its place, 0 past the last
abbrev pub end_at : List ℕ → ℕ → ℕ
end_at ends x = get_or ends x 0

-- the sum of f below n, and the sum of what the sums of f below 1, 2, .. n leave of `one`
pub record IsMark (one : ℕ) (f : ℕ → ℕ) (n : ℕ) (mark : Mark) : Type 0 where
  pub sum : mark.sum ≡ count_below n f
  pub rest : mark.rest ≡ count_below n (λ x. one - count_below (suc x) f)

-- so few ends, and so small, that their sums fit
pub record AreFew (one : ℕ) (ends : List ℕ) : Type 0 where
  pub few : length ends ≤ 2 ^ 20
  pub small : All (λ end. end ≤ most_cell_end) ends
  pub unit : one ≤ most_cell_end

-- mark m is that of the first (m + 1) * 64 ends
pub record AreMarks (one : ℕ) (ends : List ℕ) (marks : List Mark) : Type 0 where
  pub within : length marks * 64 ≤ length ends
  pub each : (m : ℕ) (d : Mark) → m < length marks → IsMark one (end_at ends) ((m + 1) * 64) (get_or marks m d)

-- few ends with marks
pub record IsRunning (one : ℕ) (ends : List ℕ) (marks : List Mark) : Type 0 where
  pub few : AreFew one ends
  pub marked : AreMarks one ends marks

-- they are the ends of the n cells of a grid, in units of 1 / one
pub record IsRunningOf (one : ℕ) (f : ℕ → ℕ) (n unit : ℕ) (ends : List ℕ) (marks : List Mark) : Type 0 where
  pub units : unit ≡ one
  pub long : length ends ≡ n
  pub each : end_at ends ≡ f
  pub running : IsRunning unit ends marks
