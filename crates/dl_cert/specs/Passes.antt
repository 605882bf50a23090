-- When a step passes its test, and when steps are a certificate of a plan's total.
use Rattle.std.specs.Prelude.{ℕ, ◌≡◌, ◌⊎◌, ◌<◌, ◌≤◌, ⊤, List, [], ◌∷◌, ◌++◌, length}
use Rattle.dl_iv.specs.declared.interval.Iv.{Iv}
use Rattle.dl_grid.specs.Cells.{low_at, high_at, mass_low}
use Rattle.dl_plan.specs.declared.plan.Plan.{Plan}
use Rattle.dl_cert.specs.Targets.{target}
use Rattle.dl_cert.specs.Steps.{Step, Made, made_by, label_of, IsThere}
use Rattle.dl_cert.specs.Numbers.{one, low_number, high_number}

-- A step passes after earlier ones: what it names is there, it has the plan's cells, it counts no
-- unit more often than the target does, its low ends sum to at most 1, and each low end is at most,
-- and each high end at least, its number; a high end of 1 always passes.
pub record Passes (plan : Plan) (before : List Made) (step : Step) : Type 0 where
  pub there : IsThere (length plan.units) (length before) step.kind
  pub cells : length step.cells ≡ plan.cells
  pub label : (i : ℕ) → label_of before step.kind i ≤ target plan i
  pub mass : mass_low step.cells ≤ one
  pub low : (y : ℕ) → y < plan.cells
      → low_at step.cells y ≤ low_number plan.units before step.kind (low_at step.cells) y
  pub high : (y : ℕ) → y < plan.cells
      → (high_number plan.units before step.kind (high_at step.cells) y ≤ high_at step.cells y)
      ⊎ (one ≤ high_at step.cells y)

-- each step passes after those before it
abbrev pub AllPass : Plan → List Made → List Step → Type 0
AllPass plan before [] = ⊤
AllPass plan before (step ∷ steps) =
    Passes plan before step × AllPass plan (before ++ made_by before step ∷ []) steps

-- all steps with their labels, the earlier ones first
abbrev pub made_after : List Made → List Step → List Made
made_after before [] = before
made_after before (step ∷ steps) = made_after (before ++ made_by before step ∷ []) steps

-- All steps pass, and the last one has the label of the target and this grid.
pub record Certifies (plan : Plan) (steps : List Step) (grid : List (Iv 56)) : Type 0 where
  pub pass : AllPass plan [] steps
  pub before : List Made
  pub last : Made
  pub made : made_after [] steps ≡ before ++ last ∷ []
  pub label : (i : ℕ) → last.label i ≡ target plan i
  pub cells : grid ≡ last.cells
