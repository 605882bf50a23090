-- The record of the steps that have passed: where each begins in the text, and its label.
use Rattle.std.specs.Prelude.{ℕ, ◌≡◌, ◌+◌, ◌*◌, ◌<◌, ◌≤◌, List, [], ◌++◌, length, get_or, drop, nat_eq, if◌then◌else◌}
use Rattle.dl_grid.specs.Cells.{IsGrid}
use Rattle.dl_plan.specs.declared.plan.Plan.{Plan}
use Rattle.dl_cert.specs.declared.step.Kind.{Kind}
use Rattle.dl_cert.specs.declared.step.Kind.TheVariants.{One, Start, Times}
use Rattle.dl_cert.specs.Lines.{lines_of, IsStep, AreSteps}
use Rattle.dl_cert.specs.Passes.{AllPass, made_after}
use Rattle.dl_cert.specs.Reading.{line_from}
use Rattle.dl_cert.specs.Steps.{Step, Made, made_at}

-- the line at this place of the text spells a step with these cells, which are a grid of the plan
pub record IsStepAt (plan : Plan) (text : List ℕ) (offset : ℕ) (made : Made) : Type 0 where
  pub inside : offset ≤ length text
  pub kind : Kind
  pub spelled : IsStep (line_from text offset) (record { kind = kind; cells = made.cells })
  pub cells : length made.cells ≡ plan.cells
  pub grid : IsGrid made.cells

-- the counts of units of the label of step k, out of one list for all steps
abbrev pub label_at : List ℕ → (units k : ℕ) → ℕ → ℕ
label_at labels units k i = get_or labels (k * units + i) 0

-- how often a step of this kind counts unit i, by that list
abbrev pub count_by : List ℕ → (units : ℕ) → Kind → ℕ → ℕ
count_by labels units One i = 0
count_by labels units (Start u) i = if nat_eq i u then 1 else 0
count_by labels units (Times a b) i = label_at labels units a i + label_at labels units b i

-- the counts of each unit, none above its target
pub record IsRow (labels : List ℕ) (units : ℕ) (kind : Kind) (targets row : List ℕ) : Type 0 where
  pub long : length row ≡ units
  pub counts : (i : ℕ) → i < units → get_or row i 0 ≡ count_by labels units kind i
  pub within : (i : ℕ) → i < units → get_or row i 0 ≤ get_or targets i 0

-- a unit is counted more often than its target
pub record IsOver (labels : List ℕ) (units : ℕ) (kind : Kind) (targets : List ℕ) : Type 0 where
  pub unit : ℕ
  pub inside : unit < units
  pub over : get_or targets unit 0 < count_by labels units kind unit

-- the places and the labels are those of the earlier steps
pub record HavePassed (plan : Plan) (text offsets labels : List ℕ) (before : List Made)
    : Type 0 where
  pub many : length offsets ≡ length before
  pub long : length labels ≡ length before * length plan.units
  pub steps_at : (k : ℕ) → k < length before
      → IsStepAt plan text (get_or offsets k 0) (made_at before k)
  pub counts : (k i : ℕ) → k < length before → i < length plan.units
      → (made_at before k).label i ≡ label_at labels (length plan.units) k i
  pub others : (k i : ℕ) → length plan.units ≤ i → (made_at before k).label i ≡ 0

-- up to a place of the text each line is a step that passes, and these are kept
pub record HasPassedTo (plan : Plan) (text : List ℕ) (offset : ℕ) (offsets labels : List ℕ)
    : Type 0 where
  pub lines : List (List ℕ)
  pub steps : List Step
  pub split : lines_of text ≡ lines ++ lines_of (drop offset text)
  pub spelled : AreSteps lines steps
  pub pass : AllPass plan [] steps
  pub so_far : HavePassed plan text offsets labels (made_after [] steps)
