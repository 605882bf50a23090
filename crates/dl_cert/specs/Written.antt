-- The text of a certificate, step by step.
use Rattle.std.specs.Prelude.{ℕ, zero, suc, ◌≡◌, ◌≤◌, ◌<◌, ◌++◌, ⊤, nat_eq, nat_lt, Option, Some, None, if◌then◌else◌, List, [], ◌∷◌, length, All, codes}
use Rattle.std.specs.Fmt.{decimal}
use Rattle.dl_limits.specs.Limits.{step_bound}
use Rattle.dl_iv.specs.declared.interval.Iv.{Iv}
use Rattle.dl_grid.specs.Cells.{low_at, high_at}
use Rattle.dl_plan.specs.declared.plan.Plan.{Plan}
use Rattle.dl_cert.specs.declared.step.Kind.{Kind}
use Rattle.dl_cert.specs.declared.step.Kind.TheVariants.{One, Start, Times}
use Rattle.dl_cert.specs.Labels.{Label}
use Rattle.dl_cert.specs.Numbers.{one}
use Rattle.dl_cert.specs.declared.steps.Factor.{Factor}
use Rattle.dl_cert.specs.Steps.{Step, Made, made_at}
use Rattle.dl_cert.specs.Targets.{target}
use Rattle.dl_cert.specs.Passes.{AllPass, made_after}
use Rattle.dl_cert.specs.Verified.{AllExact}

-- a blank and the ends of a cell, with a comma between
abbrev pub cell_text : (lo hi : ℕ) → List ℕ
cell_text lo hi = codes " " ++ (decimal lo ++ (codes "," ++ decimal hi))

-- the first n cells with these ends
unfoldable pub cells_text : (lo hi : ℕ → ℕ) → ℕ → List ℕ
cells_text lo hi zero = []
cells_text lo hi (suc n) = cell_text (lo zero) (hi zero) ++ cells_text (λ x. lo (suc x)) (λ x. hi (suc x)) n

-- the kind of a step
abbrev pub kind_text : Kind → List ℕ
kind_text One = codes "one"
kind_text (Start u) = codes "start " ++ decimal u
kind_text (Times a b) = codes "times " ++ (decimal a ++ (codes " " ++ decimal b))

-- the line of a step
abbrev pub line_of : Step → List ℕ
line_of step = kind_text step.kind
    ++ cells_text (low_at step.cells) (high_at step.cells) (length step.cells)

-- the lines of steps, each ended by a newline
unfoldable pub text_of : List Step → List ℕ
text_of [] = []
text_of (step ∷ steps) = line_of step ++ (10 ∷ text_of steps)

-- the numbers that a kind names have at most 9 digits
abbrev pub Named : Kind → Type 0
Named One = ⊤
Named (Start u) = u < step_bound
Named (Times a b) = (a < step_bound) × (b < step_bound)

-- a step of the plan's cells whose numbers can be spelled
pub record CanBeWritten (plan : Plan) (step : Step) : Type 0 where
  pub named : Named step.kind
  pub small : All (λ cell. cell.hi ≤ one) step.cells
  pub cells : length step.cells ≡ plan.cells

-- The text is the lines of so many steps that pass, each as narrow as it can be; this is what they
-- make.
pub record IsWritten (plan : Plan) (text : List ℕ) (count : ℕ) (made : List Made) : Type 0 where
  pub steps : List Step
  pub lines : text ≡ text_of steps
  pub can_be : All (CanBeWritten plan) steps
  pub pass : AllPass plan [] steps
  pub exact : AllExact plan [] steps
  pub makes : made_after [] steps ≡ made
  pub many : length made ≡ count

-- step k of these has these cells and this label
pub record IsMade (made : List Made) (k : ℕ) (cells : List (Iv 56)) (label : Label) : Type 0 where
  pub there : k < length made
  pub same : (made_at made k).cells ≡ cells
  pub label_is : (i : ℕ) → (made_at made k).label i ≡ label i

-- So many steps are written, these and perhaps later ones: step k is the last, with these cells
-- and this label.
pub record EndsWith (plan : Plan) (text : List ℕ) (count : ℕ) (before : List Made) (k : ℕ)
    (cells : List (Iv 56)) (label : Label) : Type 0 where
  pub later : List Made
  pub written : IsWritten plan text count (before ++ later)
  pub step : IsMade (before ++ later) k cells label
  pub last : suc k ≡ length (before ++ later)

-- unit u so often, and no other
abbrev pub often : ℕ → ℕ → Label
often u n i = if nat_eq i u then n else 0

-- the first u units as often as the target says, and no other
abbrev pub first_of : Plan → ℕ → Label
first_of plan u i = if nat_lt i u then target plan i else 0

-- The sum of the first u units: no step where none of them counts, else the last step.
abbrev pub IsSum : Plan → ℕ → List ℕ → ℕ → Option Factor → Type 0
IsSum plan u text count None = IsWritten plan text count [] × ((i : ℕ) → i < u → target plan i ≡ 0)
IsSum plan u text count (Some sum) =
    EndsWith plan text count [] sum.step sum.grid (first_of plan u)

-- the sum of the first u units among these steps: none where none of them counts
abbrev pub IsBefore : Plan → ℕ → List Made → Option Factor → Type 0
IsBefore plan u made None = (i : ℕ) → i < u → target plan i ≡ 0
IsBefore plan u made (Some sum) = IsMade made sum.step sum.grid (first_of plan u)
