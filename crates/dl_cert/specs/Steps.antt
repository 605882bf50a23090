-- The steps of a certificate, and what they make.
use Rattle.std.specs.Prelude.{ℕ, ◌<◌, ◌≤◌, ⊤, All, List, [], length, get_or}
use Rattle.dl_limits.specs.Limits.{most_cert_cells, most_cell_end}
use Rattle.dl_iv.specs.declared.interval.Iv.{Iv}
use Rattle.dl_cert.specs.declared.step.Kind.{Kind}
use Rattle.dl_cert.specs.declared.step.Kind.TheVariants.{One, Start, Times}
use Rattle.dl_cert.specs.Labels.{Label, no_unit, once, together}

-- the kind of a step, and its cells, in units of 1 / 2^56
pub record Step : Type 0 where
  pub kind : Kind
  pub cells : List (Iv 56)

-- no more cells than a certificate can have, each at most 1
pub record AreStepCells (cells : List (Iv 56)) : Type 0 where
  pub few : length cells ≤ most_cert_cells
  pub small : All (λ cell. cell.hi ≤ most_cell_end) cells

-- the cells of a step, and how often each unit's part is a factor of it
pub record Made : Type 0 where
  pub cells : List (Iv 56)
  pub label : Label

-- step a of the earlier ones
abbrev pub made_at : List Made → ℕ → Made
made_at before a = get_or before a (record { cells = []; label = no_unit })

-- how often each unit's part is a factor of a step, from the steps before it
abbrev pub label_of : List Made → Kind → Label
label_of before One = no_unit
label_of before (Start u) = once u
label_of before (Times a b) = together (made_at before a).label (made_at before b).label

abbrev pub made_by : List Made → Step → Made
made_by before step = record { cells = step.cells; label = label_of before step.kind }

-- the unit, or both earlier steps, that a step names are there
abbrev pub IsThere : (units steps : ℕ) → Kind → Type 0
IsThere units steps One = ⊤
IsThere units steps (Start u) = u < units
IsThere units steps (Times a b) = (a < steps) × (b < steps)
