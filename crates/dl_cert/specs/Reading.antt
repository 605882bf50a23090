-- Lines that are read from the left.
use Rattle.std.specs.Prelude.{ℕ, ◌≡◌, ◌≤◌, ◌==◌, Bool, List, ◌∷◌, drop, length}
use Rattle.std.specs.List.{before_first, position_or_len}
use Rattle.dl_iv.specs.declared.interval.Iv.{Iv}
use Rattle.dl_cert.specs.declared.step.Kind.{Kind}
use Rattle.dl_cert.specs.Steps.{Step}
use Rattle.dl_cert.specs.Lines.{AreCells, IsStep}

-- a blank, and a newline
abbrev pub is_blank : ℕ → Bool
is_blank byte = byte == 32

abbrev pub is_newline : ℕ → Bool
is_newline byte = byte == 10

-- the line that begins at a place of a text
abbrev pub line_from : List ℕ → ℕ → List ℕ
line_from text offset = before_first is_newline (drop offset text)

-- the bytes before the first blank, and those from it on
abbrev pub first_word : List ℕ → List ℕ
first_word text = before_first is_blank text

abbrev pub after_word : List ℕ → List ℕ
after_word text = drop (position_or_len is_blank text) text

-- the text spells this cell and then what is spelled by the rest, and nothing else
pub record BeginsCell (text : List ℕ) (cell : Iv 56) (rest : List ℕ) : Type 0 where
  pub spells : (cells : List (Iv 56)) → AreCells rest cells → AreCells text (cell ∷ cells)
  pub only : (other : Iv 56) (cells : List (Iv 56)) → AreCells text (other ∷ cells)
      → (other ≡ cell) × AreCells rest cells

-- the line spells steps of this kind and no others, with the cells that are spelled by the rest
pub record BeginsStep (line : List ℕ) (kind : Kind) (rest : List ℕ) : Type 0 where
  pub spells : (cells : List (Iv 56)) → AreCells rest cells
      → IsStep line (record { kind = kind; cells = cells })
  pub only : (step : Step) → IsStep line step → (step.kind ≡ kind) × AreCells rest step.cells

-- the same, with the cells from a place of the line on
abbrev pub AreStepWords : List ℕ → Kind → ℕ → Type 0
AreStepWords line kind next = BeginsStep line kind (drop next line) × (next ≤ length line)

-- the line spells no step
abbrev pub IsNoStep : List ℕ → Type 0
IsNoStep line = (step : Step) → ¬ IsStep line step
