-- How steps are spelled: one a line.
use Rattle.std.specs.Prelude.{ℕ, ◌≡◌, ◌==◌, ◌++◌, ⊤, if◌then◌else◌, List, [], ◌∷◌, codes}
use Rattle.dl_iv.specs.declared.interval.Iv.{Iv}
use Rattle.dl_cert.specs.declared.step.Kind.TheVariants.{One, Start, Times}
use Rattle.dl_cert.specs.Steps.{Step}
use Rattle.dl_cert.specs.Spelling.{IsNumber, IsCell}

-- a byte more in the first line
abbrev pub with_byte : ℕ → List (List ℕ) → List (List ℕ)
with_byte byte [] = (byte ∷ []) ∷ []
with_byte byte (line ∷ lines) = (byte ∷ line) ∷ lines

-- the lines of a text: a newline ends a line, and so does the end of the text; behind the last
-- newline there is no line
unfoldable pub lines_of : List ℕ → List (List ℕ)
lines_of [] = []
lines_of (byte ∷ rest) =
    if byte == 10 then [] ∷ lines_of rest else with_byte byte (lines_of rest)

-- the text is these cells, a blank before each
unfoldable pub AreCells : List ℕ → List (Iv 56) → Type 0
AreCells text [] = text ≡ []
AreCells text (cell ∷ cells) = (spelled : List ℕ) × (rest : List ℕ) × IsCell spelled cell
    × AreCells rest cells × (text ≡ codes " " ++ (spelled ++ rest))

-- the line spells this step: `one`, `start U` or `times A B`, and then its cells
pub data IsStep (line : List ℕ) : Step → Type 0 where
  one : (rest : List ℕ) (cells : List (Iv 56)) → AreCells rest cells
      → line ≡ codes "one" ++ rest → IsStep line (record { kind = One; cells = cells })
  start : (text rest : List ℕ) (u : ℕ) (cells : List (Iv 56)) → IsNumber 9 text u
      → AreCells rest cells → line ≡ codes "start " ++ (text ++ rest)
      → IsStep line (record { kind = Start u; cells = cells })
  times : (first second rest : List ℕ) (a b : ℕ) (cells : List (Iv 56)) → IsNumber 9 first a
      → IsNumber 9 second b → AreCells rest cells
      → line ≡ codes "times " ++ (first ++ (codes " " ++ (second ++ rest)))
      → IsStep line (record { kind = Times a b; cells = cells })

-- each line spells its step
unfoldable pub AreSteps : List (List ℕ) → List Step → Type 0
AreSteps [] [] = ⊤
AreSteps [] (step ∷ steps) = ⊥
AreSteps (line ∷ lines) [] = ⊥
AreSteps (line ∷ lines) (step ∷ steps) = IsStep line step × AreSteps lines steps
