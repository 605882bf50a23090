-- The flaws of a text: of each rule that reading it can break, the first place where it is broken.
-- A rule is asked of a unit only where the unit keeps the rules before it.
use Rattle.std.specs.Prelude.{ℕ, take, Bool, true, false, List, [], ◌∷◌, ◌≡◌, ⊤, Option, Some, None}
use Rattle.dl_lexer.specs.declared.token.Span.{Span}
use Rattle.dl_reading.specs.declared.flaws.Flaws.{Flaws}
use Rattle.dl_reading.specs.declared.flaws.Gridded.{Gridded}
use Rattle.dl_reading.specs.First.{◌else◌}

abbrev pub no_flaws : Flaws
no_flaws = record {
  numeral = None;
  range = None;
  long = None;
  lengths = None;
  sum = None;
  off_grid = None;
  too_far = None;
}

-- those of a part, and else those of a later one
abbrev pub flaws_else : Flaws → Flaws → Flaws
flaws_else first second = record {
  numeral = first.numeral else second.numeral;
  range = first.range else second.range;
  long = first.long else second.long;
  lengths = first.lengths else second.lengths;
  sum = first.sum else second.sum;
  off_grid = first.off_grid else second.off_grid;
  too_far = first.too_far else second.too_far;
}

-- those of a unit's own part, which precedes its severity, and of that severity; a named severity
-- is written before all units
abbrev pub earlier_flaws : Bool → Flaws → Flaws → Flaws
earlier_flaws true own severity = flaws_else severity own
earlier_flaws false own severity = flaws_else own severity

-- those of a part that may be missing, and of a list of parts
abbrev pub flaws_within : {A : Type 0} → (A → Flaws) → Option A → Flaws
flaws_within f None = no_flaws
flaws_within f (Some x) = f x

unfoldable pub flaws_in : {A : Type 0} → (A → Flaws) → List A → Flaws
flaws_in f [] = no_flaws
flaws_in f (x ∷ xs) = flaws_else (f x) (flaws_in f xs)

-- ---- a place of one rule alone

abbrev pub numeral_at : Option Span → Flaws
numeral_at span = record no_flaws { numeral = span }

abbrev pub range_at : Option Span → Flaws
range_at span = record no_flaws { range = span }

abbrev pub long_at : Option Span → Flaws
long_at span = record no_flaws { long = span }

abbrev pub lengths_at : Option Span → Flaws
lengths_at span = record no_flaws { lengths = span }

abbrev pub sum_at : Option Span → Flaws
sum_at span = record no_flaws { sum = span }

-- ---- a text with its flaws that was read

-- the places in the order of the rules
abbrev pub spans : Flaws → List (Option Span)
spans f =
    f.numeral ∷ f.range ∷ f.long ∷ f.lengths ∷ f.sum ∷ f.off_grid ∷ f.too_far ∷ []

-- the same up to the first rule that is broken
abbrev pub AgreeToFirst : List (Option Span) → List (Option Span) → Type 0
AgreeToFirst [] ys = ⊤
AgreeToFirst (x ∷ xs) [] = ⊤
AgreeToFirst (x ∷ xs) (y ∷ ys) = (x ≡ y) × (y ≡ None → AgreeToFirst xs ys)

abbrev pub AreNone : List (Option Span) → Type 0
AreNone [] = ⊤
AreNone (x ∷ xs) = (x ≡ None) × AreNone xs

-- the same as far as the rules on the lengths of lists
abbrev pub AgreeOnLists : Flaws → Flaws → Type 0
AgreeOnLists made flaws = AgreeToFirst (take 4 (spans made)) (take 4 (spans flaws))

-- the rules on numerals, ranges and the lengths of lists are kept
abbrev pub KeepsLists : Flaws → Type 0
KeepsLists flaws = AreNone (take 3 (spans flaws))

-- and that on lists that belong together
abbrev pub KeepsLengths : Flaws → Type 0
KeepsLengths flaws = AreNone (take 4 (spans flaws))

-- no rule is broken
abbrev pub IsClean : Flaws → Type 0
IsClean flaws = AreNone (spans flaws)

-- the first broken rule and its place are those of the text; the part is the one in whole buckets
-- as soon as the text keeps so many of the first rules
pub record IsReadTo {A : Type 0} (rules : ℕ) (flaws : Flaws) (part : A) (made : Gridded A) : Type 0 where
  pub first : AgreeToFirst (spans made.flaws) (spans flaws)
  pub right : AreNone (take rules (spans flaws)) → made.part ≡ part

-- the same, where the part is right if no rule is broken
abbrev pub IsRead : {A : Type 0} → Flaws → A → Gridded A → Type 0
IsRead flaws part made = IsReadTo 7 flaws part made
