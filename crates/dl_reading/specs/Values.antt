-- The values of a text: of each numeral its value, of each list the values of its items.
use Rattle.std.specs.Prelude.{ℕ, ◌<◌, ⊤, Bool, List, map, flat_map, Option, Some, None}
use Rattle.dl_exact.specs.Fraction.{Fraction, whole}
use Rattle.dl_frac.specs.Numerals.{numeral_value, is_bad}
use Rattle.dl_limits.specs.declared.rules.Bounds.{Bounds}
use Rattle.dl_severity.specs.declared.range.Range.{Range}
use Rattle.dl_severity.specs.declared.fault.ExpandFault.{ExpandFault}
use Rattle.dl_severity.specs.declared.fault.ExpandFault.TheVariants.{TooLong, OutOfMemory}
use Rattle.dl_severity.specs.Ranges.{range_values}
use Rattle.dl_lexer.specs.declared.token.Span.{Span}
use Rattle.dl_ast.specs.declared.ast.Numeral.{Numeral}
use Rattle.dl_ast.specs.declared.ast.ListItem.{ListItem}
use Rattle.dl_ast.specs.declared.ast.ListAst.{ListAst}

abbrev pub if_there : {A B : Type 0} → (A → B) → Option A → Option B
if_there f None = None
if_there f (Some x) = Some (f x)

abbrev pub value : Numeral → Fraction
value n = numeral_value n.text

-- more than 11 digits, or a fraction over 0
abbrev pub is_bad_numeral : Numeral → Bool
is_bad_numeral n = is_bad 11 n.text

-- the value of a numeral, or a default where it is missing
abbrev pub value_or : Fraction → Option Numeral → Fraction
value_or x None = x
value_or x (Some n) = value n

-- an item of one number is that number, and a range without a step has the step 1
abbrev pub range_of : ListItem → Range
range_of i = record {
  from = value i.from;
  to = value_or (value i.from) i.to;
  step =
      value_or (whole 1) i.step;
}

-- the values of an item, a, a + s, a + 2s, and so on up to b, each with the place of the item
abbrev pub spanned_item : ListItem → List (Fraction × Span)
spanned_item i = map (λ x. (x, i.span)) (range_values (range_of i))

-- the range of an item, with the place of the item
abbrev pub spanned_range : ListItem → Range × Span
spanned_range i = (range_of i, i.span)

-- the values of a range, each with the place of the range
abbrev pub spanned_in : Range × Span → List (Fraction × Span)
spanned_in pair = map (λ x. (x, pair.1)) (range_values pair.0)

-- so many values are more than a list may have, where memory did not run out
abbrev pub AreTooMany : Bounds → ℕ → ExpandFault → Type 0
AreTooMany bounds count TooLong = bounds.values < count
AreTooMany bounds count OutOfMemory = ⊤

-- those of a list are those of its items, in order
abbrev pub spanned_values : ListAst → List (Fraction × Span)
spanned_values l = flat_map spanned_item l.items

-- the same without places
abbrev pub values_of : ListAst → List Fraction
values_of l = map (λ pair. pair.0) (spanned_values l)
