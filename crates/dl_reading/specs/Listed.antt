-- The flaws of the atoms of a severity by the rules that ask how many values a list has: numerals,
-- ranges, lists that are too long, and lists of different lengths.
use Rattle.std.specs.Prelude.{ℕ, not, ◌==◌, length}
use Rattle.dl_limits.specs.declared.rules.Bounds.{Bounds}
use Rattle.dl_ast.specs.declared.ast.ListAst.{ListAst}
use Rattle.dl_ast.specs.declared.ast.Atom.{Atom}
use Rattle.dl_reading.specs.declared.flaws.Flaws.{Flaws}
use Rattle.dl_reading.specs.First.{at_if}
use Rattle.dl_reading.specs.Flaws.{flaws_else, flaws_within, lengths_at}
use Rattle.dl_reading.specs.Reading.{flaws_of_list, values_in}
use Rattle.dl_reading.specs.Values.{spanned_values}

-- of probabilities beside so many values
abbrev pub listed_beside : Bounds → ℕ → ListAst → Flaws
listed_beside bounds count l =
    flaws_else (flaws_of_list bounds l)
    (lengths_at (at_if (not (count == length (spanned_values l))) l.span))

abbrev pub listed_flaws : Bounds → Atom → Flaws
listed_flaws bounds a =
    flaws_else (flaws_of_list bounds a.values)
    (flaws_within (listed_beside bounds (values_in a)) a.probs)
