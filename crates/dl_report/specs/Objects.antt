-- A report as JSON.
use Rattle.std.specs.Prelude.{ℕ, ◌==◌, List, [], ◌∷◌, ◌++◌, if◌then◌else◌, codes, All, map}
use Rattle.std.specs.Fmt.{decimal}
use Rattle.std.specs.List.{flat_map}
use Rattle.std.specs.Str.{IsUtf8}
use Rattle.json.specs.Print.{quoted}
use Rattle.dl_exact.specs.Fraction.{Fraction}
use Rattle.dl_report.specs.declared.report.Report.{Report}
use Rattle.dl_report.specs.declared.report.Row.{Row}
use Rattle.dl_report.specs.Ends.{end_text}

-- a whole number as such, another fraction in lowest terms with a slash
unfoldable pub fraction_text : Fraction → List ℕ
fraction_text x = if x.den == 1 then decimal x.num else decimal x.num ++ codes "/" ++ decimal x.den

-- the object of a row, its members in the order of their names
abbrev pub row_object : ℕ → Row → List ℕ
row_object d row =
    codes "{\"ask\":" ++ quoted row.ask ++ codes ",\"high\":" ++ quoted (end_text d row.high)
    ++ codes ",\"low\":" ++ quoted (end_text d row.low)
    ++ codes "}"

-- texts with a comma between them
abbrev pub with_commas : List (List ℕ) → List ℕ
with_commas [] = []
with_commas (text ∷ rest) = text ++ flat_map (λ next. codes "," ++ next) rest

-- the object of a report, its members in the order of their names, and a newline
abbrev pub json_of : Report → Fraction → ℕ → List ℕ
json_of report bs cells =
    codes "{\"bs\":" ++ quoted (fraction_text bs) ++ codes ",\"cells\":" ++ decimal cells
    ++ codes ",\"rows\":[" ++ with_commas (map (row_object report.digits) report.rows)
    ++ codes "]}\n"

-- each ask is text
abbrev pub AsksAreText : Report → Type 0
AsksAreText report = All (λ row. IsUtf8 row.ask) report.rows
