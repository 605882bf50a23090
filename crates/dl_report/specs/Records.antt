-- A report as comma-separated values.
use Rattle.std.specs.Prelude.{ℕ, ◌==◌, ◌||◌, Bool, List, [], ◌∷◌, ◌++◌, if◌then◌else◌, codes, flat_map}
use Rattle.std.specs.List.{list_any}
use Rattle.dl_report.specs.declared.report.Report.{Report}
use Rattle.dl_report.specs.declared.report.Row.{Row}
use Rattle.dl_report.specs.Ends.{end_text}

-- a comma, a quote mark, and the two ends of a line
abbrev pub calls_for_quotes : ℕ → Bool
calls_for_quotes byte = (byte == 44) || ((byte == 34) || ((byte == 13) || (byte == 10)))

-- each quote mark twice
abbrev pub doubled : List ℕ → List ℕ
doubled [] = []
doubled (byte ∷ rest) = if byte == 34 then 34 ∷ 34 ∷ doubled rest else byte ∷ doubled rest

-- a field: as it is, or between quote marks where a byte of it calls for them
abbrev pub field : List ℕ → List ℕ
field text = if list_any calls_for_quotes text then 34 ∷ (doubled text ++ (34 ∷ [])) else text

-- three fields with a comma between them, and a newline
abbrev pub record_text : List ℕ → List ℕ → List ℕ → List ℕ
record_text a b c = field a ++ codes "," ++ field b ++ codes "," ++ field c ++ codes "\n"

-- the record of a row
abbrev pub row_record : ℕ → Row → List ℕ
row_record d row = record_text row.ask (end_text d row.low) (end_text d row.high)

-- the names of the fields, and a record for each row
abbrev pub csv_of : Report → List ℕ
csv_of report = codes "ask,low,high\n" ++ flat_map (row_record report.digits) report.rows
