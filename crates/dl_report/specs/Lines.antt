-- A report as lines.
use Rattle.std.specs.Prelude.{ℕ, List, ◌++◌, codes, flat_map}
use Rattle.dl_report.specs.declared.report.Report.{Report}
use Rattle.dl_report.specs.declared.report.Row.{Row}
use Rattle.dl_report.specs.Ends.{end_text}

-- a row: its ask as it was written, and its two ends, with a blank between them, and a newline
abbrev pub line : ℕ → Row → List ℕ
line d row = row.ask ++ codes " " ++ end_text d row.low ++ codes " " ++ end_text d row.high
    ++ codes "\n"

-- a line for each row
abbrev pub lines_of : Report → List ℕ
lines_of report = flat_map (line report.digits) report.rows
