-- The JSON values that a report is written from.
use Rattle.std.specs.Prelude.{ℕ, List, codes}
use Rattle.serde_json.specs.Data.{Data, Items, array, member, no_members, number, object, string, unsigned}
use Rattle.dl_report.specs.declared.report.Row.{Row}
use Rattle.dl_report.specs.Ends.{end_text}

-- a row
abbrev pub row_data : ℕ → Row → Data
row_data d row =
    object (member (codes "ask") (string row.ask)
    (member (codes "high") (string (end_text d row.high))
    (member (codes "low") (string (end_text d row.low)) no_members)))

-- a bucket size, a number of cells, and rows
abbrev pub report_data : List ℕ → ℕ → Items → Data
report_data bs cells rows =
    object (member (codes "bs") (string bs)
    (member (codes "cells") (number (unsigned cells))
    (member (codes "rows") (array rows) no_members)))
