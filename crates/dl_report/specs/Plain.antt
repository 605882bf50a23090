-- Rows that can be read back from each form of a report.
use Rattle.std.specs.Prelude.{◌<◌, ◌^◌, ⊤, All}
use Rattle.dl_plan.specs.Plain.{IsPlainByte}
use Rattle.dl_report.specs.declared.report.End.{End}
use Rattle.dl_report.specs.declared.report.End.TheVariants.{Number, Whole, Beyond, Absent}
use Rattle.dl_report.specs.declared.report.Row.{Row}

-- the number of an end has at most 128 bits, and an amount at most 32
abbrev pub IsInRange : End → Type 0
IsInRange (Number n) = n < 2 ^ 128
IsInRange (Whole x) = x < 2 ^ 32
IsInRange Beyond = ⊤
IsInRange Absent = ⊤

-- a row with an ask of plain bytes, and ends in range
pub record IsPlain (row : Row) : Type 0 where
  pub ask : All IsPlainByte row.ask
  pub low : IsInRange row.low
  pub high : IsInRange row.high
