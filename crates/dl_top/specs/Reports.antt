-- The bytes of a report in the asked form.
use Rattle.std.specs.Prelude.{ℕ, List}
use Rattle.dl_plan.specs.declared.settings.Format.{Format}
use Rattle.dl_plan.specs.declared.settings.Format.TheVariants.{Plain, Csv, Json}
use Rattle.dl_plan.specs.declared.plan.Plan.{Plan}
use Rattle.dl_report.specs.declared.report.Report.{Report}
use Rattle.dl_report.specs.Prelude.{lines_of, csv_of, json_of}

-- the bytes of a report in this format
abbrev pub written : Format → Plan → Report → List ℕ
written Plain plan report = lines_of report
written Csv plan report = csv_of report
written Json plan report = json_of report plan.bs plan.cells
