-- The rows that the bytes of a report determine.
use Rattle.std.specs.Prelude.{◌≡◌, ℕ, List, All}
use Rattle.dl_plan.specs.declared.plan.Plan.{Plan}
use Rattle.dl_plan.specs.declared.settings.Settings.{Settings}
use Rattle.dl_report.specs.declared.report.Report.{Report}
use Rattle.dl_report.specs.Plain.{IsInRange}
use Rattle.dl_answers.specs.Answers.{IsAnswered}
use Rattle.dl_top.specs.Answers.{Asks, HasPlan}
use Rattle.dl_top.specs.Reports.{written}

-- the numbers of its ends are those that an end can hold
abbrev pub HoldsItsEnds : Report → Type 0
HoldsItsEnds report = All (λ row. IsInRange row.low × IsInRange row.high) report.rows

-- a report that the program may write for these words and this input, where the input means this
-- plan
pub record MayWrite (words : List (List ℕ)) (input : List ℕ) (settings : Settings) (plan : Plan)
    (report : Report) : Type 0 where
  pub asks : Asks words settings
  pub means : HasPlan input settings plan
  pub answered : IsAnswered plan settings report
  pub ends : HoldsItsEnds report

-- two such reports, written alike, have the same rows
abbrev pub DeterminesRows : Settings → Plan → Report → Report → Type 0
DeterminesRows settings plan a b = written settings.format plan a ≡ written settings.format plan b
    → a.rows ≡ b.rows
