use Rattle.dl_report.proofs.RowLaws.{lines_told}
use Rattle.dl_report.proofs.law.law_text_determines_rows.Goals as goal

pub returns : goal.returns
returns c = λ a b plain_a plain_b same. lines_told a.digits b.digits a.rows b.rows plain_a plain_b same
