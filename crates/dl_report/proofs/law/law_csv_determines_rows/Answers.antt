use Rattle.dl_report.proofs.Common.{codes, append_cancel_left}
use Rattle.dl_report.proofs.RowLaws.{records_told}
use Rattle.dl_report.proofs.law.law_csv_determines_rows.Goals as goal

pub returns : goal.returns
returns c = λ a b plain_a plain_b same. records_told a.digits b.digits a.rows b.rows plain_a plain_b
    (append_cancel_left (codes "ask,low,high\n") _ _ same)
