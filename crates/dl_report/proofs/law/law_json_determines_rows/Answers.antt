use Rattle.dl_report.proofs.ObjectLaws.{reports_told}
use Rattle.dl_report.proofs.law.law_json_determines_rows.Goals as goal

pub returns : goal.returns
returns c = reports_told
