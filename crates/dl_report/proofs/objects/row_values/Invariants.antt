use Rattle.dl_report.proofs.Common.{◌≡◌, map, take, view, row_data}
use Rattle.dl_report.proofs.objects.row_values.Given as goal

abbrev pub invariant-loop-row : goal.invariant-loop-row
invariant-loop-row l = map view l.rows.items ≡ map (row_data l.report.digits) (take l.row-index l.report.rows)
