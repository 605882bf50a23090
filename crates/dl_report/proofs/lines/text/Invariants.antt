use Rattle.dl_report.proofs.Common.{◌≡◌, take, flat_map, line}
use Rattle.dl_report.proofs.lines.text.Given as goal

abbrev pub invariant-loop-row : goal.invariant-loop-row
invariant-loop-row l = l.text.items ≡ flat_map (line l.report.digits) (take l.row-index l.report.rows)
