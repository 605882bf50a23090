use Rattle.dl_report.proofs.Common.{◌++◌, take, codes, flat_map, row_record, HasWritten}
use Rattle.dl_report.proofs.records.csv.Given as goal

abbrev pub invariant-loop-row : goal.invariant-loop-row
invariant-loop-row l = HasWritten l.writer (codes "ask,low,high\n" ++ flat_map (row_record l.report.digits)
    (take l.row-index l.report.rows))
