-- One more row.
use Rattle.dl_report.proofs.Common.{◌∙◌, ◌++◌, ap, [], line}
use Rattle.dl_report.proofs.Joined.{one_more}
use Rattle.dl_report.proofs.lines.text.Goals as goal

pub loop-row-preserved : goal.loop-row-preserved
loop-row-preserved c =
    let digits = c.args.report.now.digits in
    c.in_ok-push_line.ensures ∙ ap (λ t. t ++ line digits c.row-item.result) c.loop-row.invariant
    ∙ one_more c.args.report.now.rows _ c.as_slice-row-items.ensures (line digits) [] c.loop-row.row-index
    c.row-item.result c.loop-row-test.true c.row-item.is
