use Rattle.dl_report.proofs.Common.{◌≡◌, ◌∙◌, ◌<◌, List, ap, subst, sym, map, get_or, length, IsUtf8, row_data, Row, All-get_or}
use Rattle.dl_report.proofs.Joined.{all_rows}
use Rattle.dl_report.proofs.objects.row_values.Goals as goal

pub row_value-requires-clause-ask : goal.row_value-requires-clause-ask
row_value-requires-clause-ask c =
    let rows : List Row = c.args.report.now.rows in
    let at = c.loop-row.row-index in
    let is = c.as_slice-row-items.ensures in
    let lt : at < length rows = rw is at c.loop-row-test.true in
    let row : c.row-item.result ≡ get_or rows at c.row-item.result = rw is at c.row-item.is in
    subst (λ (row : Row). IsUtf8 row.ask) (sym row)
    (All-get_or (λ (row : Row). IsUtf8 row.ask) rows at c.row-item.result lt c.requires.asks)

pub returns : goal.returns
returns c =
    c.loop-row.invariant ∙ ap (map (row_data c.args.report.now.digits))
    (all_rows c.args.report.now.rows _ c.as_slice-row-items.ensures c.loop-row.row-index c.loop-row-test.false)
