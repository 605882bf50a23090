use Rattle.dl_report.proofs.Common.{◌≡◌, ◌∙◌, ◌++◌, List, ℕ, ap, map, codes, items_of, view, compact_text, has_float, fraction_text, report_data, row_data, Row}
use Rattle.dl_report.proofs.JsonObjects.{no_float, report_text}
use Rattle.dl_report.proofs.objects.json.Goals as goal

pub returns : goal.returns
returns c =
    let rows : List Row = c.args.report.now.rows in
    let digits = c.args.report.now.digits in
    let object : view c.in_ok-whole.whole ≡ report_data (fraction_text c.args.bs) c.args.cells
    (items_of (map (row_data digits) rows)) =
    c.in_ok-whole.ensures ∙ ap (report_data (fraction_text c.args.bs) c.args.cells) (ap items_of c.in_ok-rows.ensures) in
    let text = c.in_ok-text.ensures.text (ap has_float object
    ∙ no_float (fraction_text c.args.bs) c.args.cells digits rows) in
    c.in_ok-push.ensures.items ∙ ap (λ (t : List ℕ). t ++ codes "\n") (text ∙ ap compact_text object)
    ∙ report_text c.args.report.now c.args.bs c.args.cells
