-- Part behind part.
use Rattle.dl_report.proofs.Common.{◌≡◌, ◌∙◌, ◌++◌, ℕ, List, ap, codes, end_text, line, on_ok_weaker}
use Rattle.dl_report.proofs.Joined.{appended, six}
use Rattle.dl_report.proofs.lines.push_line.Goals as goal

pub returns : goal.returns
returns c =
    let front = c.args.text.now.items in
    let row = c.args.row.now in
    let ask : c.extend_from_slice.new.self.items ≡ front ++ row.ask =
    c.in_ok-extend_from_slice.ensures.items ∙ ap (λ t. front ++ t) c.as_slice.ensures in
    let before : c.push_end-2.new.text.items ++ codes "\n" ≡ front ++ line c.args.digits row =
    rw (
      c.in_ok-push_end-2.ensures.appends,
      c.in_ok-extend_from_slice-3.ensures.items,
      c.in_ok-push_end.ensures.appends,
      c.in_ok-extend_from_slice-2.ensures.items,
      ask,
    ) (six front row.ask (codes " ") (end_text c.args.digits row.low) (codes " ") (end_text c.args.digits row.high)
    (codes "\n")) in
    on_ok_weaker c.extend_from_slice-4.result (λ e. (◌∙◌) {A = List ℕ} e before)
    (appended c.extend_from_slice-4.result _ c.push_end-2.new.text.items (codes "\n")
    c.extend_from_slice-4.ensures.items)
