-- The word of an end past the grid.
use Rattle.dl_report.proofs.Common.{◌∙◌, ◌++◌, ap, sym, codes, end_text, on_ok_weaker, End}
use Rattle.dl_report.proofs.Joined.{appended}
use Rattle.dl_report.proofs.ends.push_end.Goals as goal

pub returns-in-Beyond-clause-appends : goal.returns-in-Beyond-clause-appends
unfolding end_text
returns-in-Beyond-clause-appends c =
    on_ok_weaker c.extend_from_slice.result (λ e. e ∙ ap (λ (end : End). c.args.text.now.items
    ++ end_text c.args.digits end) (sym c.in-Beyond.is)) (appended c.extend_from_slice.result _ c.args.text.now.items
    (codes "beyond") c.extend_from_slice.ensures.items)
