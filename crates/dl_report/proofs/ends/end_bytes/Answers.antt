use Rattle.dl_report.proofs.Common.{◌++◌, ap, subst, sym, ◌∙◌, IsUtf8-from_ascii, IsUtf8, end_text}
use Rattle.dl_report.proofs.ends.end_bytes.Goals as goal

pub returns-clause-utf8 : goal.returns-clause-utf8
returns-clause-utf8 c =
    let bytes = c.in_ok-push_end.ensures.appends
    ∙ ap (λ front. front ++ end_text c.args.digits c.args.end) c.new-bytes.ensures.items in
    subst IsUtf8 (sym bytes) (IsUtf8-from_ascii (end_text c.args.digits c.args.end) c.in_ok-push_end.ensures.ascii)
