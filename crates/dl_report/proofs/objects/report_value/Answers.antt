use Rattle.dl_report.proofs.Common.{◌++◌, ◌∙◌, ap, subst, sym, IsUtf8-from_ascii, IsUtf8, fraction_text}
use Rattle.dl_report.proofs.objects.report_value.Goals as goal

pub as_text-requires : goal.as_text-requires
as_text-requires c =
    let bytes = c.deref.ensures.value ∙ c.in_ok-push_fraction.ensures.appends
    ∙ ap (λ front. front ++ fraction_text c.args.bs)
    c.new-size.ensures.items in
    subst IsUtf8 (sym bytes) (IsUtf8-from_ascii (fraction_text c.args.bs) c.in_ok-push_fraction.ensures.ascii)
