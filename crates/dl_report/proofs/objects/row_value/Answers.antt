use Rattle.dl_report.proofs.Common.{◌≡◌, refl, subst, sym, codes, IsUtf8, row_data, view, IfOk, Data, member, no_members, object, string}
use Rattle.dl_report.proofs.objects.row_value.Goals as goal

pub as_text-requires : goal.as_text-requires
as_text-requires c = subst IsUtf8 (sym c.as_slice.ensures) c.requires.ask

pub as_text-requires-2 : goal.as_text-requires-2
as_text-requires-2 c = subst IsUtf8 (sym c.deref.ensures.value) c.in_ok-low.ensures.utf8

pub as_text-requires-3 : goal.as_text-requires-3
as_text-requires-3 c = subst IsUtf8 (sym c.deref-2.ensures.value) c.in_ok-high.ensures.utf8

pub returns : goal.returns
returns c =
    let same : object (member (codes "ask") (string c.as_text.result.now) (member (codes "high")
    (string c.as_text-3.result.now) (member (codes "low") (string c.as_text-2.result.now) no_members)))
    ≡ row_data c.args.digits c.args.row.now =
    rw (
      c.as_text.ensures,
      c.as_slice.ensures,
      c.as_text-2.ensures,
      c.deref.ensures.value,
      c.in_ok-low.ensures.value,
      c.as_text-3.ensures,
      c.deref-2.ensures.value,
      c.in_ok-high.ensures.value,
    ) refl in
    subst (λ (told : Data). IfOk c.row_of.result (λ value. view value ≡ told)) same c.row_of.ensures
