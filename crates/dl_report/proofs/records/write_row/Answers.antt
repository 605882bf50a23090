use Rattle.dl_report.proofs.Common.{◌≡◌, ◌++◌, ℕ, List, refl, subst, record_text, row_record, HasWritten, OnOk}
use Rattle.dl_report.proofs.records.write_row.Goals as goal

pub returns : goal.returns
returns c =
    let same : record_text c.as_slice.result.now c.deref.result.now c.deref-2.result.now
    ≡ row_record c.args.digits c.args.row.now =
    rw (
      c.as_slice.ensures,
      c.deref.ensures.value,
      c.deref-2.ensures.value,
      c.in_ok-low.ensures.value,
      c.in_ok-high.ensures.value,
    ) refl in
    subst (λ bytes. OnOk c.write_record.result ((text : List ℕ) → HasWritten c.args.writer.now text
    → HasWritten c.write_record.new.writer
    (text ++ bytes))) same c.write_record.ensures
