use Rattle.dl_report.proofs.Common.{◌∙◌, ◌++◌, ℕ, List, [], ap, ap₂, subst, take, codes, flat_map, row_record, HasWritten, Vec, Global}
use Rattle.dl_report.proofs.Joined.{all_rows, one_more}
use Rattle.dl_report.proofs.records.csv.Goals as goal

pub loop-row-init : goal.loop-row-init
loop-row-init c =
    let from = c.from_writer-writer.ensures in
    c.in_ok-write_record.ensures [] (record {
      setup = from.cfg ∙ c.new.ensures;
      fields = from.fields;
      wrote = from.wrote;
      written = ap₂ (λ (t u : List ℕ). t ++ u) (ap (λ (v : Vec ℕ Global). v.items) from.wtr
          ∙ c.new-2.ensures.items) from.empty;
    })

pub loop-row-preserved : goal.loop-row-preserved
loop-row-preserved c =
    let front = codes "ask,low,high\n" in
    let each = row_record c.args.report.now.digits in
    let rows = c.args.report.now.rows in
    let at = c.loop-row.row-index in
    subst (HasWritten c.write_row.new.writer) (one_more rows _ c.as_slice-row-items.ensures each front at
    c.row-item.result c.loop-row-test.true c.row-item.is)
    (c.in_ok-write_row.ensures (front ++ flat_map each (take at rows)) c.loop-row.invariant)

-- the writer hands out what was written
pub returns-in-Ok : goal.returns-in-Ok
returns-in-Ok c =
    c.in-Ok.ensures.ok ∙ c.loop-row.invariant.written
    ∙ ap (λ seen. codes "ask,low,high\n" ++ flat_map (row_record c.args.report.now.digits) seen)
    (all_rows c.args.report.now.rows _ c.as_slice-row-items.ensures c.loop-row.row-index c.loop-row-test.false)
