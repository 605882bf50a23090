use Rattle.dl_report.proofs.Common.{◌≢◌, ◌∙◌, ◌++◌, ℕ, List, ap, [], ◌∷◌, ap₂, row_text, writer_setup}
use Rattle.csv.specs.declared.writer.QuoteStyle.TheVariants as style
use Rattle.dl_report.proofs.CsvRecords.{same_record}
use Rattle.dl_report.proofs.records.write_record.Goals as goal
use Rattle.dl_report.proofs.records.write_record.Goals.{in-Ok, in-Err}

pub returns : goal.returns
returns c = elim c.match-write_fields.branch [
  | in-Ok w ↦ rw w.result-is (λ text h.
      let plain : (writer_setup c.args.writer.now).style ≢ style.NonNumeric = rw h.setup (λ e. cc e) in
      let wrote = w.in-Ok.ensures.bytes h.fields h.wrote plain in
      let same = same_record c.args.ask.now c.args.low.now c.args.high.now in
      record {
        setup = w.in-Ok.ensures.setup ∙ h.setup;
        fields = w.in-Ok.ensures.ended;
        wrote = w.in-Ok.ensures.clean;
        written = wrote ∙ ap₂ (λ (t u : List ℕ). t ++ u) h.written (ap (λ cfg. row_text cfg
            (c.args.ask.now ∷ c.args.low.now ∷ c.args.high.now ∷ [])) h.setup ∙ same);
      })
  | in-Err w ↦ rw w.result-is tt
]
