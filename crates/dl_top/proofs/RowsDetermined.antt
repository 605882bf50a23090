-- The bytes of a report tell its rows.
use Rattle.dl_top.proofs.Common.{ℕ, ◌≡◌, ◌≤◌, ◌<◌, ◌^◌, List, [], ◌∷◌, length, All, arith, sym, subst, zip, codes, pow-le-pow_right, append_cancel_left, All-nil, All-cons, All-head, All-tail, Plan, Asked, Settings, IsValid, words_in_range, Report, Row, IsGood}
use Rattle.dl_frac.specs.Exact.{FitsFrac}
use Rattle.dl_plan.specs.declared.settings.Format.{Format}
use Rattle.dl_plan.specs.declared.settings.Format.TheVariants.{Plain, Csv, Json}
use Rattle.dl_plan.specs.Prelude.{IsBucket, IsPlainByte}
use Rattle.dl_arguments.proofs.PlainAsks.{asks_are_plain}
use Rattle.dl_report.specs.Plain.{IsPlain, IsInRange}
use Rattle.dl_report.proofs.RowLaws.{lines_told, records_told}
use Rattle.dl_report.proofs.ObjectLaws.{reports_told}
use Rattle.dl_top.specs.Reports.{written}
use Rattle.dl_top.specs.Determined.{MayWrite}
use Rattle.dl_top.proofs.ReplyLaws.{rows_have}

written_plain : (words : List (List ℕ)) (input : List ℕ) (settings : Settings) (plan : Plan) (report : Report)
    → MayWrite words input settings plan report → All IsPlain report.rows
written_plain words input settings plan report may = λ k row inside. record {
  ask = rows_have (All IsPlainByte) plan settings.digits settings.asks report.rows may.answered.1.as_many
      may.answered.1.rows (asks_are_plain words settings may.asks.say) k row inside;
  low = (may.ends k row inside).0;
  high = (may.ends k row inside).1;
}

-- a bucket size of the words fits
fits : (plan : Plan) (settings : Settings) → IsBucket settings.bs → plan.bs ≡ settings.bs → FitsFrac plan.bs
fits plan settings b e = rw e (record { num = omega (arith, b.num); den = omega (arith, b.den) })

-- a grid has few cells
few_cells : (plan : Plan) → IsValid plan → plan.cells < 2 ^ 32
few_cells plan valid = few valid.cells.0 valid.cells.2 valid.cells.3
  where
    few : (k : ℕ) → k ≤ 16 → plan.cells ≡ 2 ^ k → plan.cells < 2 ^ 32
    few k small e =
        let most : 2 ^ k ≤ 2 ^ 16 = pow-le-pow_right {n = 2} (omega (arith)) {i = k} {j = 16} small in
        omega (arith, most, e)

by_form : (format : Format) (plan : Plan) (a b : Report) → FitsFrac plan.bs → plan.cells < 2 ^ 32 → All IsPlain a.rows
    → All IsPlain b.rows
    → written format plan a ≡ written format plan b → a.rows ≡ b.rows
by_form Plain plan a b f c p q same = lines_told a.digits b.digits a.rows b.rows p q same
by_form Csv plan a b f c p q same =
    records_told a.digits b.digits a.rows b.rows p q (append_cancel_left (codes "ask,low,high\n") _ _ same)
by_form Json plan a b f c p q same = reports_told a b plan.bs plan.bs plan.cells plan.cells f f c c p q same

pub rows_told : (words : List (List ℕ)) (input : List ℕ) (settings : Settings) (plan : Plan) (a b : Report)
    → MayWrite words input settings plan a
    → MayWrite words input settings plan b → written settings.format plan a ≡ written settings.format plan b
    → a.rows ≡ b.rows
rows_told words input settings plan a b x y =
    by_form settings.format plan a b (fits plan settings
    (words_in_range words settings x.asks.say).bucket x.means.planned.bucket)
    (few_cells plan x.means.valid) (written_plain words input settings plan a x)
    (written_plain words input settings plan b y)
