use Rattle.dl_answers.proofs.Common.{ℕ, ◌≡◌, ◌<◌, length, get_or, Asked, Row, IsGood, reach_of, total_of, IsPastAbove}
use Rattle.dl_answers.proofs.reports.report.Given as goal

abbrev pub invariant-loop-i : goal.invariant-loop-i
invariant-loop-i g l = record {
  as_many : length l.rows.items ≡ l.i;
  each : (k : ℕ) (a : Asked) (r : Row) → k < l.i
      → IsGood l.plan l.settings.digits (get_or l.asks k a) (get_or l.rows.items k r);
  past : (k : ℕ) (a : Asked) (r : Row) → k < l.i
      → IsPastAbove (reach_of (total_of l.ground)) (get_or l.asks k a).ask (get_or l.rows.items k r);
}
