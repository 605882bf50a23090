use Rattle.dl_measures.proofs.Common.{ℕ, suc, ◌*◌, ◌-◌, ◌<◌, ◌≤◌, length, count_below, end_at}
use Rattle.dl_measures.proofs.marks.Running.blocks_below.Given as goal

abbrev pub invariant-loop-first : goal.invariant-loop-first
invariant-loop-first l = record {
  order : l.first ≤ l.last;
  within : l.last ≤ length l.self.marks.now;
  before : (x : ℕ) → x < l.first * 64 → count_below (suc x) (end_at l.self.ends.now) * l.den < l.goal;
}

abbrev pub decreases-loop-first : goal.decreases-loop-first
decreases-loop-first l = l.last - l.first
