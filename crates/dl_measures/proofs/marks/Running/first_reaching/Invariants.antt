use Rattle.dl_measures.proofs.Common.{ℕ, suc, ◌≡◌, ◌*◌, ◌<◌, count_below, end_at}
use Rattle.dl_measures.proofs.marks.Running.first_reaching.Given as goal

abbrev pub invariant-loop-x : goal.invariant-loop-x
invariant-loop-x l = record {
  sum : l.sum ≡ count_below l.x (end_at l.self.ends.now);
  before : (x : ℕ) → x < l.x → count_below (suc x) (end_at l.self.ends.now) * l.den < l.goal;
}
