use Rattle.dl_measures.proofs.Common.{suc, ◌≡◌, ◌-◌, count_below, end_at}
use Rattle.dl_measures.proofs.marks.walk.Given as goal

abbrev pub invariant-loop-x : goal.invariant-loop-x
invariant-loop-x l = record {
  sum : l.sum ≡ count_below l.x (end_at l.ends);
  rest : l.rest ≡ count_below l.x (λ x. l.one - count_below (suc x) (end_at l.ends));
}
